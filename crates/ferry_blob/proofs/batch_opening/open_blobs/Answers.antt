use Rattle.std.proofs.Common.{[], get_or}
use Rattle.ferry_blob.specs.Batch.{answer_at, bytes_at, id_at}
use Rattle.ferry_blob.proofs.BatchLemmas.{opened_named}
use Rattle.ferry_blob.proofs.batch_opening.open_blobs.Goals as goal

pub returns : goal.returns
returns c = record {
  opened = λ k few.
      opened_named c.args.keys.now (id_at c.args.ids.now k) (bytes_at c.args.blobs.now k) (bytes_at c.open_each-answers.new.blobs k)
      (get_or c.ids_of_opened-names.result k []) (answer_at c.open_each-answers.result k) (answer_at c.answers_under.result k)
      (c.open_each-answers.ensures.opened k few) (c.ids_of_opened-names.ensures.ids k few) (c.answers_under.ensures.answers k few);
}
