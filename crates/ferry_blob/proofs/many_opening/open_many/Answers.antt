use Rattle.std.proofs.Common.{[], ◌∙◌, get_or, arith}
use Rattle.ferry_blob.specs.Batch.{answer_at, bytes_at, id_at}
use Rattle.ferry_blob.proofs.BatchLemmas.{opened_named}
use Rattle.ferry_blob.proofs.many_opening.open_many.Goals as goal

pub returns : goal.returns
returns c = record {
  size = c.put_answers.ensures.size ∙ c.open_each.ensures.size;
  opened = λ k low.
      opened_named c.args.keys.now (id_at c.args.ids.now k) (bytes_at c.args.blobs.now k) (bytes_at c.open_each.new.blobs k)
      (get_or c.ids_of_opened-names.result k []) (answer_at c.open_each.new.answers k) (answer_at c.put_answers.new.answers k)
      (c.open_each.ensures.opened k low) (c.ids_of_opened-names.ensures.ids k (omega arith))
      (c.put_answers.ensures.answers k (omega (arith, c.open_each.ensures.size)));
}
