use Rattle.std.proofs.Common.{◌≡◌, ◌<◌, ◌∙◌, [], Err, length, set, get_or, arith, below_more, length-set, get_or-set_other, get_or-set_same}
use Rattle.ferry_blob.specs.Batch.{answer_at, answer_under, id_at, is_id}
use Rattle.ferry_blob.specs.declared.fault.BlobFault.TheVariants.{Short}
use Rattle.ferry_blob.proofs.BatchLemmas.{answer_named}
use Rattle.ferry_blob.proofs.many_opening.put_answers.Goals as goal

pub loop-place-preserved : goal.loop-place-preserved
loop-place-preserved c =
    let place = c.loop-place.place in
    let r = c.answer_under.result in
    let now = c.loop-place.answers in
    let few : place < length now = omega (arith, c.loop-place.invariant.size) in
    record {
      size = omega (arith, length-set now place r, c.loop-place.invariant.size);
      under =
          below_more
          (λ k. answer_at (set now place r) k
          ≡ answer_under (is_id (id_at c.args.ids.now k) (get_or c.args.names.now k [])) (answer_at c.args.answers.now k))
          place
          (λ k before. get_or-set_other now place k r (Err Short) (omega arith) ∙ c.loop-place.invariant.under k before)
          (get_or-set_same now place r (Err Short) few
          ∙ answer_named c.args.ids.now (get_or c.args.names.now place []) now c.args.answers.now place r (omega (arith, c.loop-place.invariant.size)) few
          c.answer_under.ensures.answer (c.loop-place.invariant.left place (omega arith)));
      left = λ k behind. get_or-set_other now place k r (Err Short) (omega arith) ∙ c.loop-place.invariant.left k (omega arith);
    }
