use Rattle.std.proofs.Common.{◌≡◌, ◌<◌, ◌∙◌, [], Err, length, set, get_or, inl, inr, sym, arith, below_more, length-set, get_or-set_other, get_or-set_same}
use Rattle.std.proofs.lemmas.Bool.{cases_lt}
use Rattle.ferry_blob.specs.Batch.{answer_at, answer_under, id_at, is_id}
use Rattle.ferry_blob.specs.declared.fault.BlobFault.TheVariants.{Short}
use Rattle.ferry_blob.proofs.BatchLemmas.{answer_named, answer_unnamed}
use Rattle.ferry_blob.proofs.batch_opening.answers_under.Goals as goal

pub loop-place-preserved : goal.loop-place-preserved
loop-place-preserved c =
    let place = c.loop-place.place in
    let r = c.answer_under.result in
    let few : place < length c.loop-place.under = omega arith in
    record {
      size = omega (arith, length-set c.loop-place.under place r);
      under =
          below_more
          (λ k. answer_at (set c.loop-place.under place r) k
          ≡ answer_under (is_id (id_at c.args.ids.now k) (get_or c.args.names.now k [])) (answer_at c.args.answers k))
          place
          (λ k before. get_or-set_other c.loop-place.under place k r (Err Short) (omega arith) ∙ c.loop-place.invariant.under k before)
          (get_or-set_same c.loop-place.under place r (Err Short) few
          ∙ answer_named c.args.ids.now (get_or c.args.names.now place []) c.loop-place.under c.args.answers place r c.loop-place-test.true few
          c.answer_under.ensures.answer (c.loop-place.invariant.left place (omega arith)));
      left = λ k behind. get_or-set_other c.loop-place.under place k r (Err Short) (omega arith) ∙ c.loop-place.invariant.left k (omega arith);
    }

pub returns : goal.returns
returns c = record {
  answers = λ k few.
      elim (cases_lt k c.loop-place.place) [
        | inl before ↦ c.loop-place.invariant.under k before
        | inr behind ↦ c.loop-place.invariant.left k behind
            ∙ sym (answer_unnamed c.args.ids.now k (get_or c.args.names.now k []) (answer_at c.args.answers k) (omega arith))
      ];
}
