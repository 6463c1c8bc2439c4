use Rattle.std.proofs.Common.{◌<◌, ◌∙◌, Err, length, ap, inl, inr, arith, length-set, get_or-set_other}
use Rattle.std.proofs.lemmas.Bool.{cases_lt}
use Rattle.ferry_blob.specs.declared.fault.BlobFault.TheVariants.{Short}
use Rattle.ferry_blob.proofs.BatchLemmas.{bytes_at-other, bytes_at-past, bytes_at-read, opened_more, opened_past}
use Rattle.ferry_blob.proofs.batch_opening.open_each.Goals as goal

pub loop-place-preserved : goal.loop-place-preserved
loop-place-preserved c =
    let place = c.loop-place.place in
    let low : place < length c.loop-place.blobs = omega arith in
    let few : place < length c.loop-place.answers = omega arith in
    let was = c.as_mut_slice-blob.ensures.value ∙ bytes_at-read c.loop-place.blobs place c.index-blobs-place.result low in
    let same = was ∙ c.loop-place.invariant.left place (omega arith) in
    record {
      size = omega (arith, length-set c.loop-place.answers place c.open_by_mac.result);
      opened =
          opened_more c.args.keys.now c.args.blobs.now c.loop-place.blobs c.loop-place.answers place c.index-blobs-place.result c.open_by_mac.new.blob
          c.open_by_mac.result low few (omega (arith, ap length was)) c.loop-place.invariant.opened
          (rw same at c.open_by_mac.ensures.opened);
      left = λ k behind. bytes_at-other c.loop-place.blobs place k _ (omega arith) ∙ c.loop-place.invariant.left k (omega arith);
      unanswered = λ k behind.
          get_or-set_other c.loop-place.answers place k c.open_by_mac.result (Err Short) (omega arith) ∙ c.loop-place.invariant.unanswered k (omega arith);
    }

pub returns : goal.returns
returns c = record {
  opened = λ k few.
      elim (cases_lt k c.loop-place.place) [
        | inl before ↦ c.loop-place.invariant.opened k before
        | inr behind ↦ opened_past c.args.keys.now _ _ _ _ (c.loop-place.invariant.unanswered k behind)
            (bytes_at-past c.args.blobs.now k (omega arith)) (c.loop-place.invariant.left k behind)
      ];
}
