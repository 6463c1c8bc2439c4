use Rattle.std.proofs.Common.{◌≡◌, ℕ, ◌≤◌, ◌∙◌, true, List, drop, length, slice_index, ap, arith, length-set}
use Rattle.ferry_mac.specs.Hmac.{hmac256}
use Rattle.ferry_blob.specs.Batch.{bytes_at}
use Rattle.ferry_blob.specs.Blob.{has_type}
use Rattle.ferry_blob.proofs.ManyLemmas.{put_more}
use Rattle.ferry_blob.proofs.many_opening.macs_of_blobs.Goals as goal

pub loop-place-preserved : goal.loop-place-preserved
loop-place-preserved c = record {
  size = omega (arith, length-set c.loop-place.texts c.loop-place.place c.authenticated_part.result, c.loop-place.invariant.size);
  texts =
      put_more c.loop-place.texts c.loop-place.place c.authenticated_part.result
      (λ (k : ℕ) (text : List ℕ). 43 ≤ length (bytes_at c.args.blobs.now k) → has_type (slice_index (bytes_at c.args.blobs.now k) 0) ≡ true
      → text ≡ drop 33 (bytes_at c.args.blobs.now k))
      (omega (arith, c.loop-place.invariant.size)) c.loop-place.invariant.texts
      (rw c.bytes_at.ensures.bytes at c.authenticated_part.ensures.part);
}

pub returns : goal.returns
returns c = record {
  macs = λ k low room kind.
      c.macs_of_first.ensures.macs k low ∙ ap (hmac256 c.args.keys.now.enc_hmac_key) (c.loop-place.invariant.texts k (omega arith) room kind);
}
