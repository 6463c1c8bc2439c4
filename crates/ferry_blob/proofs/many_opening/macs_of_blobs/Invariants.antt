use Rattle.std.proofs.Common.{◌≡◌, ℕ, ◌<◌, ◌≤◌, true, drop, length, slice_index}
use Rattle.ferry_mac.specs.Lanes.{nth_text}
use Rattle.ferry_blob.specs.Batch.{bytes_at}
use Rattle.ferry_blob.specs.Blob.{has_type}
use Rattle.ferry_blob.proofs.many_opening.macs_of_blobs.Given as goal

-- the texts before the place are the authenticated parts
abbrev pub invariant-loop-place : goal.invariant-loop-place
invariant-loop-place l = record {
  size : length l.texts ≡ 64;
  texts : (k : ℕ) → k < l.place → 43 ≤ length (bytes_at l.blobs k) → has_type (slice_index (bytes_at l.blobs k) 0) ≡ true
      → nth_text l.texts k ≡ drop 33 (bytes_at l.blobs k);
}
