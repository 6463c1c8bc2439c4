use Rattle.std.proofs.Common.{◌≡◌, ℕ, ◌<◌, length, slice_index}
use Rattle.ferry_blob.specs.Batch.{IsSealable, bytes_at}
use Rattle.ferry_store.proofs.store.Store.foresee.Given as goal

-- the contents before the place may be sealed with the numbers that were noted
abbrev pub invariant-loop-place : goal.invariant-loop-place
invariant-loop-place l = record {
  size : length l.nonces ≡ 64;
  sealable : (k : ℕ) → k < l.place → IsSealable (slice_index l.nonces k) (bytes_at l.buffers k);
}
