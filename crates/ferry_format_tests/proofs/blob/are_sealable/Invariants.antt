use Rattle.std.proofs.Common.{ℕ, ◌<◌, slice_index}
use Rattle.ferry_blob.specs.Batch.{IsSealable, bytes_at}
use Rattle.ferry_format_tests.proofs.blob.are_sealable.Given as goal

-- the buffers before the place can be sealed
abbrev pub invariant-loop-place : goal.invariant-loop-place
invariant-loop-place l = (k : ℕ) → k < l.place → IsSealable (slice_index l.nonces k) (bytes_at l.buffers k)
