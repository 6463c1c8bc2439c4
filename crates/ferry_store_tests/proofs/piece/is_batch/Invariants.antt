use Rattle.std.proofs.Common.{ℕ, ◌<◌}
use Rattle.ferry_blob.specs.Batch.{bytes_at}
use Rattle.ferry_store.specs.Piece.{HasSize}
use Rattle.ferry_store_tests.proofs.piece.is_batch.Given as goal

-- the buffers before the place have such a size
abbrev pub invariant-loop-place : goal.invariant-loop-place
invariant-loop-place l = (k : ℕ) → k < l.place → HasSize (bytes_at l.buffers k)
