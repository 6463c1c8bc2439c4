use Rattle.std.proofs.Common.{◌≡◌, ℕ, ◌<◌, drop, length}
use Rattle.ferry_blob.specs.Batch.{bytes_at}
use Rattle.ferry_mac.specs.Lanes.{nth_text}
use Rattle.ferry_store.proofs.piece.name_each.Given as goal

-- the texts before the place are the contents of the buffers
abbrev pub invariant-loop-place : goal.invariant-loop-place
invariant-loop-place l = record {
  size : length l.contents ≡ 64;
  texts : (k : ℕ) → k < l.place → nth_text l.contents k ≡ drop 43 (bytes_at l.buffers k);
}
