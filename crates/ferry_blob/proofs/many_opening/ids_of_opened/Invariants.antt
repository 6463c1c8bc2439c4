use Rattle.std.proofs.Common.{◌≡◌, ℕ, ◌<◌, IsOk, drop, length}
use Rattle.ferry_mac.specs.Lanes.{nth_text}
use Rattle.ferry_blob.specs.Batch.{answer_at, bytes_at}
use Rattle.ferry_blob.proofs.many_opening.ids_of_opened.Given as goal

-- the texts before the place are the contents of what was opened
abbrev pub invariant-loop-place : goal.invariant-loop-place
invariant-loop-place l = record {
  size : length l.texts ≡ 64;
  texts : (k : ℕ) → k < l.place → IsOk (answer_at l.answers k) → nth_text l.texts k ≡ drop 43 (bytes_at l.blobs k);
}
