use Rattle.std.proofs.Common.{◌≡◌, length, ℕ, ◌<◌, ◌≤◌}
use Rattle.ferry_base.specs.Limits.{zero_id}
use Rattle.ferry_blob.specs.Batch.{IsOpened, answer_at, bytes_at}
use Rattle.ferry_blob.proofs.many_opening.open_each.Given as goal

-- the blobs before the place are opened, and those from it on are as they were
abbrev pub invariant-loop-place : goal.invariant-loop-place
invariant-loop-place l = record {
  size : length l.answers ≡ length l.initial.answers;
  opened : (k : ℕ) → k < l.place → IsOpened l.keys zero_id (bytes_at l.initial.blobs k) (answer_at l.answers k) (bytes_at l.blobs k);
  left : (k : ℕ) → l.place ≤ k → bytes_at l.blobs k ≡ bytes_at l.initial.blobs k;
}
