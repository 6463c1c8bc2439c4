use Rattle.std.proofs.Common.{◌≡◌, ℕ, ◌<◌, ◌≤◌, drop, slice_index}
use Rattle.ferry_blob.specs.Batch.{bytes_at}
use Rattle.ferry_blob.specs.Blob.{authenticated}
use Rattle.ferry_blob.proofs.batch_sealing.encrypt_each.Given as goal

-- the buffers before the place are encrypted, and those from it on are as they were
abbrev pub invariant-loop-place : goal.invariant-loop-place
invariant-loop-place l = record {
  parts : (k : ℕ) → k < l.place
      → drop 33 (bytes_at l.buffers k) ≡ authenticated l.key (slice_index l.nonces k) (drop 43 (bytes_at l.initial.buffers k));
  left : (k : ℕ) → l.place ≤ k → bytes_at l.buffers k ≡ bytes_at l.initial.buffers k;
}
