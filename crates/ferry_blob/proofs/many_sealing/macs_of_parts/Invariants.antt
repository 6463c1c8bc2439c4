use Rattle.std.proofs.Common.{◌≡◌, ℕ, ◌<◌, drop, length}
use Rattle.ferry_mac.specs.Lanes.{nth_text}
use Rattle.ferry_blob.specs.Batch.{bytes_at}
use Rattle.ferry_blob.proofs.many_sealing.macs_of_parts.Given as goal

-- the parts before the place are those of the buffers
abbrev pub invariant-loop-place : goal.invariant-loop-place
invariant-loop-place l = record {
  size : length l.parts ≡ 64;
  parts : (k : ℕ) → k < l.place → nth_text l.parts k ≡ drop 33 (bytes_at l.buffers k);
}
