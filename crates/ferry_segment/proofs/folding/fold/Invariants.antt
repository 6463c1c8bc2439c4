use Rattle.std.proofs.Common.{◌≡◌, ◌≤◌, ◌-◌, length, drop}
use Rattle.ferry_segment.specs.Crc.{register_after}
use Rattle.ferry_segment.proofs.folding.fold.Given as goal

-- what is left leaves what all bytes leave
abbrev pub invariant-loop-bytes : goal.invariant-loop-bytes
invariant-loop-bytes l = record {
  within : l.at ≤ length l.bytes;
  same_length : length l.bytes ≡ length l.fn.bytes;
  left : register_after 0 (drop l.at l.bytes) ≡ register_after 0 l.fn.bytes;
}

abbrev pub decreases-loop-bytes : goal.decreases-loop-bytes
decreases-loop-bytes l = length l.fn.bytes - l.at
