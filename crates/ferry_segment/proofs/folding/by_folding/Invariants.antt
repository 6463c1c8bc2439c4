use Rattle.std.proofs.Common.{◌≡◌, ◌≤◌, ◌-◌, length, drop}
use Rattle.ferry_segment.specs.Crc.{register_after}
use Rattle.ferry_segment.proofs.folding.by_folding.Given as goal

-- what is left, from the register so far, gives the register after all
abbrev pub invariant-loop-at : goal.invariant-loop-at
invariant-loop-at l = record {
  within : l.at ≤ length l.bytes;
  left : register_after l.after (drop l.at l.bytes) ≡ register_after l.register l.bytes;
}

abbrev pub decreases-loop-at : goal.decreases-loop-at
decreases-loop-at l = length l.bytes - l.at
