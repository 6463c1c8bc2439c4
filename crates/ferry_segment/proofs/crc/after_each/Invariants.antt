use Rattle.std.proofs.Common.{◌≡◌, drop}
use Rattle.ferry_segment.specs.Crc.{register_after}
use Rattle.ferry_segment.proofs.crc.after_each.Given as goal

-- what is left, from the register so far, gives the register after all
abbrev pub invariant-loop-byte : goal.invariant-loop-byte
invariant-loop-byte l = register_after l.after (drop l.byte-index l.bytes) ≡ register_after l.register l.bytes
