use Rattle.std.proofs.Common.{◌≡◌, nat_eq, drop}
use Rattle.std.specs.Map.{lookup}
use Rattle.ferry_disk.proofs.sizes.tail_listed.Given as goal

-- the segment isn't listed so far
abbrev pub invariant-loop-i : goal.invariant-loop-i
invariant-loop-i l = lookup (nat_eq l.segment) l.tails ≡ lookup (nat_eq l.segment) (drop l.i l.tails)
