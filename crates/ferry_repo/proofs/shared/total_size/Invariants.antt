use Rattle.std.proofs.Common.{◌≡◌, ◌^◌, ◌-◌, min, take}
use Rattle.ferry_repo.specs.Shared.{total_size}
use Rattle.ferry_repo.proofs.shared.total_size.Given as goal

-- the sum of the sizes so far, as far as a number of 128 bits goes
abbrev pub invariant-loop-place : goal.invariant-loop-place
invariant-loop-place l = l.total ≡ min (total_size (take l.place l.chunks)) (2 ^ 128 - 1)
