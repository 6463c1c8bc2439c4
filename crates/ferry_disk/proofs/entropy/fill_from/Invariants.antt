use Rattle.std.proofs.Common.{◌≡◌, take}
use Rattle.ferry_disk.specs.Stream.{stream}
use Rattle.ferry_disk.proofs.entropy.fill_from.Given as goal

-- the bytes so far are those of the places from `at` on
abbrev pub invariant-loop-k : goal.invariant-loop-k
invariant-loop-k l = take l.k l.into ≡ stream l.at l.k
