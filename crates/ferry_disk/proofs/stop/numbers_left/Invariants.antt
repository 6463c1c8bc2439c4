use Rattle.std.proofs.Common.{◌≡◌, ◌++◌, map, take}
use Rattle.ferry_disk.specs.Files.{segment_numbers}
use Rattle.ferry_disk.specs.Memory.{files_of}
use Rattle.ferry_disk.proofs.stop.numbers_left.Given as goal

-- the numbers of the files and of what is listed so far
abbrev pub invariant-loop-i : goal.invariant-loop-i
invariant-loop-i l = l.numbers.items ≡ segment_numbers (files_of l.read) ++ map (λ t. t.0) (take l.i l.tails)
