use Rattle.std.proofs.Common.{◌≡◌, take}
use Rattle.ferry_disk.specs.Act.{applied}
use Rattle.ferry_disk.specs.Acts.{acts_of}
use Rattle.ferry_disk.specs.Memory.{files_of}
use Rattle.ferry_disk.proofs.stop.after_moment.Given as goal

-- the files after the acts so far
abbrev pub invariant-loop-i : goal.invariant-loop-i
invariant-loop-i l = files_of l.files ≡ applied (files_of l.start) (acts_of (take l.i l.moment))
