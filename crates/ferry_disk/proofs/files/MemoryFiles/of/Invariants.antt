use Rattle.std.proofs.Common.{◌≡◌, map}
use Rattle.ferry_disk.specs.Memory.{files_of, files_given}
use Rattle.ferry_disk.proofs.files.MemoryFiles.of.Given as goal

-- the files so far are those that the entries so far give
abbrev pub invariant-loop-name : goal.invariant-loop-name
invariant-loop-name l = files_of l.all ≡ files_given (map (λ e. (e.0, e.1.items)) l.yielded)
