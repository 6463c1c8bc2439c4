use Rattle.std.proofs.Common.{ℕ, ◌<◌, get_or, None}
use Rattle.ferry_disk.specs.Acts.{acts_of}
use Rattle.ferry_disk.specs.Memory.{files_of}
use Rattle.ferry_disk.specs.Sizes.{cut_acts, AllowsAt}
use Rattle.ferry_disk.proofs.sizes.allows_tails.Given as goal

-- what is listed so far may be left
abbrev pub invariant-loop-i : goal.invariant-loop-i
invariant-loop-i l = (k : ℕ) → k < l.i → AllowsAt (files_of l.start) (cut_acts l.cut (acts_of l.acts)) l.tails (get_or l.tails k (0, None)).0
