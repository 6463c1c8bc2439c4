use Rattle.std.proofs.Common.{◌≡◌, ℕ, nat_eq, if◌then◌else◌, None, take}
use Rattle.std.specs.FinMap.{get}
use Rattle.std.specs.List.{list_any}
use Rattle.ferry_disk.specs.Acts.{acts_of}
use Rattle.ferry_disk.specs.Memory.{files_of}
use Rattle.ferry_disk.proofs.ChoiceLemmas.{left_at}
use Rattle.ferry_disk.proofs.stop.segments_left.Given as goal

-- what is left of the segments whose numbers came so far
abbrev pub invariant-loop-i : goal.invariant-loop-i
invariant-loop-i l = (q : ℕ) → get (files_of l.left).segments q
    ≡ (if list_any (nat_eq q) (take l.i l.numbers.items) then left_at l.choice (files_of l.start) (acts_of l.moment) q else None)
