-- What is read at a place of a segment: the head of the entry that begins there, or that the segment ends there.
use Rattle.std.specs.Prelude.{◌≡◌, ℕ, List, length, Option, Some, None}
use Rattle.ferry_segment.specs.Entry.{LogEntry}
use Rattle.ferry_segment.specs.Head.{BeginsAt, HasHead}
use Rattle.ferry_segment.specs.declared.head.Head.{Head}
use Rattle.ferry_log.specs.declared.fault.LogFault.{LogFault}
use Rattle.ferry_log.specs.declared.fault.LogFault.TheVariants.{NoCommit, Damaged, Device, Memory}

-- what is read at a place: nothing at the segment's end, else the head of the entry there
abbrev pub IsHeadAt : List ℕ → ℕ → Option Head → Type 0
IsHeadAt bytes at None = at ≡ length bytes
IsHeadAt bytes at (Some head) = HasHead bytes at head

-- nothing is read at a place: neither the segment's end nor an entry is there
abbrev pub IsUnreadAt : List ℕ → ℕ → Type 0
IsUnreadAt bytes at = (at ≡ length bytes → ⊥) × ((entry : LogEntry) → BeginsAt bytes at entry → ⊥)

-- A refusal names the segment and the place that were asked for.
abbrev pub NamesPlace : ℕ → ℕ → LogFault → Type 0
NamesPlace segment at NoCommit = ⊥
NamesPlace segment at (Damaged number place) = (number ≡ segment) × (place ≡ at)
NamesPlace segment at Device = Unit {0}
NamesPlace segment at Memory = Unit {0}

-- Why no head is read: nothing reads at this place.
abbrev pub IsHeadless : List ℕ → ℕ → LogFault → Type 0
IsHeadless bytes at NoCommit = ⊥
IsHeadless bytes at (Damaged number place) = IsUnreadAt bytes at
IsHeadless bytes at Device = Unit {0}
IsHeadless bytes at Memory = Unit {0}
