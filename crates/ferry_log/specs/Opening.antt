-- The steps of opening a log, for the contracts of its parts.
use Rattle.std.specs.Prelude.{◌≡◌, ℕ, ◌+◌, ◌-◌, ◌<◌, ◌≤◌, ◌^◌, ◌==◌, if◌then◌else◌, min, fold, List, ◌∷◌, ◌++◌, length, drop, map, slice_index, sum_by}
use Rattle.std.specs.FinMap.Entries.{find}
use Rattle.std.specs.List.{AllByRecursion}
use Rattle.ferry_segment.specs.Entry.{LogEntry, size_of}
use Rattle.ferry_segment.specs.Segment.{Splits, Committed, BreaksAt}
use Rattle.ferry_disk.specs.Files.{Files, segment_bytes}
use Rattle.ferry_log.specs.Log.{Located, located, IsOpen, IsSegment, Joins}
use Rattle.ferry_log.specs.Live.{key_cmp, live_place}
use Rattle.ferry_log.specs.State.{size_in}
use Rattle.ferry_log.specs.declared.fault.LogFault.{LogFault}
use Rattle.ferry_log.specs.declared.fault.LogFault.TheVariants.{NoCommit, Damaged, Device, Memory}
use Rattle.ferry_log.specs.declared.place.Extent.{Extent}
use Rattle.ferry_log.specs.declared.place.Place.{Place}

-- ---- the end of the log

-- So many of these segments are in the log: the last of them is committed, and none behind it.
pub record EndsAt (files : Files) (numbers : List ℕ) (count : ℕ) : Type 0 where
  pub committed : Committed (segment_bytes files (slice_index numbers (count - 1)))
  pub open_above : AllByRecursion (IsOpen files) (drop count numbers)

-- Why the end of the log isn't found: none of these segments is committed.
abbrev pub HasNoEnd : Files → List ℕ → LogFault → Type 0
HasNoEnd files numbers NoCommit = AllByRecursion (IsOpen files) numbers
HasNoEnd files numbers (Damaged segment at) = ⊥
HasNoEnd files numbers Device = Unit {0}
HasNoEnd files numbers Memory = Unit {0}

-- a fault of the device or of memory, and none of the files
abbrev pub IsOutside : LogFault → Type 0
IsOutside NoCommit = ⊥
IsOutside (Damaged segment at) = ⊥
IsOutside Device = Unit {0}
IsOutside Memory = Unit {0}

-- ---- places of keys

-- pairs of keys and places, as a map has them
abbrev pub Pairs : Type 0
Pairs = List (List ℕ × Place)

-- the sizes of the entries of a segment whose places these pairs have, added up
abbrev pub sum_in : ℕ → Pairs → ℕ
sum_in segment pairs = sum_by (λ p. size_in segment p.1) pairs

-- the sizes of a segment's entries in a log, added up
abbrev pub entries_in : ℕ → List Located → ℕ
entries_in segment log = sum_by (λ e. if e.segment == segment then size_of e.entry else 0) log

-- an entry with its place
abbrev pub entry_at : ℕ → ℕ → LogEntry → Located
entry_at segment at entry = record { segment = segment; at = at; entry = entry }

-- the pairs have the places of the live keys of a log
abbrev pub HasPlaces : Pairs → List Located → Type 0
HasPlaces pairs log = (key : List ℕ) → find key_cmp key pairs ≡ live_place key log

-- Where the old pairs are those of a log, the new ones are those of the log with these entries behind it.
pub record TakesEntries (entries : List Located) (old new : Pairs) : Type 0 where
  pub places : (log : List Located) → HasPlaces old log → HasPlaces new (log ++ entries)
  pub bound : (segment : ℕ) → sum_in segment new ≤ sum_in segment old + entries_in segment entries

-- ---- segments

-- The bytes of a segment are split, and the pairs go on with its entries.
pub record TakesSegment (segment : ℕ) (bytes : List ℕ) (old new : Pairs) : Type 0 where
  pub entries : List LogEntry
  pub split : Splits bytes entries
  pub takes : TakesEntries (located segment 8 entries) old new

-- Why a segment isn't taken: its first place that doesn't read.
abbrev pub IsUnread : ℕ → List ℕ → LogFault → Type 0
IsUnread segment bytes NoCommit = ⊥
IsUnread segment bytes (Damaged number at) = (number ≡ segment) × BreaksAt bytes at
IsUnread segment bytes Device = Unit {0}
IsUnread segment bytes Memory = Unit {0}

-- a segment of which no live entry is counted
abbrev pub uncounted : ℕ → ℕ → Extent
uncounted segment size = record { segment = segment; size = size; live = 0 }

-- The pairs and the extents are those of these segments.
pub record HasTaken (files : Files) (numbers : List ℕ) (pairs : Pairs) (extents : List Extent) : Type 0 where
  pub log : List Located
  pub joined : Joins files numbers log
  pub places : HasPlaces pairs log
  pub bound : (segment : ℕ) → sum_in segment pairs ≤ entries_in segment log
  pub small : AllByRecursion (λ n. length (segment_bytes files n) < 2 ^ 64) numbers
  pub lengths : extents ≡ map (λ n. uncounted n (length (segment_bytes files n))) numbers

-- Why segments aren't taken: the first that doesn't read, behind others that do.
abbrev pub IsStopped : Files → List ℕ → LogFault → Type 0
IsStopped files numbers NoCommit = ⊥
IsStopped files numbers (Damaged segment at) =
    (before : List ℕ) × (after : List ℕ) × (numbers ≡ before ++ segment ∷ after)
    × AllByRecursion (IsSegment files) before × BreaksAt (segment_bytes files segment) at
IsStopped files numbers Device = Unit {0}
IsStopped files numbers Memory = Unit {0}

-- ---- extents

-- the extent with the size of the entry whose blob lies here, where it lies in its segment: at most 2^64 - 1 bytes
abbrev pub counted_one : Place → Extent → Extent
counted_one place extent = record extent {
  live = if place.segment == extent.segment then min (extent.live + (place.size + 41)) (2 ^ 64 - 1) else extent.live;
}

-- the same with the sizes of the entries of these pairs
abbrev pub counted_live : Pairs → Extent → Extent
counted_live pairs extent = fold (λ e p. counted_one p.1 e) extent pairs
