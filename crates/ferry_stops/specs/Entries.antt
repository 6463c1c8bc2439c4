-- What a repository's files show: the entries of the segments up to the last commit, by the segments' numbers (BorgBackup 1.2, Internals,
-- Repository, and "Data structures and file formats", Segments).
use Rattle.std.specs.Prelude.{◌≡◌, ℕ, zero, suc, ◌≤◌, List, [], ◌++◌, Option, Some, None}
use Rattle.std.specs.FinMap.{get}
use Rattle.ferry_disk.specs.Files.{Files}
use Rattle.ferry_segment.specs.Entry.{LogEntry}
use Rattle.ferry_segment.specs.Segment.{Splits, Committed}

-- A segment that is there has the entries into which its bytes split; one that isn't there has none.
abbrev pub SegmentHas : Option (List ℕ) → List LogEntry → Type 0
SegmentHas None entries = entries ≡ []
SegmentHas (Some bytes) entries = Splits bytes entries

-- The segments below a number have these entries, joined by increasing number.
unfoldable pub HaveBelow : Files → ℕ → List LogEntry → Type 0
HaveBelow files zero entries = entries ≡ []
HaveBelow files (suc n) entries =
    (front : List LogEntry) × (last : List LogEntry) × HaveBelow files n front × SegmentHas (get files.segments n) last × (entries ≡ front ++ last)

-- A segment isn't there, or isn't committed.
abbrev pub IsOpen : Option (List ℕ) → Type 0
IsOpen None = Unit {0}
IsOpen (Some bytes) = Committed bytes → ⊥

-- No segment from a number on is committed.
abbrev pub OpenFrom : Files → ℕ → Type 0
OpenFrom files end = (n : ℕ) → end ≤ n → IsOpen (get files.segments n)

-- The last segment below the end is committed, and the segments below the end have these entries.
pub record EndsAt (files : Files) (end : ℕ) (entries : List LogEntry) : Type 0 where
  pub last : ℕ
  pub end_is : end ≡ suc last
  pub bytes : List ℕ
  pub there : get files.segments last ≡ Some bytes
  pub committed : Committed bytes
  pub entries_are : HaveBelow files end entries

-- What is committed below an end: these entries; or nothing, where the end is the first number.
abbrev pub CommittedBelow : Files → ℕ → Option (List LogEntry) → Type 0
CommittedBelow files end None = end ≡ 0
CommittedBelow files end (Some entries) = EndsAt files end entries

-- The same, and no segment from the end on is committed.
pub record ShowsAt (files : Files) (end : ℕ) (committed : Option (List LogEntry)) : Type 0 where
  pub below : CommittedBelow files end committed
  pub open_above : OpenFrom files end

-- The files show these entries: those up to the last committed segment, each segment below it read; or none, where no segment is committed.
abbrev pub Shows : Files → Option (List LogEntry) → Type 0
Shows files committed = (end : ℕ) × ShowsAt files end committed

-- No segment is committed, or the segments up to the last committed one read.
abbrev pub ShowsSomething : Files → Type 0
ShowsSomething files = (committed : Option (List LogEntry)) × Shows files committed
