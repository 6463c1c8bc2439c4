-- A segment (BorgBackup 1.2, Internals, Data structures and file formats, Segments): the eight bytes BORG_SEG,
-- and log entries one after another.
use Rattle.std.specs.Prelude.{◌≡◌, ℕ, suc, ◌+◌, ◌<◌, ◌⊎◌, Bool, true, false, List, [], ◌∷◌, ◌++◌, length, replicate, Some}
use Rattle.std.specs.List.{flat_map, AllByRecursion}
use Rattle.ferry_segment.specs.declared.entry.EntryFault.{EntryFault}
use Rattle.ferry_segment.specs.Entry.{LogEntry, PutEntry, DeleteEntry, CommitEntry, spelling, Fits, first_fault}

-- BORG_SEG
abbrev pub magic : List ℕ
magic = 66 ∷ 79 ∷ 82 ∷ 71 ∷ 95 ∷ 83 ∷ 69 ∷ 71 ∷ []

-- the spellings of entries, joined
abbrev pub spellings : List LogEntry → List ℕ
spellings entries = flat_map spelling entries

-- these bytes are the magic and the spellings of these entries
pub record Splits (bytes : List ℕ) (entries : List LogEntry) : Type 0 where
  pub fit : AllByRecursion Fits entries
  pub whole : bytes ≡ magic ++ spellings entries

-- whether an entry is a COMMIT
abbrev pub commits : LogEntry → Bool
commits (PutEntry key blob) = false
commits (DeleteEntry key) = false
commits CommitEntry = true

-- an entry other than a COMMIT
abbrev pub IsData : LogEntry → Type 0
IsData entry = commits entry ≡ false

-- the last entry is a COMMIT, and nothing but COMMITs follows the first
pub record IsClosed (entries : List LogEntry) : Type 0 where
  pub before : List LogEntry
  pub commits : ℕ
  pub data_before : AllByRecursion IsData before
  pub then_commits : entries ≡ before ++ replicate (suc commits) CommitEntry

-- a committed segment
pub record Committed (bytes : List ℕ) : Type 0 where
  pub entries : List LogEntry
  pub split : Splits bytes entries
  pub closed : IsClosed entries

-- The entry at this place is the first that doesn't read: the entries before it read, bytes are left, and they break a rule.
pub record BreaksInEntry (bytes : List ℕ) (at : ℕ) : Type 0 where
  pub before : List LogEntry
  pub left : List ℕ
  pub fault : EntryFault
  pub fit : AllByRecursion Fits before
  pub whole : bytes ≡ magic ++ (spellings before ++ left)
  pub some_left : 0 < length left
  pub broken : first_fault left ≡ Some fault
  pub place : at ≡ 8 + length (spellings before)

-- these bytes begin with the magic
abbrev pub HasMagic : List ℕ → Type 0
HasMagic bytes = (left : List ℕ) × (bytes ≡ magic ++ left)

-- The bytes are no segment, and this is the first place that doesn't read: 0 where they don't begin with the magic.
abbrev pub BreaksAt : List ℕ → ℕ → Type 0
BreaksAt bytes at = ((HasMagic bytes → ⊥) × (at ≡ 0)) ⊎ BreaksInEntry bytes at
