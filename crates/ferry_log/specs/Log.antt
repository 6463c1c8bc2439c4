-- The committed log of a repository (BorgBackup 1.2, Internals, Repository: "Log entries are either PUT, DELETE or COMMIT"):
-- the entries of all segments up to the last committed one, in the order of the segments' numbers.
use Rattle.std.specs.Prelude.{◌≡◌, ℕ, ◌+◌, List, [], ◌∷◌, ◌++◌, filter, nat_le}
use Rattle.std.specs.List.{AllByRecursion}
use Rattle.ferry_segment.specs.Entry.{LogEntry, size_of}
use Rattle.ferry_segment.specs.Segment.{Splits, Committed, BreaksAt}
use Rattle.ferry_disk.specs.Files.{Files, segment_numbers, segment_bytes}

-- an entry of the log, with its segment and the place in it where it begins
pub record Located : Type 0 where
  pub segment : ℕ
  pub at : ℕ
  pub entry : LogEntry

-- the entries of a segment, one behind the other from this place on
abbrev pub located : ℕ → ℕ → List LogEntry → List Located
located segment at [] = []
located segment at (e ∷ es) = record { segment = segment; at = at; entry = e } ∷ located segment (at + size_of e) es

-- a segment that isn't committed
abbrev pub IsOpen : Files → ℕ → Type 0
IsOpen files number = Committed (segment_bytes files number) → ⊥

-- the transaction: the greatest number of a committed segment
pub record IsTransaction (files : Files) (transaction : ℕ) : Type 0 where
  pub below : List ℕ
  pub above : List ℕ
  pub numbers : segment_numbers files ≡ below ++ transaction ∷ above
  pub committed : Committed (segment_bytes files transaction)
  pub open_above : AllByRecursion (IsOpen files) above

-- the numbers of the segments up to a transaction, increasing
abbrev pub numbers_up_to : Files → ℕ → List ℕ
numbers_up_to files transaction = filter (λ n. nat_le n transaction) (segment_numbers files)

-- no segment is committed
abbrev pub IsUncommitted : Files → Type 0
IsUncommitted files = AllByRecursion (IsOpen files) (segment_numbers files)

-- the bytes of a segment are entries behind a magic
abbrev pub IsSegment : Files → ℕ → Type 0
IsSegment files number = (entries : List LogEntry) × Splits (segment_bytes files number) entries

-- the entries of these segments, joined
abbrev pub Joins : Files → List ℕ → List Located → Type 0
Joins files [] log = log ≡ []
Joins files (n ∷ ns) log =
    (entries : List LogEntry) × (rest : List Located) × Splits (segment_bytes files n) entries × Joins files ns rest × (log ≡ located n 8 entries ++ rest)

-- the committed log
pub record IsLog (files : Files) (transaction : ℕ) (log : List Located) : Type 0 where
  pub is : IsTransaction files transaction
  pub joined : Joins files (numbers_up_to files transaction) log

-- the least segment up to the transaction that doesn't read, and the place of its first entry that doesn't
pub record IsDamaged (files : Files) (segment at : ℕ) : Type 0 where
  pub transaction : ℕ
  pub is : IsTransaction files transaction
  pub before : List ℕ
  pub after : List ℕ
  pub numbers : numbers_up_to files transaction ≡ before ++ segment ∷ after
  pub good : AllByRecursion (IsSegment files) before
  pub breaks : BreaksAt (segment_bytes files segment) at
