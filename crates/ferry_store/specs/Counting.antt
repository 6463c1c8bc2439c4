-- Counter blocks over a run: how many the blobs have that it put, which number is next, and that no blocks are left (BorgBackup 1.2, Internals,
-- "Data structures and file formats", Encryption).
use Rattle.std.specs.Prelude.{◌≡◌, ◌+◌, ◌-◌, ◌^◌, ◌<◌, ◌≤◌, ℕ, List, [], ◌∷◌, ◌++◌, length, Option, None, unwrap_or}
use Rattle.std.specs.FinMap.{get}
use Rattle.ferry_blob.specs.Blob.{blocks}
use Rattle.ferry_disk.specs.Files.{Files}
use Rattle.ferry_nonce.specs.Counter.{reservation}
use Rattle.ferry_segment.specs.Entry.{LogEntry, PutEntry, DeleteEntry, CommitEntry}
use Rattle.ferry_stops.specs.Counters.{IsNonce}
use Rattle.ferry_stops.specs.Entries.{HaveBelow, Shows}

-- the counter blocks of the blob that an entry puts, of which 43 bytes stand before the content
abbrev pub blocks_of : LogEntry → ℕ
blocks_of (PutEntry key blob) = blocks (length blob - 43)
blocks_of (DeleteEntry key) = 0
blocks_of CommitEntry = 0

-- those of all blobs that these entries put
unfoldable pub blocks_in : List LogEntry → ℕ
blocks_in [] = 0
blocks_in (entry ∷ entries) = blocks_of entry + blocks_in entries

-- The next free number is that of the files at the start of a run and the blocks of all blobs that it put: of these entries, those behind the
-- ones that the start shows.
pub record IsNext (free : ℕ) (entries : List LogEntry) (start : Files) : Type 0 where
  pub first : ℕ
  pub nonce : IsNonce start.nonce first
  pub found : Option (List LogEntry)
  pub shown : Shows start found
  pub put : List LogEntry
  pub entries_are : entries ≡ unwrap_or found [] ++ put
  pub free_is : free ≡ first + blocks_in put

-- The segments that are there have these entries, joined by increasing number.
abbrev pub HaveAll : Files → List LogEntry → Type 0
HaveAll files entries = (end : ℕ) × (HaveBelow files end entries × ((n : ℕ) → end ≤ n → get files.segments n ≡ None))

-- So many blocks aren't left behind the next free number of these files, and it was `start` at which the run began: the file `nonce` doesn't reserve
-- them, and no number of 64 bits is a reservation above them.
pub record LacksBlocks (start now : Files) (count : ℕ) : Type 0 where
  pub entries : List LogEntry
  pub all : HaveAll now entries
  pub free : ℕ
  pub next : IsNext free entries start
  pub reserved : ℕ
  pub nonce : IsNonce now.nonce reserved
  pub unreserved : reserved < free + count
  pub none_left : 2 ^ 64 - 1 < (free + count) + reservation
