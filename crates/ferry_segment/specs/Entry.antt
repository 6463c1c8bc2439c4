-- A log entry (BorgBackup 1.2, Internals, Data structures and file formats, Segments): a PUT of an object's
-- blob under its id, a DELETE of an id, or a COMMIT. Numbers are little-endian.
--
--     offset  size       meaning
--     0       4          CRC-32 of all that follows in the entry
--     4       4          size of the whole entry, these eight bytes included
--     8       1          entry tag: 0 PUT, 1 DELETE, 2 COMMIT
--     9       32         key (PUT, DELETE)
--     41      size - 41  blob (PUT)
use Rattle.std.specs.Prelude.{◌≡◌, ℕ, ◌+◌, ◌-◌, ◌<◌, ◌≤◌, Bool, ◌||◌, not, ◌==◌, nat_lt, if◌then◌else◌, List, [], ◌∷◌, ◌++◌, length}
use Rattle.std.specs.Prelude.{take, drop, slice_index, Option, Some, None}
use Rattle.std.specs.Int.{w32, to_le_bytes, from_le_bytes}
use Rattle.ferry_base.specs.Limits.{entry_limit}
use Rattle.ferry_segment.specs.Crc.{crc}
use Rattle.ferry_segment.specs.declared.entry.EntryFault.{EntryFault}
use Rattle.ferry_segment.specs.declared.entry.EntryFault.TheVariants.{Short, Size, Crc, Tag}
use Rattle.ferry_segment.specs.declared.entry.Entry.{Entry}
use Rattle.ferry_segment.specs.declared.entry.Entry.TheVariants.{Put, Delete, Commit}

-- an entry without where its bytes lie in memory
pub data LogEntry : Type 0 where
  PutEntry : (key blob : List ℕ) → LogEntry
  DeleteEntry : (key : List ℕ) → LogEntry
  CommitEntry : LogEntry

-- what contracts see of an entry of the program
abbrev pub entry_view : Entry → LogEntry
entry_view (Put key blob) = PutEntry key blob.now
entry_view (Delete key) = DeleteEntry key
entry_view Commit = CommitEntry

-- its bytes behind the size: the entry tag, the key, the blob
abbrev pub tagged : LogEntry → List ℕ
tagged (PutEntry key blob) = 0 ∷ key ++ blob
tagged (DeleteEntry key) = 1 ∷ key
tagged CommitEntry = 2 ∷ []

-- its size in bytes
abbrev pub size_of : LogEntry → ℕ
size_of entry = 8 + length (tagged entry)

-- the bytes that its CRC is of
abbrev pub checked_part : LogEntry → List ℕ
checked_part entry = to_le_bytes w32 (size_of entry) ++ tagged entry

-- its bytes
unfoldable pub spelling : LogEntry → List ℕ
spelling entry = to_le_bytes w32 (crc (checked_part entry)) ++ checked_part entry

-- the entries that have a spelling: a key of 32 bytes, and no more bytes than the limit
abbrev pub Fits : LogEntry → Type 0
Fits (PutEntry key blob) = (length key ≡ 32) × (length blob + 41 ≤ entry_limit)
Fits (DeleteEntry key) = length key ≡ 32
Fits CommitEntry = Unit {0}

-- From byte `at` on, up to `end`, the bytes are this entry.
pub record IsEntryAt (bytes : List ℕ) (at : ℕ) (entry : LogEntry) (end : ℕ) : Type 0 where
  pub fits : Fits entry
  pub spelled : drop at bytes ≡ spelling entry ++ drop end bytes
  pub ends : end ≡ at + size_of entry
  pub within : end ≤ length bytes

-- numbers that are bytes
abbrev pub IsBytes : List ℕ → Type 0
IsBytes bytes = (i : ℕ) → slice_index bytes i < 256

-- the size that the bytes state
unfoldable pub stated_size : List ℕ → ℕ
stated_size bytes = from_le_bytes w32 (take 4 (drop 4 bytes))

-- the CRC that the bytes state
unfoldable pub stated_crc : List ℕ → ℕ
stated_crc bytes = from_le_bytes w32 (take 4 bytes)

-- whether a size fits an entry tag: a PUT has 41 bytes or more, a DELETE 41, a COMMIT 9
abbrev pub size_fits_tag : ℕ → ℕ → Bool
size_fits_tag size tag = if tag == 0 then nat_lt 40 size else (if tag == 1 then size == 41 else size == 9)

-- The first rule that the entry at the front of these bytes breaks. Too few bytes for the smallest entry come first,
-- then a size out of range, fewer bytes than the size, the CRC, the entry tag, and a size that doesn't fit it.
unfoldable pub first_fault : List ℕ → Option EntryFault
first_fault bytes =
    if nat_lt (length bytes) 9 then Some Short
    else (if nat_lt (stated_size bytes) 9 || nat_lt entry_limit (stated_size bytes) then Some Size
    else (if nat_lt (length bytes) (stated_size bytes) then Some Short
    else (if not (crc (take (stated_size bytes - 4) (drop 4 bytes)) == stated_crc bytes) then Some Crc
    else (if nat_lt 2 (slice_index bytes 8) then Some Tag
    else (if not (size_fits_tag (stated_size bytes) (slice_index bytes 8)) then Some Size
    else None)))))
