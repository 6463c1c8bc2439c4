-- An entry's head, as a reader sees it that doesn't hold the blob: what its first bytes state, and what that says of the entry.
use Rattle.std.specs.Prelude.{◌≡◌, ℕ, ◌+◌, ◌<◌, ◌≤◌, ◌==◌, if◌then◌else◌, List, length, take, drop, slice_index}
use Rattle.ferry_base.specs.Limits.{entry_limit, zero_id}
use Rattle.ferry_segment.specs.Entry.{LogEntry, PutEntry, DeleteEntry, CommitEntry, size_of, IsEntryAt, stated_size, stated_crc}
use Rattle.ferry_segment.specs.declared.head.Head.{Head}
use Rattle.ferry_segment.specs.declared.head.StatedHead.{StatedHead}

-- the head of an entry: its tag, its key, zero bytes for a COMMIT, and its size
abbrev pub head_of : LogEntry → Head
head_of (PutEntry key blob) = record { tag = 0; key = key; size = size_of (PutEntry key blob) }
head_of (DeleteEntry key) = record { tag = 1; key = key; size = size_of (DeleteEntry key) }
head_of CommitEntry = record { tag = 2; key = zero_id; size = size_of CommitEntry }

-- the entry that has this head and these bytes
abbrev pub entry_with : Head → List ℕ → LogEntry
entry_with head bytes = if head.tag == 0 then PutEntry head.key (drop 41 bytes) else (if head.tag == 1 then DeleteEntry head.key else CommitEntry)

-- an entry that begins at this place
abbrev pub BeginsAt : List ℕ → ℕ → LogEntry → Type 0
BeginsAt bytes at entry = IsEntryAt bytes at entry (at + size_of entry)

-- an entry with this head begins at this place
abbrev pub HasHead : List ℕ → ℕ → Head → Type 0
HasHead bytes at head = (entry : LogEntry) × BeginsAt bytes at entry × (head ≡ head_of entry)

-- The first of these bytes state this head and checksum. The size is in range, and so many bytes are there.
pub record States (bytes : List ℕ) (stated : StatedHead) : Type 0 where
  pub crc : stated.crc ≡ stated_crc bytes
  pub size : stated.head.size ≡ stated_size bytes
  pub least : 9 ≤ stated.head.size
  pub most : stated.head.size ≤ entry_limit
  pub within : stated.head.size ≤ length bytes
  pub tag : stated.head.tag ≡ slice_index bytes 8
  pub key : 41 ≤ stated.head.size → stated.head.key ≡ take 32 (drop 9 bytes)
  pub no_key : stated.head.size < 41 → stated.head.key ≡ zero_id
  pub small : (i : ℕ) → i < 8 → slice_index bytes i < 256
