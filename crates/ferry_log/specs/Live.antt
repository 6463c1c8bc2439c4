-- Which objects are there: a key is live where the last entry of the log that names it is a PUT (BorgBackup 1.2, Internals,
-- Repository).
use Rattle.std.specs.Prelude.{ℕ, ◌+◌, ◌-◌, Bool, false, List, length, filter, slice_get, Option, Some, None, option_and_then}
use Rattle.std.specs.Ordering.{nat_cmp, eq_by_cmp}
use Rattle.std.specs.declared.cmp.Ordering.{Ordering}
use Rattle.std.specs.Cmp.Lexicographic.{slice_cmp}
use Rattle.ferry_segment.specs.Entry.{LogEntry, PutEntry, DeleteEntry, CommitEntry}
use Rattle.ferry_log.specs.Log.{Located}
use Rattle.ferry_log.specs.declared.place.Place.{Place}

-- the byte order of keys
abbrev pub key_cmp : List ℕ → List ℕ → Ordering
key_cmp a b = slice_cmp nat_cmp a b

-- whether an entry names a key
abbrev pub names_key : List ℕ → LogEntry → Bool
names_key key (PutEntry k blob) = eq_by_cmp key_cmp key k
names_key key (DeleteEntry k) = eq_by_cmp key_cmp key k
names_key key CommitEntry = false

-- the entries of the log that name a key
abbrev pub naming : List ℕ → List Located → List Located
naming key log = filter (λ e. names_key key e.entry) log

-- the last entry that names a key
abbrev pub last_naming : List ℕ → List Located → Option Located
last_naming key log = slice_get (naming key log) (length (naming key log) - 1)

-- the blob of a PUT
abbrev pub put_blob : LogEntry → Option (List ℕ)
put_blob (PutEntry key blob) = Some blob
put_blob (DeleteEntry key) = None
put_blob CommitEntry = None

-- where the blob of a PUT lies: 41 bytes behind the entry's first
abbrev pub put_place : ℕ → ℕ → LogEntry → Option Place
put_place segment at (PutEntry key blob) = Some (record { segment = segment; at = at + 41; size = length blob })
put_place segment at (DeleteEntry key) = None
put_place segment at CommitEntry = None

-- the blob of a key, where it is live
unfoldable pub live_blob : List ℕ → List Located → Option (List ℕ)
live_blob key log = option_and_then (λ e. put_blob e.entry) (last_naming key log)

-- the place of its blob, where it is live
unfoldable pub live_place : List ℕ → List Located → Option Place
live_place key log = option_and_then (λ e. put_place e.segment e.at e.entry) (last_naming key log)
