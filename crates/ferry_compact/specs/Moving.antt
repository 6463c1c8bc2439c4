-- Which entries of the chosen segments are put again: the PUTs of live keys, and the DELETEs that still take something away (BorgBackup 1.2, Internals,
-- Repository, "Compaction").
use Rattle.std.specs.Prelude.{ℕ, ◌+◌, nat_eq, nat_lt, Bool, false, ◌&&◌, not, List, map, Option, Some, None, is_none}
use Rattle.std.specs.List.{filter, list_any}
use Rattle.std.specs.Ordering.{eq_by_cmp}
use Rattle.ferry_log.specs.Live.{key_cmp, live_place}
use Rattle.ferry_log.specs.Log.{Located}
use Rattle.ferry_log.specs.declared.place.Place.{Place}
use Rattle.ferry_segment.specs.Entry.{LogEntry, PutEntry, DeleteEntry, CommitEntry}

-- whether a segment is one of these
abbrev pub is_among : List ℕ → ℕ → Bool
is_among numbers segment = list_any (nat_eq segment) numbers

-- whether a place, where there is one, begins there
abbrev pub lies_at : Option Place → ℕ → ℕ → Bool
lies_at None segment at = false
lies_at (Some place) segment at = nat_eq place.segment segment && nat_eq place.at at

-- whether an entry is a PUT of a key
abbrev pub puts_key : List ℕ → LogEntry → Bool
puts_key key (PutEntry k blob) = eq_by_cmp key_cmp key k
puts_key key (DeleteEntry k) = false
puts_key key CommitEntry = false

-- whether an entry is a PUT of a key in a segment below one, and in none that is chosen
abbrev pub stays_below : List ℕ → List ℕ → ℕ → Located → Bool
stays_below chosen key segment e = puts_key key e.entry && (nat_lt e.segment segment && not (is_among chosen e.segment))

-- Whether an entry of a chosen segment is put again: a PUT where it is that of a live key; a DELETE where its key isn't live and a PUT of the key stays
-- in a lower segment; no COMMIT.
abbrev pub moves_entry : List Located → List ℕ → ℕ → ℕ → LogEntry → Bool
moves_entry log chosen segment at (PutEntry key blob) = lies_at (live_place key log) segment (at + 41)
moves_entry log chosen segment at (DeleteEntry key) = is_none (live_place key log) && list_any (stays_below chosen key segment) log
moves_entry log chosen segment at CommitEntry = false

abbrev pub is_moved : List Located → List ℕ → Located → Bool
is_moved log chosen e = is_among chosen e.segment && moves_entry log chosen e.segment e.at e.entry

-- the entries that are put again, in the order of the log
unfoldable pub moved_in : List Located → List ℕ → List LogEntry
moved_in log chosen = map (λ e. e.entry) (filter (is_moved log chosen) log)

-- the entries of the segments that aren't gone
unfoldable pub left_in : List Located → List ℕ → List LogEntry
left_in log gone = map (λ e. e.entry) (filter (λ e. not (is_among gone e.segment)) log)
