-- Which DELETEs of chosen segments still take something away: what two passes note of the keys, first of the chosen segments, then of the others.
use Rattle.std.specs.Prelude.{◌≡◌, ℕ, nat_lt, Bool, true, false, ◌&&◌, not, if◌then◌else◌, List, [], ◌∷◌, Option, Some, None, is_none}
use Rattle.std.specs.BTreeMap.{is_at}
use Rattle.std.specs.List.{filter}
use Rattle.std.specs.Map.{lookup}
use Rattle.std.specs.Ordering.{eq_by_cmp}
use Rattle.ferry_compact.specs.Moving.{is_among}
use Rattle.ferry_log.specs.Live.{key_cmp}
use Rattle.ferry_log.specs.Log.{Located}
use Rattle.ferry_log.specs.State.{LogState, place_in}
use Rattle.ferry_segment.specs.Entry.{LogEntry, PutEntry, DeleteEntry, CommitEntry}

-- keys with the segment of a PUT, where one was found, as a map has them
abbrev pub Notes : Type 0
Notes = List (List ℕ × Option ℕ)

-- what is noted of a key
abbrev pub noted_at : List ℕ → Notes → Option (Option ℕ)
noted_at key notes = lookup (is_at (key_cmp key)) notes

-- whether a key is noted of which no PUT was found yet
abbrev pub is_unfound : Option (Option ℕ) → Bool
is_unfound None = false
is_unfound (Some None) = true
is_unfound (Some (Some low)) = false

-- What is noted of a key after one more entry of a chosen segment, or of another: a DELETE of a key that isn't live; the first PUT of a noted key.
abbrev pub note_entry : LogState → Bool → List ℕ → ℕ → LogEntry → Option (Option ℕ) → Option (Option ℕ)
note_entry state true key segment (PutEntry k blob) old = old
note_entry state false key segment (PutEntry k blob) old = if eq_by_cmp key_cmp key k && is_unfound old then Some (Some segment) else old
note_entry state true key segment (DeleteEntry k) old = if eq_by_cmp key_cmp key k && is_none (place_in state key) then Some None else old
note_entry state false key segment (DeleteEntry k) old = old
note_entry state among key segment CommitEntry old = old

-- after these entries
abbrev pub note_all : LogState → Bool → List ℕ → List Located → Option (Option ℕ) → Option (Option ℕ)
note_all state among key [] old = old
note_all state among key (e ∷ es) old = note_all state among key es (note_entry state among key e.segment e.entry old)

-- The notes go on with these entries.
abbrev pub TakesNotes : LogState → Bool → List Located → Notes → Notes → Type 0
TakesNotes state among entries old new = (key : List ℕ) → noted_at key new ≡ note_all state among key entries (noted_at key old)

-- whether two answers are the same
abbrev pub same_answer : Bool → Bool → Bool
same_answer true b = b
same_answer false b = not b

-- the entries of the chosen segments, or of the others
abbrev pub entries_of : List ℕ → Bool → List Located → List Located
entries_of chosen among log = filter (λ e. same_answer among (is_among chosen e.segment)) log

-- The notes of both passes over a log.
abbrev pub HasNotes : LogState → List ℕ → List Located → Notes → Type 0
HasNotes state chosen log notes = (key : List ℕ)
    → noted_at key notes ≡ note_all state false key (entries_of chosen false log) (note_all state true key (entries_of chosen true log) None)

-- whether a PUT was found in a segment below this one
abbrev pub is_below : Option (Option ℕ) → ℕ → Bool
is_below None segment = false
is_below (Some None) segment = false
is_below (Some (Some low)) segment = nat_lt low segment
