-- Lemmas on specs/Live.antt and specs/State.antt: the places of the live keys of a log, entry by entry, so that a log that reads has
-- a state.
use Rattle.std.proofs.Common.{◌≡◌, ◌⊎◌, ℕ, ◌+◌, ◌-◌, Bool, true, false, cond, List, [], ◌∷◌, ◌++◌, fold, length, slice_get, Option, Some, None}
use Rattle.std.proofs.Common.{option_and_then, refl, sym, ◌∙◌, ap, inl, inr, arith}
use Rattle.std.proofs.lemmas.List.{append_assoc, append-nil, length_push}
use Rattle.std.proofs.lemmas.List.Elements.{filter-append}
use Rattle.std.specs.Cmp.Lexicographic.{nat_list_cmp_total}
use Rattle.std.specs.FinMap.{get, insert, remove, empty, get-empty, get-insert, get-remove}
use Rattle.std.specs.Ordering.{eq_by_cmp}
use Rattle.ferry_segment.specs.Entry.{LogEntry, PutEntry, DeleteEntry, CommitEntry, IsBytes}
use Rattle.ferry_disk.specs.Files.{Files, segment_bytes}
use Rattle.ferry_log.specs.Log.{Located, numbers_up_to, IsLog, IsUncommitted, IsDamaged}
use Rattle.ferry_log.specs.Live.{key_cmp, names_key, naming, put_place, live_place}
use Rattle.ferry_log.specs.State.{LogState, Places, IsStateOf, extents_of}
use Rattle.ferry_log.specs.declared.place.Place.{Place}
use Rattle.ferry_log.proofs.LawLemmas.{some_log}

-- ---- the last entry that names a key

get_push : {A : Type 0} (xs : List A) (x : A) → slice_get (xs ++ x ∷ []) (length xs) ≡ Some x
get_push [] x = refl
get_push (y ∷ xs) x = get_push xs x

last_push : {A : Type 0} (xs : List A) (x : A) → slice_get (xs ++ x ∷ []) (length (xs ++ x ∷ []) - 1) ≡ Some x
last_push xs x = let e : length (xs ++ x ∷ []) - 1 ≡ length xs = omega (arith, length_push xs x) in ap (slice_get (xs ++ x ∷ [])) e ∙ get_push xs x

-- one more entry is the last one where it names the key
naming_more : (key : List ℕ) (log : List Located) (e : Located) → naming key (log ++ e ∷ []) ≡ naming key log ++ cond (names_key key e.entry) (e ∷ []) []
naming_more key log e = filter-append (λ x. names_key key x.entry) log (e ∷ [])

-- the last of some entries
abbrev last_of : List Located → Option Located
last_of named = slice_get named (length named - 1)

last_on : (named : List Located) (b : Bool) (e : Located) (f : Located → Option Place)
    → option_and_then f (last_of (named ++ cond b (e ∷ []) [])) ≡ cond b (f e) (option_and_then f (last_of named))
last_on named true e f = ap (option_and_then f) (last_push named e)
last_on named false e f = ap (λ xs. option_and_then f (last_of xs)) (append-nil named)

pub live_place_more : (key : List ℕ) (log : List Located) (e : Located)
    → live_place key (log ++ e ∷ []) ≡ cond (names_key key e.entry) (put_place e.segment e.at e.entry) (live_place key log)
unfolding live_place
live_place_more key log e =
    let f : Located → Option Place = λ x. put_place x.segment x.at x.entry in
    ap (λ xs. option_and_then f (last_of xs)) (naming_more key log e) ∙ last_on (naming key log) (names_key key e.entry) e f

pub live_place_none : (key : List ℕ) → live_place key [] ≡ None
unfolding live_place
live_place_none key = refl

-- ---- the places of all keys

-- the places go on with an entry
abbrev pub placed : Places → ℕ → ℕ → LogEntry → Places
placed places segment at (PutEntry key blob) = insert places key (record { segment = segment; at = at + 41; size = length blob })
placed places segment at (DeleteEntry key) = remove places key
placed places segment at CommitEntry = places

-- the places are those of the live keys of a log
abbrev pub HasPlaces : Places → List Located → Type 0
HasPlaces places log = (key : List ℕ) → get places key ≡ live_place key log

pub places_none : HasPlaces empty []
places_none key = get-empty _ key ∙ sym (live_place_none key)

placed_one : (places : Places) (log : List Located) (segment at : ℕ) (entry : LogEntry) → HasPlaces places log
    → HasPlaces (placed places segment at entry) (log ++ record { segment = segment; at = at; entry = entry } ∷ [])
placed_one places log segment at (PutEntry k blob) has key =
    let place : Place = record { segment = segment; at = at + 41; size = length blob } in
    get-insert nat_list_cmp_total places k place key ∙ (ap (cond (eq_by_cmp key_cmp key k) (Some place)) (has key) ∙ sym (live_place_more key log _))
placed_one places log segment at (DeleteEntry k) has key =
    get-remove nat_list_cmp_total places k key ∙ (ap (cond (eq_by_cmp key_cmp key k) None) (has key) ∙ sym (live_place_more key log _))
placed_one places log segment at CommitEntry has key = has key ∙ sym (live_place_more key log _)

pub places_more : (places : Places) (log : List Located) (e : Located) → HasPlaces places log
    → HasPlaces (placed places e.segment e.at e.entry) (log ++ e ∷ [])
places_more places log e has = placed_one places log e.segment e.at e.entry has

-- the places after these entries
abbrev pub placed_all : Places → List Located → Places
placed_all places entries = fold (λ p e. placed p e.segment e.at e.entry) places entries

pub places_all : (places : Places) (log entries : List Located) → HasPlaces places log → HasPlaces (placed_all places entries) (log ++ entries)
places_all places log [] has = λ key. has key ∙ ap (live_place key) (sym (append-nil log))
places_all places log (e ∷ es) has = λ key.
    places_all (placed places e.segment e.at e.entry) (log ++ e ∷ []) es (places_more places log e has) key
    ∙ ap (live_place key) (append_assoc log (e ∷ []) es)

-- ---- a log that reads has a state

pub state_of_log : (files : Files) (t : ℕ) (log : List Located) → IsLog files t log → (state : LogState) × IsStateOf files state
state_of_log files t log is =
    let opened = placed_all empty log in (
      record { transaction = t; opened = opened; extents = extents_of files opened (numbers_up_to files t); learnt = empty },
      record { log = log; is = is; places = record { live = places_all empty [] log places_none; extents_are = refl }; learnt = refl },
    )

-- where each byte is one, files have a state, or one of the two refusals
pub some_state : (files : Files) → ((n : ℕ) → IsBytes (segment_bytes files n))
    → IsUncommitted files ⊎ (((state : LogState) × IsStateOf files state) ⊎ ((s : ℕ) × (at : ℕ) × IsDamaged files s at))
some_state files bytes = elim (some_log files bytes) [
  | inl none ↦ inl none
  | inr (inl read) ↦ inr (inl (state_of_log files read.0 read.1 read.2))
  | inr (inr damaged) ↦ inr (inr damaged)
]
