-- What contracts see of an opened log, and what ties it to the files.
use Rattle.std.specs.Prelude.{◌≡◌, ℕ, ◌+◌, ◌≤◌, ◌==◌, if◌then◌else◌, List, length, map, sum_by, take, drop, Option, Some, None, MatchOption, IsSome, refl}
use Rattle.std.specs.FinMap.{FinMap, get, insert, values, empty, code}
use Rattle.std.specs.Coded.{Coded, code_by, coded×, coded_ℕ, coded_list}
use Rattle.std.specs.declared.cmp.Ordering.TheVariants.{Less}
use Rattle.ferry_disk.specs.Files.{Files, segment_bytes}
use Rattle.ferry_log.specs.Log.{Located, numbers_up_to, Joins, IsLog}
use Rattle.ferry_log.specs.Live.{key_cmp, live_place}
use Rattle.ferry_log.specs.declared.place.Place.{Place}
use Rattle.ferry_log.specs.declared.place.Extent.{Extent}

-- places of keys
abbrev pub Places : Type 0
Places = FinMap key_cmp Place

-- an opened log: the transaction, the places of the keys that were live when it was opened, the segments up to the transaction,
-- and the places of the keys that it has learnt since
pub record LogState : Type 0 where
  pub transaction : ℕ
  pub opened : Places
  pub extents : List Extent
  pub learnt : Places

abbrev pub coded_place : Coded Place
coded_place = code_by (ℕ × (ℕ × ℕ)) (coded× coded_ℕ (coded× coded_ℕ coded_ℕ)) (λ p. (p.segment, (p.at, p.size)))
    (λ q. record { segment = q.0; at = q.1.0; size = q.1.1 }) (λ _. refl)

abbrev pub coded_extent : Coded Extent
coded_extent = code_by (ℕ × (ℕ × ℕ)) (coded× coded_ℕ (coded× coded_ℕ coded_ℕ)) (λ e. (e.segment, (e.size, e.live)))
    (λ q. record { segment = q.0; size = q.1.0; live = q.1.1 }) (λ _. refl)

abbrev pub coded_places : Coded Places
coded_places = code (coded_list coded_ℕ) coded_place

abbrev pub coded_state : Coded LogState
coded_state = code_by (ℕ × (Places × (List Extent × Places)))
    (coded× coded_ℕ (coded× coded_places (coded× (coded_list coded_extent) coded_places)))
    (λ s. (s.transaction, (s.opened, (s.extents, s.learnt))))
    (λ q. record { transaction = q.0; opened = q.1.0; extents = q.1.1.0; learnt = q.1.1.1 })
    (λ _. refl)

-- ---- what a log answers

-- this place, where there is one, and else that
abbrev pub first_place : Option Place → Option Place → Option Place
first_place (Some place) other = Some place
first_place None other = other

-- the place of a live key: where it was learnt, or else where it lay at opening
abbrev pub place_in : LogState → List ℕ → Option Place
place_in state key = first_place (get state.learnt key) (get state.opened key)

-- the log once it has learnt the place of a key
abbrev pub with_learnt : LogState → List ℕ → Place → LogState
with_learnt state key place = record state { learnt = insert state.learnt key place }

-- a key above the one that was given, in byte order
abbrev pub IsAbove : Option (List ℕ) → List ℕ → Type 0
IsAbove None key = Unit {0}
IsAbove (Some after) key = key_cmp after key ≡ Less

-- the least key above `after` that has a place, with it, or nothing where none has
abbrev pub IsLeastWhere : (List ℕ → Option Place) → Option (List ℕ) → Option (List ℕ × Place) → Type 0
IsLeastWhere placed after found = MatchOption found
    ((key : List ℕ) → IsSome (placed key) → IsAbove after key → ⊥)
    (λ least. (placed least.0 ≡ Some least.1) × IsAbove after least.0
    × ((key : List ℕ) → IsSome (placed key) → IsAbove after key → key_cmp key least.0 ≡ Less → ⊥))

-- the least live key above `after`, with its place, or nothing where none is
abbrev pub IsLeastAbove : LogState → Option (List ℕ) → Option (List ℕ × Place) → Type 0
IsLeastAbove state after found = IsLeastWhere (place_in state) after found

-- ---- what ties a log to files

-- the size of the entry whose blob lies here, where it lies in this segment
abbrev pub size_in : ℕ → Place → ℕ
size_in segment place = if place.segment == segment then place.size + 41 else 0

-- the sizes of a segment's live entries, added up
abbrev pub live_size : ℕ → Places → ℕ
live_size segment live = sum_by (size_in segment) (values live)

-- the segments of these numbers, with their lengths and the sizes of their live entries
abbrev pub extents_of : Files → Places → List ℕ → List Extent
extents_of files live numbers = map (λ n. record { segment = n; size = length (segment_bytes files n); live = live_size n live }) numbers

-- A blob lies at a place of a segment: so many of its bytes from there on.
pub record IsBlobAt (bytes : List ℕ) (at size : ℕ) (blob : List ℕ) : Type 0 where
  pub holds : take size (drop at bytes) ≡ blob
  pub within : at + size ≤ length bytes

-- The places of keys are those of the live keys of a log, and the extents are those of its segments.
pub record HasPlacesOf (files : Files) (transaction : ℕ) (opened : Places) (extents : List Extent) (log : List Located) : Type 0 where
  pub live : (key : List ℕ) → get opened key ≡ live_place key log
  pub extents_are : extents ≡ extents_of files opened (numbers_up_to files transaction)

-- The state is that of the committed log of the files as they were opened.
pub record IsStateOf (files : Files) (state : LogState) : Type 0 where
  pub log : List Located
  pub is : IsLog files state.transaction log
  pub places : HasPlacesOf files state.transaction state.opened state.extents log
  pub learnt : state.learnt ≡ empty

-- The log fits files: their segments up to its transaction read, the places of the keys that were live at opening and the extents are
-- theirs, and the place of each learnt key lies in its segment. Segments above the transaction count for learnt keys alone.
pub record FitsFiles (files : Files) (state : LogState) : Type 0 where
  pub log : List Located
  pub joined : Joins files (numbers_up_to files state.transaction) log
  pub places : HasPlacesOf files state.transaction state.opened state.extents log
  pub learnt : (key : List ℕ) (place : Place) → get state.learnt key ≡ Some place → place.at + place.size ≤ length (segment_bytes files place.segment)
