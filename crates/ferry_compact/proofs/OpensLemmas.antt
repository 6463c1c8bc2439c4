-- Lemmas on a log as it was opened: its segments, those that are chosen, and its places.
use Rattle.std.proofs.Common.{◌≡◌, ℕ, suc, ◌<◌, ◌≤◌, Bool, true, false, cond, not, List, [], ◌∷◌, length, map, filter, nat_le, nat_lt}
use Rattle.std.proofs.Common.{Option, Some, unwrap_or, refl, sym, ◌∙◌, ap, subst, arith}
use Rattle.std.proofs.lemmas.Bool.{le-ltb, leb-true}
use Rattle.std.proofs.lemmas.List.Kept.{IsStrictlyIncreasing-filter}
use Rattle.std.specs.FinMap.{get, get-empty}
use Rattle.std.specs.List.{AllByRecursion}
use Rattle.std.specs.List.Sorted.{IsStrictlyIncreasing}
use Rattle.ferry_compact.proofs.LiesLemmas.{entries_in, lies_ordered, log_lies}
use Rattle.ferry_compact.proofs.ListLemmas.{all_each, filter_all}
use Rattle.ferry_compact.proofs.LastLemmas.{Ordered}
use Rattle.ferry_compact.proofs.NoteLemmas.{all_filter}
use Rattle.ferry_compact.specs.Choice.{chosen_in, is_chosen}
use Rattle.ferry_compact.specs.Compact.{StayUpTo}
use Rattle.ferry_compact.specs.Reading.{Covers}
use Rattle.ferry_compact.specs.Runs.{OpensAs}
use Rattle.ferry_disk.specs.Act.{History, files_now}
use Rattle.ferry_disk.specs.Files.{Files, segment_bytes, segment_numbers}
use Rattle.ferry_log.proofs.LawLemmas.{one_log}
use Rattle.ferry_log.specs.Live.{live_place}
use Rattle.ferry_log.specs.Log.{IsLog, Joins, Located, numbers_up_to}
use Rattle.ferry_log.specs.State.{HasPlacesOf, IsStateOf, LogState, Places, extents_of, first_place, live_size, place_in}
use Rattle.ferry_log.specs.declared.place.Extent.{Extent}
use Rattle.ferry_log.specs.declared.place.Place.{Place}
use Rattle.ferry_segment.specs.Segment.{Splits}
use Rattle.ferry_stops.proofs.EntryLemmas.{log_shown}
use Rattle.ferry_stops.proofs.NumberLemmas.{Rising, keys_rising}
use Rattle.ferry_stops.specs.Entries.{ShowsAt}
use Rattle.ferry_write.proofs.LawLemmas.{numbers_rise}

pub opens_as : (state : LogState) (log : List Located) (h : History) → IsStateOf (files_now h) state → IsLog (files_now h) state.transaction log
    → OpensAs state log h
opens_as state log h of is =
    let same = (one_log (files_now h) state.transaction state.transaction of.log log of.is is).1 in
    record {
      is = is;
      places = subst (HasPlacesOf (files_now h) state.transaction state.opened state.extents) same of.places;
      learnt = of.learnt;
    }

-- ---- its places

pub opens_places : (state : LogState) (log : List Located) (h : History) → OpensAs state log h → (key : List ℕ) → place_in state key ≡ live_place key log
opens_places state log h opens key =
    ap (λ (p : Option Place). first_place p (get state.opened key))
    (ap (λ (m : Places). get m key) opens.learnt ∙ get-empty _ key) ∙ opens.places.live key

pub opens_ordered : (state : LogState) (log : List Located) (h : History) → OpensAs state log h → Ordered log
opens_ordered state log h opens =
    lies_ordered (files_now h) (suc state.transaction) log (log_lies (files_now h) state.transaction log opens.is)

-- ---- its segments

-- the segment of a number, as the log has it
abbrev extent_at : Files → Places → ℕ → Extent
extent_at files live n = record { segment = n; size = length (segment_bytes files n); live = live_size n live }

numbers_of : (files : Files) (live : Places) (ns : List ℕ) → map (λ (e : Extent). e.segment) (extents_of files live ns) ≡ ns
numbers_of files live [] = refl
numbers_of files live (n ∷ ns) = ap (λ (l : List ℕ). n ∷ l) (numbers_of files live ns)

sizes_of : (files : Files) (live : Places) (ns : List ℕ)
    → AllByRecursion (λ (e : Extent). e.size ≡ length (segment_bytes files e.segment)) (extents_of files live ns)
sizes_of files live [] = tt
sizes_of files live (n ∷ ns) = (refl, sizes_of files live ns)

pub opens_covers : (state : LogState) (log : List Located) (h : History) → OpensAs state log h → Covers (files_now h) state.extents log
opens_covers state log h opens =
    let files = files_now h in
    let numbers = numbers_up_to files state.transaction in
    let is = opens.places.extents_are in
    record {
      joined = subst (λ (ns : List ℕ). Joins files ns log)
          (sym (ap (map (λ (e : Extent). e.segment)) is ∙ numbers_of files state.opened numbers)) opens.is.joined;
      sizes = subst (AllByRecursion (λ (e : Extent). e.size ≡ length (segment_bytes files e.segment))) (sym is) (sizes_of files state.opened numbers);
    }

low_by : (t n : ℕ) (ns : List ℕ) (b : Bool) → nat_le n t ≡ b → AllByRecursion (λ k. k ≤ t) ns → AllByRecursion (λ k. k ≤ t) (cond b (n ∷ ns) ns)
low_by t n ns true is rest = (leb-true n t is, rest)
low_by t n ns false is rest = rest

low_numbers : (t : ℕ) (ns : List ℕ) → AllByRecursion (λ k. k ≤ t) (filter (λ n. nat_le n t) ns)
low_numbers t [] = tt
low_numbers t (n ∷ ns) = low_by t n (filter (λ k. nat_le k t) ns) (nat_le n t) refl (low_numbers t ns)

low_extents : (t : ℕ) (files : Files) (live : Places) (ns : List ℕ) → AllByRecursion (λ k. k ≤ t) ns
    → AllByRecursion (λ (e : Extent). e.segment ≤ t) (extents_of files live ns)
low_extents t files live [] all = tt
low_extents t files live (n ∷ ns) all = (all.0, low_extents t files live ns all.1)

pub opens_low : (state : LogState) (log : List Located) (h : History) → OpensAs state log h
    → AllByRecursion (λ (e : Extent). e.segment ≤ state.transaction) state.extents
opens_low state log h opens =
    subst (AllByRecursion (λ (e : Extent). e.segment ≤ state.transaction)) (sym opens.places.extents_are)
    (low_extents state.transaction (files_now h) state.opened (numbers_up_to (files_now h) state.transaction)
    (low_numbers state.transaction (segment_numbers (files_now h))))

-- they are the same where none of them has changed
joins_stay : (files others : Files) (t : ℕ) (extents : List Extent) (log : List Located) → ((n : ℕ) → n ≤ t → segment_bytes others n ≡ segment_bytes files n)
    → AllByRecursion (λ (e : Extent). e.segment ≤ t) extents → Joins files (map (λ e. e.segment) extents) log → Joins others (map (λ e. e.segment) extents) log
joins_stay files others t [] log same low j = j
joins_stay files others t (e ∷ es) log same low j = (
  j.0,
  j.1,
  subst (λ (b : List ℕ). Splits b j.0) (sym (same e.segment low.0)) j.2,
  joins_stay files others t es j.1 same low.1 j.3,
  j.4,
)

sizes_stay : (files others : Files) (t : ℕ) (extents : List Extent) → ((n : ℕ) → n ≤ t → segment_bytes others n ≡ segment_bytes files n)
    → AllByRecursion (λ (e : Extent). e.segment ≤ t) extents → AllByRecursion (λ e. e.size ≡ length (segment_bytes files e.segment)) extents
    → AllByRecursion (λ e. e.size ≡ length (segment_bytes others e.segment)) extents
sizes_stay files others t [] same low sizes = tt
sizes_stay files others t (e ∷ es) same low sizes =
    (sizes.0 ∙ ap length (sym (same e.segment low.0)), sizes_stay files others t es same low.1 sizes.1)

pub covers_stay : (h g : History) (t : ℕ) (extents : List Extent) (log : List Located) → StayUpTo t h g
    → AllByRecursion (λ (e : Extent). e.segment ≤ t) extents → Covers (files_now h) extents log → Covers (files_now g) extents log
covers_stay h g t extents log stays low covers = record {
  joined = joins_stay (files_now h) (files_now g) t extents log same low covers.joined;
  sizes = sizes_stay (files_now h) (files_now g) t extents same low covers.sizes;
} where
  same : (n : ℕ) → n ≤ t → segment_bytes (files_now g) n ≡ segment_bytes (files_now h) n
  same n le = ap (λ (file : Option (List ℕ)). unwrap_or file []) (stays n le)

-- ---- those that are chosen

chosen_by : (p : Extent → Bool) (files : Files) (live : Places) (n : ℕ) (ns : List ℕ) (b : Bool)
    → map (λ (e : Extent). e.segment) (filter p (extents_of files live ns)) ≡ filter (λ k. p (extent_at files live k)) ns
    → map (λ (e : Extent). e.segment) (cond b (extent_at files live n ∷ filter p (extents_of files live ns)) (filter p (extents_of files live ns)))
    ≡ cond b (n ∷ filter (λ k. p (extent_at files live k)) ns) (filter (λ k. p (extent_at files live k)) ns)
chosen_by p files live n ns true rest = ap (λ (l : List ℕ). n ∷ l) rest
chosen_by p files live n ns false rest = rest

chosen_filter : (p : Extent → Bool) (files : Files) (live : Places) (ns : List ℕ)
    → map (λ (e : Extent). e.segment) (filter p (extents_of files live ns)) ≡ filter (λ k. p (extent_at files live k)) ns
chosen_filter p files live [] = refl
chosen_filter p files live (n ∷ ns) = chosen_by p files live n ns (p (extent_at files live n)) (chosen_filter p files live ns)

chosen_are : (threshold : ℕ) (state : LogState) (log : List Located) (h : History) → OpensAs state log h
    → chosen_in threshold state.extents
    ≡ filter (λ n. is_chosen threshold (extent_at (files_now h) state.opened n)) (numbers_up_to (files_now h) state.transaction)
chosen_are threshold state log h opens =
    ap (chosen_in threshold) opens.places.extents_are
    ∙ chosen_filter (is_chosen threshold) (files_now h) state.opened (numbers_up_to (files_now h) state.transaction)

rising_by : (k : ℕ) (ks : List ℕ) (b : Bool) → AllByRecursion (λ j. k < j) ks → Rising ks → Rising (cond b (k ∷ ks) ks)
rising_by k ks true above rest = (above, rest)
rising_by k ks false above rest = rest

rising_filter : (p : ℕ → Bool) (ks : List ℕ) → Rising ks → Rising (filter p ks)
rising_filter p [] rising = tt
rising_filter p (k ∷ ks) rising =
    rising_by k (filter p ks) (p k) (all_filter (λ j. k < j) p ks rising.0) (rising_filter p ks rising.1)

pub chosen_rise : (threshold : ℕ) (state : LogState) (log : List Located) (h : History) → OpensAs state log h
    → Rising (chosen_in threshold state.extents)
chosen_rise threshold state log h opens =
    subst Rising (sym (chosen_are threshold state log h opens))
    (rising_filter (λ n. is_chosen threshold (extent_at (files_now h) state.opened n)) (numbers_up_to (files_now h) state.transaction)
    (rising_filter (λ n. nat_le n state.transaction) (segment_numbers (files_now h)) (keys_rising (files_now h).segments)))

pub chosen_low : (threshold : ℕ) (state : LogState) (log : List Located) (h : History) → OpensAs state log h
    → AllByRecursion (λ n. n ≤ state.transaction) (chosen_in threshold state.extents)
chosen_low threshold state log h opens =
    subst (AllByRecursion (λ n. n ≤ state.transaction)) (sym (chosen_are threshold state log h opens))
    (all_filter (λ n. n ≤ state.transaction) (λ n. is_chosen threshold (extent_at (files_now h) state.opened n))
    (numbers_up_to (files_now h) state.transaction) (low_numbers state.transaction (segment_numbers (files_now h))))

-- all numbers of segments increase
numbers_increase : (files : Files) → IsStrictlyIncreasing (segment_numbers files)
numbers_increase files =
    subst IsStrictlyIncreasing
    (filter_all (λ n. not (nat_lt n 0)) (segment_numbers files) (all_each (λ n. not (nat_lt n 0) ≡ true) (λ n. ap not (le-ltb n 0 (omega arith)))
    (segment_numbers files))) (numbers_rise 0 files)

pub chosen_increase : (threshold : ℕ) (state : LogState) (log : List Located) (h : History) → OpensAs state log h
    → IsStrictlyIncreasing (chosen_in threshold state.extents)
chosen_increase threshold state log h opens =
    subst IsStrictlyIncreasing (sym (chosen_are threshold state log h opens))
    (IsStrictlyIncreasing-filter (λ n. is_chosen threshold (extent_at (files_now h) state.opened n)) (numbers_up_to (files_now h) state.transaction)
    (IsStrictlyIncreasing-filter (λ n. nat_le n state.transaction) (segment_numbers (files_now h)) (numbers_increase (files_now h))))

-- ---- what is shown

pub opens_shows : (state : LogState) (log : List Located) (h : History) → OpensAs state log h
    → ShowsAt (files_now h) (suc state.transaction) (Some (entries_in log))
opens_shows state log h opens = log_shown (files_now h) state.transaction log opens.is
