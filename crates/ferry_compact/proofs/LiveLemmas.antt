-- Lemmas on specs/Moving.antt: the entries that are left, with those behind them that were put again, leave each key what it has.
use Rattle.std.proofs.Common.{◌≡◌, ◌⊎◌, inl, inr, ℕ, ◌+◌, ◌<◌, ◌≤◌, Bool, true, false, cond, ◌&&◌, ◌||◌, not, nat_eq, nat_lt, List, [], ◌∷◌, ◌++◌}
use Rattle.std.proofs.Common.{length, map, filter, Option, Some, None, is_none, refl, sym, ◌∙◌, ap, subst, arith}
use Rattle.std.proofs.lemmas.Bool.{lt-ltb}
use Rattle.std.proofs.lemmas.List.Elements.{filter-append}
use Rattle.std.specs.List.{AllByRecursion, list_any}
use Rattle.std.specs.Ordering.{eq_by_cmp}
use Rattle.ferry_compact.proofs.LastLemmas.{after-append, after_alike, after_last, after_none, all_parts, all_there, Before, blob_last, blob_none}
use Rattle.ferry_compact.proofs.LastLemmas.{last_or, LastNaming, live_after, NoEntryNames, NoneNames, Ordered, ordered_front, place_last, same_key}
use Rattle.ferry_compact.specs.Moving.{is_among, is_moved, left_in, lies_at, moved_in, moves_entry, puts_key, stays_below}
use Rattle.ferry_compact.proofs.ListLemmas.{all_both, all_filtered, all_front, all_map, all_unfiltered, among-append, among_front}
use Rattle.ferry_compact.proofs.ListLemmas.{map-append, never, none_passes, own_among, rising_apart, true_or_false, not_false}
use Rattle.ferry_disk.proofs.FilesLemmas.{same_number}
use Rattle.ferry_log.specs.Live.{key_cmp, live_blob, live_place, names_key, put_blob, put_place}
use Rattle.ferry_log.specs.Log.{Located}
use Rattle.ferry_log.specs.declared.place.Place.{Place}
use Rattle.ferry_segment.specs.Entry.{LogEntry, PutEntry, DeleteEntry, CommitEntry}
use Rattle.ferry_stops.proofs.NumberLemmas.{Rising}

-- ---- the entries that are put again

both : (a b : Bool) → (a && b) ≡ true → (a ≡ true) × (b ≡ true)
both true b e = (refl, e)
both false b e = absurd (let no : ⊥ = cc in no)

-- no entry before another has its place
not_before : (e : Located) (l : Located) → Before e l → l.segment ≡ e.segment → l.at + 41 ≡ e.at + 41 → ⊥
not_before e l (inl lt) s a = omega (arith, lt, s)
not_before e l (inr q) s a = let same = q.0 in let lt = q.1 in omega (arith, same, lt, s, a)

-- a PUT that is put again lies at the place of its key, where no entry lies before the last one that names it
put_moved : (e l : Located) (place : Option Place) → place ≡ put_place l.segment l.at l.entry → lies_at place e.segment (e.at + 41) ≡ true → Before e l → ⊥
put_moved e l place is lies before = by_entry l.entry (ap (λ (p : Option Place). lies_at p e.segment (e.at + 41)) (sym is) ∙ lies) where
  by_entry : (entry : LogEntry) → lies_at (put_place l.segment l.at entry) e.segment (e.at + 41) ≡ true → ⊥
  by_entry (PutEntry k b) h =
      let parts = both (nat_eq l.segment e.segment) (nat_eq (l.at + 41) (e.at + 41)) h in
      not_before e l before (same_number l.segment e.segment parts.0) (same_number (l.at + 41) (e.at + 41) parts.1)
  by_entry (DeleteEntry k) h = let no : ⊥ = cc in no
  by_entry CommitEntry h = let no : ⊥ = cc in no

-- a DELETE is put again only where its key isn't live
delete_moved : (l : Located) (place : Option Place) (b : Bool) → place ≡ put_place l.segment l.at l.entry → (is_none place && b) ≡ true
    → None ≡ put_blob l.entry
delete_moved l place b is moved = by_entry l.entry (ap (λ (p : Option Place). is_none p) (sym is) ∙ (both (is_none place) b moved).0) where
  by_entry : (entry : LogEntry) → is_none (put_place l.segment l.at entry) ≡ true → None ≡ put_blob entry
  by_entry (PutEntry k blob) h = absurd (let no : ⊥ = cc in no)
  by_entry (DeleteEntry k) h = refl
  by_entry CommitEntry h = refl

-- the place of a key that an entry names, by the last entry that names the key
place_of : (key k : List ℕ) (log : List Located) (l : LastNaming key log) → eq_by_cmp key_cmp key k ≡ true
    → live_place k log ≡ put_place l.last.segment l.last.at l.last.entry
place_of key k log l same = ap (λ (q : List ℕ). live_place q log) (sym (same_key key k same)) ∙ place_last key log l

-- an entry before the last one that names the key gives what that one gives, where it is put again
alike_before : (key : List ℕ) (log : List Located) (chosen : List ℕ) (l : LastNaming key log) (e : Located) (entry : LogEntry) → Before e l.last
    → moves_entry log chosen e.segment e.at entry ≡ true → names_key key entry ≡ true → put_blob entry ≡ put_blob l.last.entry
alike_before key log chosen l e (PutEntry k blob) before moved names =
    absurd (put_moved e l.last (live_place k log) (place_of key k log l names) moved before)
alike_before key log chosen l e (DeleteEntry k) before moved names =
    delete_moved l.last (live_place k log) (list_any (stays_below chosen k e.segment) log) (place_of key k log l names) moved
alike_before key log chosen l e CommitEntry before moved names = absurd (let no : ⊥ = cc in no)

moved_entry : (log : List Located) (chosen : List ℕ) (e : Located) → is_moved log chosen e ≡ true → moves_entry log chosen e.segment e.at e.entry ≡ true
moved_entry log chosen e moved = (both (is_among chosen e.segment) (moves_entry log chosen e.segment e.at e.entry) moved).1

-- each entry that is put again and names a key gives what the key has
moved_alike : (key : List ℕ) (log : List Located) (chosen : List ℕ) → Ordered log
    → AllByRecursion (λ e. names_key key e ≡ true → put_blob e ≡ live_blob key log) (moved_in log chosen)
unfolding moved_in
moved_alike key log chosen ordered =
    all_filtered (λ (e : LogEntry). names_key key e ≡ true → put_blob e ≡ live_blob key log) (λ (e : Located). e.entry) (is_moved log chosen) log
    (elim (last_or key log) [
      | inl none ↦
          all_map (λ (e : Located). names_key key e.entry ≡ false)
          (λ (e : Located). is_moved log chosen e ≡ true → names_key key e.entry ≡ true → put_blob e.entry ≡ live_blob key log)
          (λ e not moved names. never (names_key key e.entry) names not) log none
      | inr l ↦
          all_parts (λ (e : Located). is_moved log chosen e ≡ true → names_key key e.entry ≡ true → put_blob e.entry ≡ live_blob key log) key log l
          (all_map (λ (e : Located). Before e l.last)
          (λ (e : Located). is_moved log chosen e ≡ true → names_key key e.entry ≡ true → put_blob e.entry ≡ live_blob key log)
          (λ e before moved names.
          alike_before key log chosen l e e.entry before (moved_entry log chosen e moved) names ∙ sym (blob_last key log l)) l.before
          (ordered_front l.before l.last l.after (subst Ordered l.parts ordered)))
          (λ moved names. sym (blob_last key log l))
          (all_map (λ (e : Located). names_key key e.entry ≡ false)
          (λ (e : Located). is_moved log chosen e ≡ true → names_key key e.entry ≡ true → put_blob e.entry ≡ live_blob key log)
          (λ e not moved names. never (names_key key e.entry) names not) l.after l.none)
    ])

-- ---- the entries that are left

-- a chosen segment's PUT that is its key's last entry is put again
own_moved : (log : List Located) (l : Located) (key blob : List ℕ)
    → live_place key log ≡ Some (record { segment = l.segment; at = l.at + 41; size = length blob })
    → lies_at (live_place key log) l.segment (l.at + 41) ≡ true
own_moved log l key blob is =
    ap (λ (p : Option Place). lies_at p l.segment (l.at + 41)) is
    ∙ (ap (λ (b : Bool). b && nat_eq (l.at + 41) (l.at + 41)) (own_among l.segment) ∙ own_among (l.at + 41))

-- a PUT of the key that is left before a DELETE that is gone stays below it
puts_below : (key k : List ℕ) (chosen : List ℕ) (segment : ℕ) (e : Located) (entry : LogEntry) → eq_by_cmp key_cmp key k ≡ true → e.segment < segment
    → is_among chosen e.segment ≡ false → names_key key entry ≡ true
    → (puts_key k entry && (nat_lt e.segment segment && not (is_among chosen e.segment))) ≡ false → put_blob entry ≡ None
puts_below key k chosen segment e (PutEntry q blob) same lt out names none =
    let own : eq_by_cmp key_cmp k q ≡ true = ap (λ (x : List ℕ). eq_by_cmp key_cmp x q) (sym (same_key key k same)) ∙ names in
    let less : nat_lt e.segment segment ≡ true = lt-ltb e.segment segment lt in
    let all : (eq_by_cmp key_cmp k q && (nat_lt e.segment segment && not (is_among chosen e.segment))) ≡ true =
    ap (λ (b : Bool). b && (nat_lt e.segment segment && not (is_among chosen e.segment))) own
    ∙ (ap (λ (b : Bool). b && not (is_among chosen e.segment)) less ∙ ap not out) in
    never _ all none
puts_below key k chosen segment e (DeleteEntry q) same lt out names none = refl
puts_below key k chosen segment e CommitEntry same lt out names none = refl

not_above : (e l : Located) → Before e l → e.segment ≤ l.segment
not_above e l (inl lt) = omega (arith, lt)
not_above e l (inr q) = let same = q.0 in omega (arith, same)

-- where it is left it isn't chosen: of the chosen segments those up to one that is gone are gone
left_unchosen : (gone rest : List ℕ) (e l : Located) → Rising (gone ++ rest) → is_among gone l.segment ≡ true → is_among gone e.segment ≡ false → Before e l
    → (e.segment < l.segment) × (is_among (gone ++ rest) e.segment ≡ false)
left_unchosen gone rest e l rising gone_l left_e before = (below (cases_eq_segment e l before), out (true_or_false (is_among rest e.segment))) where
  cases_eq_segment : (e l : Located) → Before e l → (e.segment < l.segment) ⊎ (e.segment ≡ l.segment)
  cases_eq_segment e l (inl lt) = inl lt
  cases_eq_segment e l (inr q) = inr q.0

  below : (e.segment < l.segment) ⊎ (e.segment ≡ l.segment) → e.segment < l.segment
  below (inl lt) = lt
  below (inr same) = never (is_among gone e.segment) (ap (is_among gone) same ∙ gone_l) left_e

  out : (is_among rest e.segment ≡ true) ⊎ (is_among rest e.segment ≡ false) → is_among (gone ++ rest) e.segment ≡ false
  out (inl among) =
      let above : l.segment < e.segment = rising_apart gone rest l.segment e.segment rising gone_l among in
      let under : e.segment ≤ l.segment = not_above e l before in
      absurd (omega (arith, above, under))
  out (inr off) = among-append gone rest e.segment ∙ (ap (λ (b : Bool). b || is_among rest e.segment) left_e ∙ off)

-- what is left of a log whose last entry naming the key is left
left_last : (key : List ℕ) (log : List Located) (gone : List ℕ) (l : LastNaming key log) → is_among gone l.last.segment ≡ false
    → live_after key None (left_in log gone) ≡ put_blob l.last.entry
unfolding left_in
left_last key log gone l left =
    let f : Located → LogEntry = λ e. e.entry in
    let p : Located → Bool = λ e. not (is_among gone e.segment) in
    let here : p l.last ≡ true = ap not left in
    let split : filter p log ≡ filter p l.before ++ l.last ∷ filter p l.after =
    ap (filter p) l.parts
    ∙ (filter-append p l.before (l.last ∷ l.after)
    ∙ ap (λ (b : Bool). filter p l.before ++ cond b (l.last ∷ filter p l.after) (filter p l.after)) here) in
    ap (λ (k : List Located). live_after key None (map f k)) split
    ∙ (ap (live_after key None) (map-append f (filter p l.before) (l.last ∷ filter p l.after))
    ∙ after_last key None (map f (filter p l.before)) l.last.entry (map f (filter p l.after)) l.names
    (all_filtered (λ (e : LogEntry). names_key key e ≡ false) f p l.after
    (all_map (λ (e : Located). names_key key e.entry ≡ false) (λ (e : Located). p e ≡ true → names_key key e.entry ≡ false) (λ e none passes. none) l.after
    l.none)))

-- what is left of one in which no entry names the key
left_none : (key : List ℕ) (log : List Located) (gone : List ℕ) → NoneNames key log → live_after key None (left_in log gone) ≡ None
unfolding left_in
left_none key log gone none =
    after_none key None (map (λ (e : Located). e.entry) (filter (λ (e : Located). not (is_among gone e.segment)) log))
    (all_filtered (λ (e : LogEntry). names_key key e ≡ false) (λ (e : Located). e.entry) (λ (e : Located). not (is_among gone e.segment)) log
    (all_map (λ (e : Located). names_key key e.entry ≡ false)
    (λ (e : Located). not (is_among gone e.segment) ≡ true → names_key key e.entry ≡ false) (λ e not passes. not) log none))

-- where no entry that is put again names the key, none is one of it
none_moved : (key : List ℕ) (log : List Located) (chosen : List ℕ) → NoEntryNames key (moved_in log chosen)
    → AllByRecursion (λ (e : Located). is_moved log chosen e ≡ true → names_key key e.entry ≡ false) log
unfolding moved_in
none_moved key log chosen none =
    all_unfiltered (λ (e : LogEntry). names_key key e ≡ false) (λ (e : Located). e.entry) (is_moved log chosen) log none

last_holds : (P : Located → Type 0) (key : List ℕ) (log : List Located) (l : LastNaming key log) → AllByRecursion P log → P l.last
last_holds P key log l all = all_there P l.before l.last l.after (subst (AllByRecursion P) l.parts all)

-- of a key whose last entry is a DELETE that is gone and isn't put again, no PUT is left
left_deleted : (key k : List ℕ) (log : List Located) (gone rest : List ℕ) (l : LastNaming key log) → Rising (gone ++ rest) → Ordered log
    → eq_by_cmp key_cmp key k ≡ true → is_among gone l.last.segment ≡ true
    → list_any (stays_below (gone ++ rest) k l.last.segment) log ≡ false
    → AllByRecursion (λ (e : Located). not (is_among gone e.segment) ≡ true → names_key key e.entry ≡ true → put_blob e.entry ≡ None) log
left_deleted key k log gone rest l rising ordered same gone_l none =
    let P : Located → Type 0 = λ e. not (is_among gone e.segment) ≡ true → names_key key e.entry ≡ true → put_blob e.entry ≡ None in
    let Q : Located → Type 0 = λ e. stays_below (gone ++ rest) k l.last.segment e ≡ false in
    let off : AllByRecursion Q log = none_passes (stays_below (gone ++ rest) k l.last.segment) log none in
    let off_before : AllByRecursion Q l.before = all_front Q l.before (l.last ∷ l.after) (subst (AllByRecursion Q) l.parts off) in
    let before : AllByRecursion (λ (e : Located). Before e l.last) l.before =
    ordered_front l.before l.last l.after (subst Ordered l.parts ordered) in
    all_parts P key log l
    (all_map (λ (e : Located). Before e l.last × Q e) P
    (λ e q left names.
    let apart = left_unchosen gone rest e l.last rising gone_l (not_false (is_among gone e.segment) left) q.0 in
    puts_below key k (gone ++ rest) l.last.segment e e.entry same apart.0 apart.1 names q.1) l.before
    (all_both (λ (e : Located). Before e l.last) Q l.before before off_before))
    (λ left names. never (is_among gone l.last.segment) gone_l (not_false (is_among gone l.last.segment) left))
    (all_map (λ (e : Located). names_key key e.entry ≡ false) P (λ e not left names. never (names_key key e.entry) names not) l.after l.none)

left_gone : (key : List ℕ) (log : List Located) (gone rest : List ℕ) (l : LastNaming key log) (entry : LogEntry) → l.last.entry ≡ entry
    → Rising (gone ++ rest) → Ordered log → is_among gone l.last.segment ≡ true
    → (moves_entry log (gone ++ rest) l.last.segment l.last.at entry ≡ true → ⊥)
    → live_after key None (left_in log gone) ≡ put_blob entry
unfolding left_in
left_gone key log gone rest l (PutEntry k blob) is rising ordered gone_l stays =
    let same : eq_by_cmp key_cmp key k ≡ true = ap (names_key key) (sym is) ∙ l.names in
    let place = place_of key k log l same ∙ ap (put_place l.last.segment l.last.at) is in
    absurd (stays (own_moved log l.last k blob place))
left_gone key log gone rest l (DeleteEntry k) is rising ordered gone_l stays =
    let f : Located → LogEntry = λ e. e.entry in
    let same : eq_by_cmp key_cmp key k ≡ true = ap (names_key key) (sym is) ∙ l.names in
    let place : live_place k log ≡ None = place_of key k log l same ∙ ap (put_place l.last.segment l.last.at) is in
    let dead : is_none (live_place k log) ≡ true = ap (λ (p : Option Place). is_none p) place in
    let none : list_any (stays_below (gone ++ rest) k l.last.segment) log ≡ false =
    elim (true_or_false (list_any (stays_below (gone ++ rest) k l.last.segment) log)) [
      | inr off ↦ off
      | inl on ↦ absurd (stays (ap (λ (b : Bool). b && list_any (stays_below (gone ++ rest) k l.last.segment) log) dead ∙ on))
    ] in
    elim (after_alike key None (map f (filter (λ (e : Located). not (is_among gone e.segment)) log))
    (all_filtered (λ (e : LogEntry). names_key key e ≡ true → put_blob e ≡ None) f (λ (e : Located). not (is_among gone e.segment)) log
    (left_deleted key k log gone rest l rising ordered same gone_l none)) None) [
      | inl e ↦ e
      | inr e ↦ e.0
    ]
left_gone key log gone rest l CommitEntry is rising ordered gone_l stays =
    let names : false ≡ true = ap (names_key key) (sym is) ∙ l.names in absurd (let no : ⊥ = cc in no)

-- what is left gives what the key has, where no entry that is put again names it
left_same : (key : List ℕ) (log : List Located) (gone rest : List ℕ) → Rising (gone ++ rest) → Ordered log → NoEntryNames key (moved_in log (gone ++ rest))
    → live_after key None (left_in log gone) ≡ live_blob key log
left_same key log gone rest rising ordered none = elim (last_or key log) [
  | inl off ↦ left_none key log gone off ∙ sym (blob_none key log off)
  | inr l ↦ elim (true_or_false (is_among gone l.last.segment)) [
    | inr left ↦ left_last key log gone l left ∙ sym (blob_last key log l)
    | inl gone_l ↦
        left_gone key log gone rest l l.last.entry refl rising ordered gone_l
        (λ moves.
        let chosen : is_among (gone ++ rest) l.last.segment ≡ true = among_front gone rest l.last.segment gone_l in
        let moved : is_moved log (gone ++ rest) l.last ≡ true =
        ap (λ (b : Bool). b && moves_entry log (gone ++ rest) l.last.segment l.last.at l.last.entry) chosen ∙ moves in
        never (names_key key l.last.entry) l.names
        (last_holds (λ (e : Located). is_moved log (gone ++ rest) e ≡ true → names_key key e.entry ≡ false) key log l
        (none_moved key log (gone ++ rest) none) moved))
        ∙ sym (blob_last key log l)
  ]
]

-- ---- both

pub moved_live : (key : List ℕ) (log : List Located) (gone rest : List ℕ) → Rising (gone ++ rest) → Ordered log
    → live_after key None (left_in log gone ++ (moved_in log (gone ++ rest) ++ CommitEntry ∷ [])) ≡ live_blob key log
moved_live key log gone rest rising ordered =
    let left = left_in log gone in
    let moved = moved_in log (gone ++ rest) in
    after-append key None left (moved ++ CommitEntry ∷ [])
    ∙ (after-append key (live_after key None left) moved (CommitEntry ∷ [])
    ∙ elim (after_alike key (live_blob key log) moved (moved_alike key log (gone ++ rest) ordered) (live_after key None left)) [
      | inl e ↦ e
      | inr e ↦ e.0 ∙ left_same key log gone rest rising ordered e.1
    ])
