-- Lemmas on the extents of segments: the sums of the sizes of their live entries.
use Rattle.std.proofs.Common.{◌≡◌, ℕ, ◌+◌, ◌-◌, ◌<◌, ◌≤◌, ◌^◌, min, Bool, true, false, cond, eqb, List, [], ◌∷◌, length, map, set, get_or}
use Rattle.std.proofs.Common.{sum_by, Ok, Err, refl, sym, ◌∙◌, ap, inl, inr, arith}
use Rattle.std.proofs.lemmas.Bool.{cases_eq, cases_lt, ne_eqb, eq-eqb}
use Rattle.std.proofs.lemmas.List.{length-map, length-set, get_or-set_same, get_or-set_other, get_or-map, same_lists, nil_from_length}
use Rattle.std.proofs.lemmas.List.Sums.{sum_by-cons}
use Rattle.std.proofs.lemmas.List.Sorted.{searched}
use Rattle.std.proofs.lemmas.Map.Keys.{sorted_from_strictly_increasing, below_from_sorted, sorted_head, sorted_tail}
use Rattle.std.specs.Ordering.{nat_cmp}
use Rattle.std.specs.declared.cmp.Ordering.TheVariants.{Less}
use Rattle.std.specs.Cmp.Lexicographic.{nat_list_cmp_total}
use Rattle.std.specs.FinMap.{entries, from_entries, empty, entries-insert, len-entries, len-empty}
use Rattle.std.specs.FinMap.Entries.{put, by_order}
use Rattle.std.specs.List.{AllByRecursion}
use Rattle.std.specs.List.Sorted.{IsStrictlyIncreasing, IsStrictlySortedBy, IsBinarySearchResult}
use Rattle.ferry_log.specs.declared.place.Place.{Place}
use Rattle.ferry_log.specs.declared.place.Extent.{Extent}
use Rattle.ferry_log.specs.Live.{key_cmp}
use Rattle.ferry_log.specs.State.{size_in, live_size}
use Rattle.ferry_log.specs.Opening.{Pairs, sum_in, counted_one, counted_live}

-- ---- numbers that rise

rising : (xs : List ℕ) → IsStrictlyIncreasing xs → (i j : ℕ) → i < j → j < length xs → get_or xs i 0 < get_or xs j 0
rising xs up i j below within = below_from_sorted xs i j 0 (sorted_from_strictly_increasing xs up) below within

not_falling : (xs : List ℕ) → IsStrictlyIncreasing xs → (i j : ℕ) → i ≤ j → j < length xs → get_or xs i 0 ≤ get_or xs j 0
not_falling xs up i j le within = elim (cases_eq i j) [
  | inl e ↦ let same : get_or xs i 0 ≡ get_or xs j 0 = ap (λ k. get_or xs k 0) e in omega arith
  | inr n ↦ let less = rising xs up i j (omega arith) within in omega arith
]

different : (xs : List ℕ) → IsStrictlyIncreasing xs → (i k : ℕ) → i < length xs → k < length xs → (k ≡ i → ⊥) → get_or xs i 0 ≡ get_or xs k 0 → ⊥
different xs up i k p q apart same = elim (cases_lt i k) [
  | inl low ↦ absurd (omega (arith, rising xs up i k low q))
  | inr high ↦ absurd (let less = rising xs up k i (omega arith) p in omega arith)
]

-- ---- one place

other : (place : Place) (e : Extent) → (place.segment ≡ e.segment → ⊥) → counted_one place e ≡ e
other place e apart = elim (cases_eq place.segment e.segment) [
  | inl same ↦ absurd (apart same)
  | inr n ↦ ap (λ b. record e { live = cond b (min (e.live + (place.size + 41)) (2 ^ 64 - 1)) e.live }) (ne_eqb place.segment e.segment n)
]

same_one : (place : Place) (e : Extent) (live : ℕ) → place.segment ≡ e.segment → live ≡ min (e.live + (place.size + 41))
    (2 ^ 64 - 1) → record { segment = e.segment; size = e.size; live = live } ≡ counted_one place e
same_one place e live same is =
    ap (λ n. record e { live = n }) (is
    ∙ ap (λ b. cond b (min (e.live + (place.size + 41)) (2 ^ 64 - 1)) e.live) (sym (eq-eqb place.segment e.segment same)))

segment_at : (es : List Extent) (numbers : List ℕ) (k : ℕ) (d : Extent) → map (λ e. e.segment) es ≡ numbers → k < length es
    → (get_or es k d).segment ≡ get_or numbers k 0
segment_at es numbers k d same within = sym (get_or-map (λ e. e.segment) es k d 0 within) ∙ ap (λ ns. get_or ns k 0) same

lengths : (es : List Extent) (numbers : List ℕ) → map (λ e. e.segment) es ≡ numbers → length es ≡ length numbers
lengths es numbers same = sym (length-map es (λ e. e.segment)) ∙ ap length same

-- the extent at the place that was found, and no other, is counted
pub counted_at : (es : List Extent) (numbers : List ℕ) (i : ℕ) (d : Extent) (place : Place) (live : ℕ) → map (λ e. e.segment) es ≡ numbers
    → IsStrictlyIncreasing numbers → IsBinarySearchResult (λ y. nat_cmp y place.segment) numbers (Ok i)
    → live ≡ min ((get_or es i d).live + (place.size + 41)) (2 ^ 64 - 1)
    → set es i (record { segment = (get_or es i d).segment; size = (get_or es i d).size; live = live }) ≡ map (counted_one place) es
counted_at es numbers i d place live same up found is =
    let at = searched numbers place.segment (Ok i) found (not_falling numbers up) in
    let n = lengths es numbers same in
    let within : i < length es = omega (arith, at.0) in
    let new : Extent = record { segment = (get_or es i d).segment; size = (get_or es i d).size; live = live } in
    let here : place.segment ≡ (get_or es i d).segment = sym (segment_at es numbers i d same within ∙ at.1) in
    same_lists _ _ (length-set es i new ∙ sym (length-map es (counted_one place))) (λ k c h.
    let inside : k < length es = omega (arith, length-set es i new) in
    elim (cases_eq k i) [
      | inl e ↦
          ap (λ j. get_or (set es i new) j c) e ∙ (get_or-set_same es i new c within
          ∙ (same_one place (get_or es i d) live here is
          ∙ (sym (get_or-map (counted_one place) es i d c within) ∙ ap (λ j. get_or (map (counted_one place) es) j c) (sym e))))
      | inr apart ↦
          get_or-set_other es i k new c apart
          ∙ (sym (other place (get_or es k c) (λ e. different numbers up i k at.0 (omega (arith, n)) apart (at.1
          ∙ (e ∙ segment_at es numbers k c same inside))))
          ∙ sym (get_or-map (counted_one place) es k c c inside))
    ])

-- where no segment was found, none is counted
pub counted_none : (es : List Extent) (numbers : List ℕ) (i : ℕ) (place : Place) → map (λ e. e.segment) es ≡ numbers → IsStrictlyIncreasing numbers
    → IsBinarySearchResult (λ y. nat_cmp y place.segment) numbers (Err i) → es ≡ map (counted_one place) es
counted_none es numbers i place same up found =
    let at = searched numbers place.segment (Err i) found (not_falling numbers up) in
    let n = lengths es numbers same in
    same_lists _ _ (sym (length-map es (counted_one place))) (λ k c h.
    sym (other place (get_or es k c)
    (λ e. let own = segment_at es numbers k c same h in elim
    (cases_lt k i) [ inl low ↦ absurd (omega (arith, at.1 k low)) | inr high ↦ absurd (omega (arith, at.2 k high)) ]))
    ∙ sym (get_or-map (counted_one place) es k c c h))

-- ---- many places

segments-counted : (place : Place) (es : List Extent) → map (λ e. e.segment) (map (counted_one place) es) ≡ map (λ e. e.segment) es
segments-counted place [] = refl
segments-counted place (e ∷ es) = ap (λ k. e.segment ∷ k) (segments-counted place es)

pub segments_same : (place : Place) (es new : List Extent) (numbers : List ℕ) → map (λ e. e.segment) es ≡ numbers → new ≡ map (counted_one place) es
    → map (λ e. e.segment) new ≡ numbers
segments_same place es new numbers same is = ap (map (λ e. e.segment)) is ∙ (segments-counted place es ∙ same)

-- one more place from the front
counted-first : (p : List ℕ × Place) (pairs : Pairs) (es : List Extent)
    → map (counted_live pairs) (map (counted_one p.1) es) ≡ map (counted_live (p ∷ pairs)) es
counted-first p pairs [] = refl
counted-first p pairs (e ∷ es) = ap (λ k. counted_live (p ∷ pairs) e ∷ k) (counted-first p pairs es)

-- what is left to be counted, one place later
pub counted_next : (p : List ℕ × Place) (place : Place) (left pairs all : Pairs) (first es new : List Extent) → left ≡ p ∷ pairs → place ≡ p.1
    → map (counted_live left) es ≡ map (counted_live all) first
    → new ≡ map (counted_one place) es → map (counted_live pairs) new ≡ map (counted_live all) first
counted_next p place left pairs all first es new split own old is =
    ap (map (counted_live pairs)) (is ∙ ap (λ q. map (counted_one q) es) own)
    ∙ (counted-first p pairs es ∙ (ap (λ ps. map (counted_live ps) es) (sym split) ∙ old))

pub counted_all : (es : List Extent) → map (counted_live []) es ≡ es
counted_all [] = refl
counted_all (e ∷ es) = ap (λ k. e ∷ k) (counted_all es)

-- ---- sums

counted_place : (place : Place) (e : Extent) (b : Bool) → eqb place.segment e.segment ≡ b → e.live + cond b (place.size + 41) 0 ≤ 2 ^ 64 - 1
    → cond b (min (e.live + (place.size + 41)) (2 ^ 64 - 1)) e.live ≡ e.live + cond b (place.size + 41) 0
counted_place place e true is small = omega arith
counted_place place e false is small = omega arith

one_counted : (place : Place)
    (e : Extent) → e.live + size_in e.segment place ≤ 2 ^ 64 - 1 → counted_one place e ≡ record e { live = e.live + size_in e.segment place }
one_counted place e small = ap (λ n. record e { live = n }) (counted_place place e (eqb place.segment e.segment) refl small)

-- where the sum fits, it is what is counted
pub live_counted : (pairs : Pairs)
    (e : Extent) → e.live + sum_in e.segment pairs ≤ 2 ^ 64 - 1 → counted_live pairs e ≡ record e { live = e.live + sum_in e.segment pairs }
live_counted [] e small = ap (λ n. record e { live = n }) (omega arith)
live_counted (p ∷ pairs) e small =
    let f : List ℕ × Place → ℕ = λ q. size_in e.segment q.1 in
    let split : sum_in e.segment (p ∷ pairs) ≡ size_in e.segment p.1 + sum_in e.segment pairs = sum_by-cons f p pairs in
    let first = one_counted p.1 e (omega arith) in
    let next : Extent = record e { live = e.live + size_in e.segment p.1 } in
    ap (counted_live pairs) first
    ∙ (live_counted pairs next (omega arith)
    ∙ ap (λ n. record e { live = n })
    (let n : e.live + size_in e.segment p.1 + sum_in e.segment pairs ≡ e.live + sum_in e.segment (p ∷ pairs) = omega arith in n))

-- ---- live_size

put_first : (k : List ℕ) (v : Place) (es : Pairs) → AllByRecursion (λ y. key_cmp k y ≡ Less) (map (λ e. e.0) es) → put key_cmp k v es ≡ (k, v) ∷ es
put_first k v [] p = refl
put_first k v (e ∷ es) p = ap (λ o. by_order o ((k, v) ∷ e ∷ es) ((e.0, v) ∷ es) (e ∷ put key_cmp k v es)) p.0

-- pairs in order are the entries of their map
entries-from_entries : (es : Pairs) → IsStrictlySortedBy key_cmp (map (λ e. e.0) es) → entries (from_entries {R = key_cmp} es) ≡ es
entries-from_entries [] s = nil_from_length _ (sym (len-entries (empty {X = Place} {R = key_cmp})) ∙ len-empty key_cmp Place)
entries-from_entries (e ∷ es) s =
    entries-insert nat_list_cmp_total (from_entries es) e.0 e.1
    ∙ (ap (put key_cmp e.0 e.1) (entries-from_entries es (sorted_tail key_cmp e.0 (map (λ e. e.0) es) s))
    ∙ put_first e.0 e.1 es (sorted_head key_cmp e.0 (map (λ e. e.0) es) s))

sum-values : (f : Place → ℕ) (es : Pairs) → sum_by f (map (λ e. e.1) es) ≡ sum_by (λ p. f p.1) es
sum-values f [] = refl
sum-values f (e ∷ es) = sum_by-cons f e.1 (map (λ e. e.1) es) ∙ (ap (λ n. f e.1 + n) (sum-values f es) ∙ sym (sum_by-cons (λ p. f p.1) e es))

-- the sizes of a segment's live entries, of pairs in order
pub live_size-pairs : (segment : ℕ) (pairs : Pairs) → IsStrictlySortedBy key_cmp (map (λ e. e.0) pairs) → live_size segment
    (from_entries {R = key_cmp} pairs) ≡ sum_in segment pairs
live_size-pairs segment pairs ordered =
    ap (λ es. sum_by (size_in segment) (map (λ e. e.1) es)) (entries-from_entries pairs ordered) ∙ sum-values (size_in segment) pairs
