-- Lemmas on specs/State.antt: what was taken is the state of the log.
use Rattle.std.proofs.Common.{◌≡◌, ℕ, zero, suc, nat_le, filter, ◌+◌, ◌-◌, ◌<◌, ◌≤◌, ◌^◌, Bool, true, false, cond, eqb, List, [], ◌∷◌, ◌++◌, length, take}
use Rattle.std.proofs.Common.{drop, map, get_or, refl, sym, ◌∙◌, ap, subst, inl, inr, arith}
use Rattle.std.proofs.lemmas.Bool.{ne_eqb, eqb-true, cases_eq, le-leb, lt-leb}
use Rattle.std.proofs.lemmas.List.{length-append, drop_more, take-append-drop, length-take, get_or-take}
use Rattle.std.proofs.lemmas.List.Sums.{sum_by-append, sum_by-cons}
use Rattle.std.proofs.lemmas.Map.Keys.{sorted_from_strictly_increasing, below_from_sorted, sorted_head, sorted_tail}
use Rattle.std.specs.Ordering.{nat_cmp}
use Rattle.std.specs.declared.cmp.Ordering.TheVariants.{Less, Equal}
use Rattle.std.specs.Cmp.{nat_cmp_total, tied_itself}
use Rattle.std.specs.Cmp.Lexicographic.{nat_list_cmp_total}
use Rattle.std.specs.FinMap.{from_entries, empty, get-from_entries}
use Rattle.std.specs.List.{AllByRecursion}
use Rattle.std.specs.List.Sorted.{IsStrictlyIncreasing, IsStrictlySortedBy}
use Rattle.ferry_segment.specs.Entry.{LogEntry, size_of, spelling}
use Rattle.ferry_segment.specs.Segment.{Splits, spellings, magic}
use Rattle.ferry_segment.proofs.EntryLemmas.{length-spelling}
use Rattle.ferry_disk.specs.Files.{Files, segment_numbers, segment_bytes}
use Rattle.ferry_log.specs.declared.fault.LogFault.{LogFault}
use Rattle.ferry_log.specs.declared.fault.LogFault.TheVariants.{NoCommit, Damaged, Device, Memory}
use Rattle.ferry_log.specs.declared.place.Extent.{Extent}
use Rattle.ferry_log.specs.Fault.{IsRefused}
use Rattle.ferry_log.specs.Log.{Located, located, IsOpen, IsTransaction, numbers_up_to, Joins}
use Rattle.ferry_log.specs.Live.{key_cmp}
use Rattle.ferry_log.specs.State.{Places, live_size, extents_of, IsStateOf}
use Rattle.ferry_log.specs.Opening.{Pairs, sum_in, entries_in, EndsAt, HasNoEnd, uncounted, counted_live, HasTaken, IsStopped}
use Rattle.ferry_log.proofs.ExtentsLemmas.{live_counted, live_size-pairs}

-- ---- entries_in

abbrev size_at : ℕ → Located → ℕ
size_at segment e = cond (eqb e.segment segment) (size_of e.entry) 0

not_own : (s : ℕ) → nat_cmp s s ≡ Less → ⊥
not_own s h = let tied : nat_cmp s s ≡ Equal = tied_itself nat_cmp_total s in cc

above_apart : (n s : ℕ) → nat_cmp s n ≡ Less → eqb n s ≡ false
above_apart n s less = ne_eqb n s (λ e. not_own s (subst (λ k. nat_cmp s k ≡ Less) e less))

in_cons : (s : ℕ) (e : Located) (es : List Located) → entries_in s (e ∷ es) ≡ size_at s e + entries_in s es
in_cons s e es = sum_by-cons (size_at s) e es

-- the entries of another segment count nothing
elsewhere : (s n at : ℕ) (es : List LogEntry) → eqb n s ≡ false → entries_in s (located n at es) ≡ 0
elsewhere s n at [] apart = refl
elsewhere s n at (e ∷ es) apart =
    let first : size_at s (record { segment = n; at = at; entry = e }) ≡ 0 = ap (λ b. cond b (size_of e) 0) apart in
    omega (arith, in_cons s (record { segment = n; at = at; entry = e }) (located n (at + size_of e) es), elsewhere s n (at + size_of e) es apart)

-- the entries of a segment are as long as their spellings
here : (s n at : ℕ) (es : List LogEntry) → eqb n s ≡ true → entries_in s (located n at es) ≡ length (spellings es)
here s n at [] same = refl
here s n at (e ∷ es) same =
    let first : size_at s (record { segment = n; at = at; entry = e }) ≡ size_of e = ap (λ b. cond b (size_of e) 0) same in
    omega (
      arith,
      in_cons s (record { segment = n; at = at; entry = e }) (located n (at + size_of e) es),
      here s n (at + size_of e) es same,
      length-append
          (spelling e) (spellings es),
      length-spelling e,
    )

-- no entry is of a segment below them all
joins_above : (files : Files) (ns : List ℕ) (log : List Located) (s : ℕ) → AllByRecursion (λ n. nat_cmp s n ≡ Less) ns → Joins files ns log
    → entries_in s log ≡ 0
joins_above files [] log s all j = ap (entries_in s) j
joins_above files (n ∷ ns) log s all j =
    let none = elsewhere s n 8 j.0 (above_apart n s all.0) in
    ap (entries_in s) j.4
    ∙ (sum_by-append (size_at s) (located n 8 j.0) j.1
    ∙ (let e : entries_in s (located n 8 j.0) + entries_in s j.1 ≡ 0 = omega (arith, none, joins_above files ns j.1 s all.1 j.3) in e))

joins_on : (files : Files) (n : ℕ) (ns : List ℕ) (log rest : List Located) (es : List LogEntry) (s : ℕ) (b : Bool) → eqb n s ≡ b
    → Splits (segment_bytes files n) es → log ≡ located n 8 es ++ rest → (b ≡ true → entries_in s rest ≡ 0)
    → entries_in s rest ≤ length (segment_bytes files s) → entries_in s log ≤ length (segment_bytes files s)
joins_on files n ns log rest es s true same split is none bound =
    let joined = ap (entries_in s) is ∙ sum_by-append (size_at s) (located n 8 es) rest in
    let own : n ≡ s = eqb-true n s same in
    let whole : length (segment_bytes files s) ≡ 8 + length (spellings es) =
    ap (λ k. length (segment_bytes files k)) (sym own)
    ∙ (ap length split.whole ∙ (let e : length (magic ++ spellings es) ≡ 8 + length (spellings es) = omega arith in e)) in
    omega (arith, joined, here s n 8 es same, none refl, whole)
joins_on files n ns log rest es s false apart split is none bound =
    let joined = ap (entries_in s) is ∙ sum_by-append (size_at s) (located n 8 es) rest in
    omega (arith, joined, elsewhere s n 8 es apart, bound)

-- the entries of a segment are no longer than the segment
pub joins_bound : (files : Files) (ns : List ℕ) (log : List Located) (s : ℕ) → IsStrictlySortedBy nat_cmp ns → Joins files ns log
    → entries_in s log ≤ length (segment_bytes files s)
joins_bound files [] log s up j = omega (arith, ap (entries_in s) j)
joins_bound files (n ∷ ns) log s up j =
    joins_on files n ns log j.1 j.0 s (eqb n s) refl j.2 j.4
    (λ same. joins_above files ns j.1 s (subst (λ k. AllByRecursion (λ m. nat_cmp k m ≡ Less) ns) (eqb-true n s same) (sorted_head nat_cmp n ns up)) j.3)
    (joins_bound files ns j.1 s (sorted_tail nat_cmp n ns up) j.3)

-- ---- extents_of

all_counted : (files : Files) (ns : List ℕ) (pairs : Pairs) → IsStrictlySortedBy key_cmp (map (λ e. e.0) pairs)
    → ((s : ℕ) → sum_in s pairs ≤ length (segment_bytes files s)) → AllByRecursion (λ n. length (segment_bytes files n) < 2 ^ 64) ns
    → map (counted_live pairs) (map (λ n. uncounted n (length (segment_bytes files n))) ns) ≡ extents_of files (from_entries {R = key_cmp} pairs) ns
all_counted files [] pairs ordered bound small = refl
all_counted files (n ∷ ns) pairs ordered bound small =
    let size = length (segment_bytes files n) in
    let first : counted_live pairs (uncounted n size) ≡ record { segment = n; size = size; live = live_size n (from_entries {R = key_cmp} pairs) } =
    live_counted pairs (uncounted n size) (omega (arith, bound n, small.0))
    ∙ ap (λ k. record { segment = n; size = size; live = k }) (let e : 0 + sum_in n pairs ≡ sum_in n pairs = omega arith in e
    ∙ sym (live_size-pairs n pairs ordered)) in
    ap (λ e. e ∷ map (counted_live pairs) (map (λ m. uncounted m (length (segment_bytes files m))) ns)) first
    ∙ ap (λ es. record { segment = n; size = size; live = live_size n (from_entries {R = key_cmp} pairs) } ∷ es)
    (all_counted files ns pairs ordered bound small.1)

-- ---- IsStateOf

-- the transaction of the segments that were counted
transaction_of : (files : Files) (numbers : List ℕ) (count : ℕ) → 0 < count → count ≤ length numbers → numbers ≡ segment_numbers files
    → EndsAt files numbers count → IsTransaction files (get_or numbers (count - 1) 0)
transaction_of files numbers count some within is end =
    let e : count - 1 + 1 ≡ count = omega arith in
    record {
      below = take (count - 1) numbers;
      above = drop count numbers;
      numbers =
          sym is
          ∙ (sym (take-append-drop (count - 1) numbers)
          ∙ (ap (λ k. take (count - 1) numbers ++ k) (drop_more numbers (count - 1) 0 (omega arith))
          ∙ ap (λ k. take (count - 1) numbers ++ get_or numbers (count - 1) 0 ∷ drop k numbers) e));
      committed = end.committed;
      open_above = end.open_above;
    }

-- the numbers from a front on, where they rise
abbrev up_to : ℕ → ℕ → Bool
up_to t n = nat_le n t

kept_on : (b : Bool) (n : ℕ) (xs ys : List ℕ) → b ≡ true → xs ≡ ys → cond b (n ∷ xs) xs ≡ n ∷ ys
kept_on true n xs ys is e = ap (λ k. n ∷ k) e
kept_on false n xs ys is e = absurd (let none : ⊥ = cc in none)

left_out : (b : Bool) (n : ℕ) (xs : List ℕ) → b ≡ false → xs ≡ [] → cond b (n ∷ xs) xs ≡ []
left_out true n xs is e = absurd (let none : ⊥ = cc in none)
left_out false n xs is e = e

none_left : (t : ℕ) (ns : List ℕ) → ((i : ℕ) → i < length ns → t < get_or ns i 0) → filter (up_to t) ns ≡ []
none_left t [] h = refl
none_left t (n ∷ ns) h = left_out (up_to t n) n (filter (up_to t) ns) (lt-leb n t (h 0 (omega arith))) (none_left t ns (λ i l. h (suc i) (omega arith)))

front_kept : (t count : ℕ) (ns : List ℕ) → ((i : ℕ) → i < count → i < length ns → get_or ns i 0 ≤ t)
    → ((i : ℕ) → count ≤ i → i < length ns → t < get_or ns i 0)
    → filter (up_to t) ns ≡ take count ns
front_kept t zero ns low high = none_left t ns (λ i l. high i (omega arith) l)
front_kept t (suc count) [] low high = refl
front_kept t (suc count) (n ∷ ns) low high =
    kept_on (up_to t n) n (filter (up_to t) ns) (take count ns) (le-leb n t (low 0 (omega arith) (omega arith)))
    (front_kept t count ns (λ i a b. low (suc i) (omega arith) (omega arith)) (λ i a b. high (suc i) (omega arith) (omega arith)))

rises : (ns : List ℕ) → IsStrictlyIncreasing ns → (i j : ℕ) → i < j → j < length ns → get_or ns i 0 < get_or ns j 0
rises ns up i j below within = below_from_sorted ns i j 0 (sorted_from_strictly_increasing ns up) below within

-- the segments that were counted are those up to the transaction
numbers_of : (files : Files) (numbers : List ℕ) (count : ℕ) → 0 < count → count ≤ length numbers → IsStrictlyIncreasing numbers
    → numbers ≡ segment_numbers files
    → numbers_up_to files (get_or numbers (count - 1) 0) ≡ take count numbers
numbers_of files numbers count some within up is =
    let t = get_or numbers (count - 1) 0 in
    ap (filter (up_to t)) (sym is)
    ∙ front_kept t count numbers
    (λ i a b. elim (cases_eq i (count - 1)) [
      | inl e ↦ (let same : get_or numbers i 0 ≡ t = ap (λ k. get_or numbers k 0) e in omega arith)
      | inr n ↦
          (let less = rises numbers up i (count - 1) (omega arith) (omega arith) in omega arith)
    ])
    (λ i a b. rises numbers up (count - 1) i (omega arith) b)

front_rises : (numbers : List ℕ) (count : ℕ) → IsStrictlyIncreasing numbers → IsStrictlyIncreasing (take count numbers)
front_rises numbers count up = λ k within.
    let n = length-take count numbers in
    let a = get_or-take count numbers k 0 (omega arith) in
    let b = get_or-take count numbers (k + 1) 0 (omega arith) in
    omega (arith, up k (omega arith))

-- what was taken is the state of the files' log
pub state_of : (files : Files) (numbers : List ℕ) (count : ℕ) (pairs : Pairs) (extents after : List Extent) (learnt : Places) → 0 < count
    → count ≤ length numbers
    → IsStrictlyIncreasing numbers → numbers ≡ segment_numbers files → EndsAt files numbers count → HasTaken files (take count numbers) pairs extents
    → after ≡ map (counted_live pairs) extents → IsStrictlySortedBy key_cmp (map (λ e. e.0) pairs) → learnt ≡ empty
    → IsStateOf files (record { transaction = get_or numbers (count - 1) 0; opened = from_entries {R = key_cmp} pairs; extents = after; learnt = learnt })
state_of files numbers count pairs extents after learnt some within up is end h counted ordered none =
    let t = transaction_of files numbers count some within is end in
    let ns = numbers_of files numbers count some within up is in
    let sorted = sorted_from_strictly_increasing (take count numbers) (front_rises numbers count up) in
    let bound : (s : ℕ) → sum_in s pairs ≤ length (segment_bytes files s) =
    λ s. omega (arith, h.bound s, joins_bound files (take count numbers) h.log s sorted h.joined) in
    record {
      log = h.log;
      is = record { is = t; joined = subst (λ k. Joins files k h.log) (sym ns) h.joined };
      places = record {
        live = λ key. get-from_entries nat_list_cmp_total pairs key ∙ h.places key;
        extents_are =
            counted ∙ (ap (map (counted_live pairs)) h.lengths
            ∙ (all_counted files (take count numbers) pairs ordered bound h.small ∙ ap (extents_of files (from_entries {R = key_cmp} pairs)) (sym ns)));
      };
      learnt = none;
    }

-- why nothing was taken
pub damaged_of : (files : Files) (numbers : List ℕ) (count : ℕ) (fault : LogFault) → 0 < count → count ≤ length numbers → IsStrictlyIncreasing numbers
    → numbers ≡ segment_numbers files → EndsAt files numbers count → IsStopped files (take count numbers) fault → IsRefused files fault
damaged_of files numbers count NoCommit some within up is end h = absurd h
damaged_of files numbers count (Damaged segment at) some within up is end h = record {
  transaction = get_or numbers (count - 1) 0;
  is = transaction_of files numbers count some within is end;
  before = h.0;
  after = h.1;
  numbers = numbers_of files numbers count some within up is ∙ h.2;
  good = h.3;
  breaks = h.4;
}
damaged_of files numbers count Device some within up is end h = tt
damaged_of files numbers count Memory some within up is end h = tt

pub uncommitted_of : (files : Files) (numbers : List ℕ) (fault : LogFault) → numbers ≡ segment_numbers files → HasNoEnd files numbers fault
    → IsRefused files fault
uncommitted_of files numbers NoCommit is h = subst (AllByRecursion (IsOpen files)) is h
uncommitted_of files numbers (Damaged segment at) is h = absurd h
uncommitted_of files numbers Device is h = tt
uncommitted_of files numbers Memory is h = tt
