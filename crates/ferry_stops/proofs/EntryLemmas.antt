-- Lemmas on specs/Entries.antt: what files show is what the log reads of them, and one thing.
use Rattle.std.proofs.Common.{◌≡◌, ◌⊎◌, inl, inr, ℕ, zero, suc, ◌+◌, ◌<◌, ◌≤◌, Bool, true, false, List, [], ◌∷◌, ◌++◌, map, filter, nat_lt, nat_le}
use Rattle.std.proofs.Common.{is_some, Option}
use Rattle.std.proofs.Common.{Some, None, unwrap_or, refl, sym, ◌∙◌, ap, subst, arith}
use Rattle.std.specs.FinMap.{get, contains_key-keys}
use Rattle.std.specs.List.{AllByRecursion}
use Rattle.std.proofs.lemmas.Bool.{cases_lt, le-leb, lt-leb, lt-ltb, le-ltb}
use Rattle.std.proofs.lemmas.List.{append-nil, append_assoc}
use Rattle.ferry_disk.specs.Files.{Files, segment_bytes, segment_numbers}
use Rattle.ferry_segment.specs.Entry.{LogEntry, size_of}
use Rattle.ferry_segment.specs.Segment.{Splits, Committed}
use Rattle.ferry_segment.proofs.SegmentLemmas.{one_split}
use Rattle.ferry_log.specs.Log.{Located, located, IsTransaction, numbers_up_to, IsUncommitted, Joins, IsLog}
use Rattle.ferry_log.specs.Log as Log
use Rattle.ferry_stops.specs.Entries.{SegmentHas, HaveBelow, IsOpen, OpenFrom, EndsAt, Shows, ShowsAt}
use Rattle.ferry_stops.proofs.NumberLemmas.{all_of, there_all, Rising, keys_rising, below, alone, below_suc, below_none}
use Rattle.ferry_stops.proofs.NumberLemmas.{rising_front, rising_back, split_there}

-- ---- segments that aren't committed

none_committed : Committed [] → ⊥
none_committed c = let e = c.split.whole in let no : ⊥ = cc in no

open_bytes : (file : Option (List ℕ)) → IsOpen file → Committed (unwrap_or file []) → ⊥
open_bytes None h c = none_committed c
open_bytes (Some bytes) h c = h c

bytes_open : (file : Option (List ℕ)) → (Committed (unwrap_or file []) → ⊥) → IsOpen file
bytes_open None h = tt
bytes_open (Some bytes) h = h

-- what is open among the numbers that are there is open everywhere
open_by : (files : Files) (n : ℕ) (file : Option (List ℕ)) → get files.segments n ≡ file → AllByRecursion (Log.IsOpen files) (segment_numbers files)
    → IsOpen (get files.segments n)
open_by files n None e all = subst IsOpen (sym e) tt
open_by files n (Some bytes) e all = bytes_open (get files.segments n) (there_all (Log.IsOpen files) files.segments n all (ap is_some e))

pub uncommitted_shown : (files : Files) → IsUncommitted files → ShowsAt files 0 None
uncommitted_shown files all = record { below = refl; open_above = λ n above. open_by files n (get files.segments n) refl all }

pub unshown_uncommitted : (files : Files) → Shows files None → IsUncommitted files
unshown_uncommitted files shown =
    all_of (Log.IsOpen files) (λ n. open_bytes (get files.segments n) (shown.1.open_above n (omega (arith, shown.1.below)))) (segment_numbers files)

-- ---- one thing is shown

has_one : (file : Option (List ℕ)) (es fs : List LogEntry) → SegmentHas file es → SegmentHas file fs → es ≡ fs
has_one None es fs a b = a ∙ sym b
has_one (Some bytes) es fs a b = one_split bytes es fs a b

have_one : (files : Files) (n : ℕ) (es fs : List LogEntry) → HaveBelow files n es → HaveBelow files n fs → es ≡ fs
unfolding HaveBelow
have_one files zero es fs a b = a ∙ sym b
have_one files (suc n) es fs a b =
    a.4
    ∙ (ap (λ (l : List LogEntry). l ++ a.1) (have_one files n a.0 b.0 a.2 b.2)
    ∙ (ap (λ (l : List LogEntry). b.0 ++ l) (has_one (get files.segments n) a.1 b.1 a.3 b.3) ∙ sym b.4))

-- no end stands behind another
ends_apart : (files : Files) (end other : ℕ) (entries : List LogEntry) → OpenFrom files end → EndsAt files other entries → end < other → ⊥
ends_apart files end other entries is_open ends lt =
    subst IsOpen ends.there (is_open ends.last (omega (arith, ends.end_is, lt))) ends.committed

one_by : (files : Files) (end other : ℕ) (a b : Option (List LogEntry)) → ShowsAt files end a → ShowsAt files other b → a ≡ b
one_by files end other None None s t = refl
one_by files end other None (Some fs) s t = absurd (ends_apart files end other fs s.open_above t.below (omega (arith, s.below, t.below.end_is)))
one_by files end other (Some es) None s t = absurd (ends_apart files other end es t.open_above s.below (omega (arith, t.below, s.below.end_is)))
one_by files end other (Some es) (Some fs) s t = elim (cases_lt end other) [
  | inl lt ↦ absurd (ends_apart files end other fs s.open_above t.below lt)
  | inr le ↦ elim (cases_lt other end) [
    | inl lt ↦ absurd (ends_apart files other end es t.open_above s.below lt)
    | inr ge ↦
        let same : other ≡ end = omega (arith, le, ge) in
        ap Some (have_one files end es fs s.below.entries_are (subst (λ (n : ℕ). HaveBelow files n fs) same t.below.entries_are))
  ]
]

pub one_shown : (files : Files) (a b : Option (List LogEntry)) → Shows files a → Shows files b → a ≡ b
one_shown files a b s t = one_by files s.0 t.0 a b s.1 t.1

-- ---- entries by numbers and by the log

entries-append : (xs ys : List Located) → map (λ (e : Located). e.entry) (xs ++ ys) ≡ map (λ (e : Located). e.entry) xs ++ map (λ (e : Located). e.entry) ys
entries-append [] ys = refl
entries-append (x ∷ xs) ys = ap (λ (l : List LogEntry). x.entry ∷ l) (entries-append xs ys)

entries-located : (n at : ℕ) (es : List LogEntry) → map (λ (e : Located). e.entry) (located n at es) ≡ es
entries-located n at [] = refl
entries-located n at (e ∷ es) = ap (λ (l : List LogEntry). e ∷ l) (entries-located n (at + size_of e) es)

-- the log of segments one after another, in two parts
joins_parts : (files : Files) (xs ys : List ℕ) (log : List Located) → Joins files (xs ++ ys) log
    → (front : List Located) × (back : List Located) × Joins files xs front × Joins files ys back × (log ≡ front ++ back)
joins_parts files [] ys log j = ([], log, refl, j, refl)
joins_parts files (x ∷ xs) ys log j =
    let rest = joins_parts files xs ys j.1 j.3 in (
      located x 8 j.0 ++ rest.0,
      rest.1,
      (j.0, rest.0, j.2, rest.2, refl),
      rest.3,
      j.4 ∙ (ap (λ (l : List Located). located x 8 j.0 ++ l) rest.4 ∙ sym (append_assoc (located x 8 j.0) rest.0 rest.1)),
    )

joins_both : (files : Files) (xs ys : List ℕ) (front back : List Located) → Joins files xs front → Joins files ys back → Joins files (xs ++ ys) (front ++ back)
joins_both files [] ys front back j k = subst (λ (l : List Located). Joins files ys (l ++ back)) (sym j) k
joins_both files (x ∷ xs) ys front back j k = (
  j.0,
  j.1 ++ back,
  j.2,
  joins_both files xs ys j.1 back j.3 k,
  ap (λ (l : List Located). l ++ back) j.4 ∙ append_assoc (located x 8 j.0) j.1 back,
)

-- the segment of a number alone, there or not
alone_has : (files : Files) (n : ℕ) (file : Option (List ℕ)) → get files.segments n ≡ file → (back : List Located)
    → Joins files (alone n (is_some file)) back → SegmentHas file (map (λ (e : Located). e.entry) back)
alone_has files n None e back j = ap (map (λ (e : Located). e.entry)) j
alone_has files n (Some bytes) e back j =
    let whole : back ≡ located n 8 j.0 = j.4 ∙ (ap (λ (l : List Located). located n 8 j.0 ++ l) j.3 ∙ append-nil (located n 8 j.0)) in
    let entries_are : map (λ (e : Located). e.entry) back ≡ j.0 = ap (map (λ (e : Located). e.entry)) whole ∙ entries-located n 8 j.0 in
    let split : Splits bytes j.0 = subst (λ (o : Option (List ℕ)). Splits (unwrap_or o []) j.0) e j.2 in
    subst (λ (es : List LogEntry). Splits bytes es) (sym entries_are) split

has_alone : (files : Files) (n : ℕ) (file : Option (List ℕ)) → get files.segments n ≡ file → (last : List LogEntry) → SegmentHas file last
    → (back : List Located) × Joins files (alone n (is_some file)) back × (map (λ (e : Located). e.entry) back ≡ last)
has_alone files n None e last has = ([], refl, sym has)
has_alone files n (Some bytes) e last has = (
  located n 8 last,
  (last, [], subst (λ (o : Option (List ℕ)). Splits (unwrap_or o []) last) (sym e) has, refl, sym (append-nil (located n 8 last))),
  entries-located n 8 last,
)

-- the numbers below one more, by whether it is there
numbers_suc : (files : Files) (n : ℕ)
    → below (suc n) (segment_numbers files) ≡ below n (segment_numbers files) ++ alone n (is_some (get files.segments n))
numbers_suc files n =
    below_suc n (segment_numbers files) (keys_rising files.segments)
    ∙ ap (λ (b : Bool). below n (segment_numbers files) ++ alone n b) (sym (contains_key-keys files.segments n))

joins_below : (files : Files) (n : ℕ) (log : List Located) → Joins files (below n (segment_numbers files)) log
    → HaveBelow files n (map (λ (e : Located). e.entry) log)
unfolding HaveBelow
joins_below files zero log j =
    ap (map (λ (e : Located). e.entry)) (subst (λ (ns : List ℕ). Joins files ns log) (below_none (segment_numbers files)) j)
joins_below files (suc n) log j =
    let parts = joins_parts files (below n (segment_numbers files)) (alone n (is_some (get files.segments n))) log
    (subst (λ (ns : List ℕ). Joins files ns log) (numbers_suc files n) j) in (
      map (λ (e : Located). e.entry) parts.0,
      map (λ (e : Located). e.entry) parts.1,
      joins_below files n parts.0 parts.2,
      alone_has files n (get files.segments n) refl parts.1 parts.3,
      ap (map (λ (e : Located). e.entry)) parts.4 ∙ entries-append parts.0 parts.1,
    )

below_joins : (files : Files) (n : ℕ) (entries : List LogEntry) → HaveBelow files n entries
    → (log : List Located) × Joins files (below n (segment_numbers files)) log × (map (λ (e : Located). e.entry) log ≡ entries)
unfolding HaveBelow
below_joins files zero entries h =
    ([], subst (λ (ns : List ℕ). Joins files ns []) (sym (below_none (segment_numbers files))) refl, sym h)
below_joins files (suc n) entries h =
    let front = below_joins files n h.0 h.2 in
    let back = has_alone files n (get files.segments n) refl h.1 h.3 in (
      front.0 ++ back.0,
      subst (λ (ns : List ℕ). Joins files ns (front.0 ++ back.0)) (sym (numbers_suc files n))
          (joins_both files (below n (segment_numbers files)) (alone n (is_some (get files.segments n))) front.0 back.0 front.1 back.1),
      entries-append front.0 back.0
          ∙ (ap (λ (l : List LogEntry). l ++ map (λ (e : Located). e.entry) back.0) front.2 ∙ (ap (λ (l : List LogEntry). h.0 ++ l) back.2 ∙ sym h.4)),
    )

-- the numbers up to a transaction are those below the next one
up_to_by : (t k : ℕ) (ks : List ℕ) → filter (λ n. nat_le n t) ks ≡ below (suc t) ks → (k < suc t) ⊎ (suc t ≤ k)
    → filter (λ n. nat_le n t) (k ∷ ks) ≡ below (suc t) (k ∷ ks)
up_to_by t k ks rest (inl lt) =
    let first : nat_le k t ≡ true = le-leb k t (omega (arith, lt)) in
    let second : nat_lt k (suc t) ≡ true = lt-ltb k (suc t) lt in
    rw (first, second) (ap (λ (l : List ℕ). k ∷ l) rest)
up_to_by t k ks rest (inr le) =
    let first : nat_le k t ≡ false = lt-leb k t (omega (arith, le)) in
    let second : nat_lt k (suc t) ≡ false = le-ltb k (suc t) le in
    rw (first, second) rest

up_to_below : (t : ℕ) (ks : List ℕ) → filter (λ n. nat_le n t) ks ≡ below (suc t) ks
up_to_below t [] = refl
up_to_below t (k ∷ ks) = up_to_by t k ks (up_to_below t ks) (cases_lt k (suc t))

-- ---- a transaction

committed_there : (files : Files) (t : ℕ) (file : Option (List ℕ)) → get files.segments t ≡ file → Committed (segment_bytes files t)
    → get files.segments t ≡ Some (segment_bytes files t)
committed_there files t None e c = absurd (none_committed (subst (λ (o : Option (List ℕ)). Committed (unwrap_or o [])) e c))
committed_there files t (Some bytes) e c = e ∙ ap (λ (o : Option (List ℕ)). Some (unwrap_or o [])) (sym e)

open_all : (files : Files) (t : ℕ) (xs ys : List ℕ) → AllByRecursion (λ k. k < t) xs → AllByRecursion (Log.IsOpen files) ys
    → AllByRecursion (λ n. t < n → Committed (segment_bytes files n) → ⊥) (xs ++ (t ∷ ys))
open_all files t [] ys front back = (λ lt c. omega (arith, lt), open_behind ys back) where
  open_behind : (ys : List ℕ) → AllByRecursion (Log.IsOpen files) ys → AllByRecursion (λ n. t < n → Committed (segment_bytes files n) → ⊥) ys
  open_behind [] back = tt
  open_behind (y ∷ ys) back = (λ lt c. back.0 c, open_behind ys back.1)
open_all files t (x ∷ xs) ys front back = (λ lt c. omega (arith, lt, front.0), open_all files t xs ys front.1 back)

open_from : (files : Files) (t n : ℕ) (file : Option (List ℕ)) → get files.segments n ≡ file → t < n
    → AllByRecursion (λ n. t < n → Committed (segment_bytes files n) → ⊥) (segment_numbers files) → IsOpen (get files.segments n)
open_from files t n None e lt all = subst IsOpen (sym e) tt
open_from files t n (Some bytes) e lt all =
    bytes_open (get files.segments n) (there_all (λ n. t < n → Committed (segment_bytes files n) → ⊥) files.segments n all (ap is_some e) lt)

pub log_shown : (files : Files) (t : ℕ) (log : List Located) → IsLog files t log → ShowsAt files (suc t) (Some (map (λ (e : Located). e.entry) log))
log_shown files t log h =
    let numbers : segment_numbers files ≡ h.is.below ++ (t ∷ h.is.above) = h.is.numbers in
    let rising : Rising (h.is.below ++ (t ∷ h.is.above)) = subst Rising numbers (keys_rising files.segments) in
    let all : AllByRecursion (λ n. t < n → Committed (segment_bytes files n) → ⊥) (segment_numbers files) =
    subst (AllByRecursion (λ n. t < n → Committed (segment_bytes files n) → ⊥)) (sym numbers)
    (open_all files t h.is.below h.is.above (rising_front h.is.below t h.is.above rising) h.is.open_above) in
    record {
      below = record {
        last = t;
        end_is = refl;
        bytes = segment_bytes files t;
        there = committed_there files t (get files.segments t) refl h.is.committed;
        committed = h.is.committed;
        entries_are = joins_below files (suc t) log (subst (λ (ns : List ℕ). Joins files ns log) (up_to_below t (segment_numbers files)) h.joined);
      };
      open_above = λ n above. open_from files t n (get files.segments n) refl (omega (arith, above)) all;
    }

open_each : (files : Files) (t : ℕ) → OpenFrom files (suc t) → (ys : List ℕ) → AllByRecursion (λ k. t < k) ys → AllByRecursion (Log.IsOpen files) ys
open_each files t is_open [] above = tt
open_each files t is_open (y ∷ ys) above =
    (open_bytes (get files.segments y) (is_open y (omega (arith, above.0))), open_each files t is_open ys above.1)

pub shown_log : (files : Files) (end : ℕ) (entries : List LogEntry) → ShowsAt files end (Some entries)
    → (t : ℕ) × (log : List Located) × (end ≡ suc t) × IsLog files t log × (map (λ (e : Located). e.entry) log ≡ entries)
shown_log files end entries shown =
    let ends = shown.below in
    let t = ends.last in
    let parts = split_there t (segment_numbers files) (sym (contains_key-keys files.segments t) ∙ ap is_some ends.there) in
    let rising : Rising (parts.0 ++ (t ∷ parts.1)) = subst Rising parts.2 (keys_rising files.segments) in
    let log = below_joins files end entries ends.entries_are in
    let bytes_are : segment_bytes files t ≡ ends.bytes = ap (λ (o : Option (List ℕ)). unwrap_or o []) ends.there in
    let is_open : OpenFrom files (suc t) = subst (OpenFrom files) ends.end_is shown.open_above in (
      t,
      log.0,
      ends.end_is,
      record {
        is = record {
          below = parts.0;
          above = parts.1;
          numbers = parts.2;
          committed = subst Committed (sym bytes_are) ends.committed;
          open_above = open_each files t is_open parts.1 (rising_back parts.0 t parts.1 rising);
        };
        joined = subst (λ (ns : List ℕ). Joins files ns log.0)
            (ap (λ (n : ℕ). below n (segment_numbers files)) ends.end_is ∙ sym (up_to_below t (segment_numbers files))) log.1;
      },
      log.2,
    )
