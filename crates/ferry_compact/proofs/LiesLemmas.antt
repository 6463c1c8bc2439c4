-- Lemmas on the entries of the segments below a number, each with its place.
use Rattle.std.proofs.Common.{◌≡◌, ◌⊎◌, inl, inr, ℕ, zero, suc, ◌+◌, ◌<◌, ◌≤◌, Bool, true, false, not, if◌then◌else◌, List, []}
use Rattle.std.proofs.Common.{◌∷◌, ◌++◌, map, filter, nat_eq, nat_lt}
use Rattle.std.proofs.Common.{nat_le, is_some, Option, Some, None, unwrap_or, refl, sym, ◌∙◌, ap, subst, arith}
use Rattle.std.proofs.lemmas.Bool.{cases_lt, le-leb, lt-leb, lt-ltb, le-ltb}
use Rattle.std.proofs.lemmas.List.{append-nil, append_assoc}
use Rattle.std.proofs.lemmas.List.Elements.{filter-append}
use Rattle.std.specs.FinMap.{contains_key-keys, get}
use Rattle.std.specs.List.{AllByRecursion}
use Rattle.ferry_compact.proofs.ListLemmas.{all-append, all_map, filter_all, filter_none, map-append}
use Rattle.ferry_compact.proofs.LastLemmas.{Before, Ordered}
use Rattle.ferry_disk.proofs.ImageLemmas.{get-cut}
use Rattle.ferry_disk.specs.Files.{Files, segment_numbers, without_segment}
use Rattle.ferry_log.specs.Log.{IsLog, Joins, Located, located}
use Rattle.ferry_segment.proofs.EntryLemmas.{size_of-least}
use Rattle.ferry_segment.proofs.SegmentLemmas.{one_split}
use Rattle.ferry_segment.specs.Entry.{LogEntry, size_of}
use Rattle.ferry_segment.specs.Segment.{Splits}
use Rattle.ferry_stops.proofs.NumberLemmas.{alone, below, below_none, below_suc, keys_rising}
use Rattle.ferry_stops.specs.Entries.{HaveBelow, SegmentHas}
use Rattle.ferry_write.proofs.StandLemmas.{either_number, off_number, own_number}

-- The segments below a number have these entries, each at its place, joined by increasing number.
unfoldable pub LiesBelow : Files → ℕ → List Located → Type 0
LiesBelow files zero log = log ≡ []
LiesBelow files (suc n) log =
    (front : List Located) × (es : List LogEntry) × LiesBelow files n front × SegmentHas (get files.segments n) es × (log ≡ front ++ located n 8 es)

abbrev pub entries_in : List Located → List LogEntry
entries_in log = map (λ e. e.entry) log

-- ---- places

entries_located : (segment at : ℕ) (es : List LogEntry) → entries_in (located segment at es) ≡ es
entries_located segment at [] = refl
entries_located segment at (e ∷ es) = ap (λ (l : List LogEntry). e ∷ l) (entries_located segment (at + size_of e) es)

all_located : (P : ℕ → Type 0) (segment at : ℕ) (es : List LogEntry) → P segment → AllByRecursion (λ (e : Located). P e.segment) (located segment at es)
all_located P segment at [] p = tt
all_located P segment at (e ∷ es) p = (p, all_located P segment (at + size_of e) es p)

-- ---- the same without places

pub lies_have : (files : Files) (n : ℕ) (log : List Located) → LiesBelow files n log → HaveBelow files n (entries_in log)
unfolding LiesBelow HaveBelow
lies_have files zero log lies = ap entries_in lies
lies_have files (suc n) log lies = (
  entries_in lies.0,
  lies.1,
  lies_have files n lies.0 lies.2,
  lies.3,
  ap entries_in lies.4
      ∙ (map-append (λ (e : Located). e.entry) lies.0 (located n 8 lies.1)
      ∙ ap (λ (l : List LogEntry). entries_in lies.0 ++ l) (entries_located n 8 lies.1)),
)

pub have_lies : (files : Files) (n : ℕ) (entries : List LogEntry) → HaveBelow files n entries
    → (log : List Located) × LiesBelow files n log × (entries_in log ≡ entries)
unfolding LiesBelow HaveBelow
have_lies files zero entries have = ([], refl, sym have)
have_lies files (suc n) entries have =
    let front = have_lies files n have.0 have.2 in (
      front.0 ++ located n 8 have.1,
      (front.0, have.1, front.1, have.3, refl),
      map-append (λ (e : Located). e.entry) front.0 (located n 8 have.1)
          ∙ (ap (λ (l : List LogEntry). l ++ entries_in (located n 8 have.1)) front.2
          ∙ (ap (λ (l : List LogEntry). have.0 ++ l) (entries_located n 8 have.1) ∙ sym have.4)),
    )

-- ---- one thing lies there

has_one : (file : Option (List ℕ)) (es fs : List LogEntry) → SegmentHas file es → SegmentHas file fs → es ≡ fs
has_one None es fs a b = a ∙ sym b
has_one (Some bytes) es fs a b = one_split bytes es fs a b

pub lies_one : (files : Files) (n : ℕ) (a b : List Located) → LiesBelow files n a → LiesBelow files n b → a ≡ b
unfolding LiesBelow
lies_one files zero a b p q = p ∙ sym q
lies_one files (suc n) a b p q =
    p.4
    ∙ (ap (λ (l : List Located). l ++ located n 8 p.1) (lies_one files n p.0 q.0 p.2 q.2)
    ∙ (ap (λ (es : List LogEntry). q.0 ++ located n 8 es) (has_one (get files.segments n) p.1 q.1 p.3 q.3) ∙ sym q.4))

pub lies_same : (files others : Files) (n : ℕ) (log : List Located) → ((m : ℕ) → m < n → get files.segments m ≡ get others.segments m)
    → LiesBelow files n log → LiesBelow others n log
unfolding LiesBelow
lies_same files others zero log same lies = lies
lies_same files others (suc n) log same lies = (
  lies.0,
  lies.1,
  lies_same files others n lies.0 (λ m lt. same m (omega (arith, lt))) lies.2,
  subst (λ (file : Option (List ℕ)). SegmentHas file lies.1) (same n (omega arith)) lies.3,
  lies.4,
)

-- ---- where they lie

pub lies_below : (files : Files) (n : ℕ) (log : List Located) → LiesBelow files n log → AllByRecursion (λ e. e.segment < n) log
unfolding LiesBelow
lies_below files zero log lies = subst (AllByRecursion (λ (e : Located). e.segment < 0)) (sym lies) tt
lies_below files (suc n) log lies =
    subst (AllByRecursion (λ (e : Located). e.segment < suc n)) (sym lies.4)
    (all-append (λ (e : Located). e.segment < suc n) lies.0 (located n 8 lies.1)
    (all_map (λ (e : Located). e.segment < n) (λ (e : Located). e.segment < suc n) (λ e lt. omega (arith, lt)) lies.0 (lies_below files n lies.0 lies.2))
    (all_located (λ k. k < suc n) n 8 lies.1 (omega arith)))

-- the entries of a segment from a place on lie behind that place
located_from : (segment at least : ℕ) (es : List LogEntry) → least < at
    → AllByRecursion (λ (e : Located). (segment ≡ e.segment) × (least < e.at)) (located segment at es)
located_from segment at least [] lt = tt
located_from segment at least (e ∷ es) lt =
    ((refl, lt), located_from segment (at + size_of e) least es (omega (arith, lt)))

located_ordered : (segment at : ℕ) (es : List LogEntry) → Ordered (located segment at es)
located_ordered segment at [] = tt
located_ordered segment at (e ∷ es) =
    let size = size_of-least e in (
      all_map (λ (f : Located). (segment ≡ f.segment) × (at < f.at)) (Before (record { segment = segment; at = at; entry = e })) (λ f behind. inr behind)
          (located segment (at + size_of e) es) (located_from segment (at + size_of e) at es (omega (arith, size))),
      located_ordered segment (at + size_of e) es,
    )

ordered-append : (xs ys : List Located) → Ordered xs → Ordered ys → AllByRecursion (λ x. AllByRecursion (Before x) ys) xs → Ordered (xs ++ ys)
ordered-append [] ys p q all = q
ordered-append (x ∷ xs) ys p q all = (all-append (Before x) xs ys p.0 all.0, ordered-append xs ys p.1 q all.1)

-- they lie in order
pub lies_ordered : (files : Files) (n : ℕ) (log : List Located) → LiesBelow files n log → Ordered log
unfolding LiesBelow
lies_ordered files zero log lies = subst Ordered (sym lies) tt
lies_ordered files (suc n) log lies =
    subst Ordered (sym lies.4)
    (ordered-append lies.0 (located n 8 lies.1) (lies_ordered files n lies.0 lies.2) (located_ordered n 8 lies.1)
    (all_map (λ (e : Located). e.segment < n) (λ (e : Located). AllByRecursion (Before e) (located n 8 lies.1))
    (λ e lt. all_map (λ (f : Located). e.segment < f.segment) (Before e) (λ f less. inl less) (located n 8 lies.1)
    (all_located (λ k. e.segment < k) n 8 lies.1 lt)) lies.0 (lies_below files n lies.0 lies.2)))

split_here : (files : Files) (k n : ℕ) (log : List Located) → LiesBelow files n log → k ≡ n
    → (front : List Located) × (back : List Located) × LiesBelow files k front × (log ≡ front ++ back) × AllByRecursion (λ e. k ≤ e.segment) back
split_here files k n log lies same = (log, [], subst (λ (m : ℕ). LiesBelow files m log) (sym same) lies, sym (append-nil log), tt)

-- those below a lower number, and the others
pub lies_split : (files : Files) (k n : ℕ) (log : List Located) → k ≤ n → LiesBelow files n log
    → (front : List Located) × (back : List Located) × LiesBelow files k front × (log ≡ front ++ back) × AllByRecursion (λ e. k ≤ e.segment) back
unfolding LiesBelow
lies_split files k zero log le lies = split_here files k zero log lies (omega (arith, le))
lies_split files k (suc n) log le lies = elim (cases_lt k (suc n)) [
  | inr ge ↦ split_here files k (suc n) log lies (omega (arith, le, ge))
  | inl lt ↦
      let rest = lies_split files k n lies.0 (omega (arith, lt)) lies.2 in
      let own = located n 8 lies.1 in (
        rest.0,
        rest.1 ++ own,
        rest.2,
        lies.4 ∙ (ap (λ (l : List Located). l ++ own) rest.3 ∙ append_assoc rest.0 rest.1 own),
        all-append (λ (e : Located). k ≤ e.segment) rest.1 own rest.4 (all_located (λ m. k ≤ m) n 8 lies.1 (omega (arith, lt))),
      )
]

-- ---- a segment that is removed

other_kept : (files : Files) (m n : ℕ) → (n ≡ m → ⊥) → get (without_segment files m).segments n ≡ get files.segments n
other_kept files m n off =
    get-cut files.segments m n ∙ ap (λ (b : Bool). if b then None else get files.segments n) (off_number n m off)

own_gone : (files : Files) (m : ℕ) → get (without_segment files m).segments m ≡ None
own_gone files m = get-cut files.segments m m ∙ ap (λ (b : Bool). if b then None else get files.segments m) (own_number m)

abbrev pub not_in : ℕ → List Located → List Located
not_in m log = filter (λ e. not (nat_eq e.segment m)) log

pub lies_without : (files : Files) (m n : ℕ) (log : List Located) → LiesBelow files n log → LiesBelow (without_segment files m) n (not_in m log)
unfolding LiesBelow
lies_without files m zero log lies = ap (not_in m) lies
lies_without files m (suc n) log lies =
    let front = lies_without files m n lies.0 lies.2 in
    let parts : not_in m log ≡ not_in m lies.0 ++ not_in m (located n 8 lies.1) =
    ap (not_in m) lies.4 ∙ filter-append (λ (e : Located). not (nat_eq e.segment m)) lies.0 (located n 8 lies.1) in
    elim (either_number n m) [
      | inl same ↦
          let none : not_in m (located n 8 lies.1) ≡ [] =
          filter_none (λ (e : Located). not (nat_eq e.segment m)) (located n 8 lies.1)
          (all_located (λ k. not (nat_eq k m) ≡ false) n 8 lies.1
          (subst (λ (k : ℕ). not (nat_eq k m) ≡ false) (sym same) (ap not (own_number m)))) in (
            not_in m lies.0,
            [],
            front,
            subst (λ (file : Option (List ℕ)). SegmentHas file [])
                (sym (ap (λ (k : ℕ). get (without_segment files m).segments k) same ∙ own_gone files m)) refl,
            parts ∙ ap (λ (l : List Located). not_in m lies.0 ++ l) none,
          )
      | inr off ↦
          let all : not_in m (located n 8 lies.1) ≡ located n 8 lies.1 =
          filter_all (λ (e : Located). not (nat_eq e.segment m)) (located n 8 lies.1)
          (all_located (λ k. not (nat_eq k m) ≡ true) n 8 lies.1 (ap not (off_number n m off))) in (
            not_in m lies.0,
            lies.1,
            front,
            subst (λ (file : Option (List ℕ)). SegmentHas file lies.1) (sym (other_kept files m n off)) lies.3,
            parts ∙ ap (λ (l : List Located). not_in m lies.0 ++ l) all,
          )
    ]

-- ---- the log

joins_parts : (files : Files) (xs ys : List ℕ) (log : List Located) → Joins files (xs ++ ys) log
    → (front : List Located) × (back : List Located) × Joins files xs front × Joins files ys back × (log ≡ front ++ back)
joins_parts files [] ys log j = ([], log, refl, j, refl)
joins_parts files (x ∷ xs) ys log j =
    let rest = joins_parts files xs ys j.1 j.3 in (
      located x 8 j.0 ++ rest.0,
      rest.1,
      (j.0, rest.0, j.2, rest.2, refl),
      rest.3,
      j.4 ∙ (ap (λ (l : List Located). located x 8 j.0 ++ l) rest.4 ∙ sym (append_assoc (located x 8 j.0) rest.0 rest.1)),
    )

-- the segment of a number alone, there or not
alone_lies : (files : Files) (n : ℕ) (file : Option (List ℕ)) → get files.segments n ≡ file → (back : List Located)
    → Joins files (alone n (is_some file)) back → (es : List LogEntry) × SegmentHas file es × (back ≡ located n 8 es)
alone_lies files n None e back j = ([], refl, j)
alone_lies files n (Some bytes) e back j = (
  j.0,
  subst (λ (o : Option (List ℕ)). Splits (unwrap_or o []) j.0) e j.2,
  j.4 ∙ (ap (λ (l : List Located). located n 8 j.0 ++ l) j.3 ∙ append-nil (located n 8 j.0)),
)

-- the numbers below one more, by whether it is there
numbers_suc : (files : Files) (n : ℕ)
    → below (suc n) (segment_numbers files) ≡ below n (segment_numbers files) ++ alone n (is_some (get files.segments n))
numbers_suc files n =
    below_suc n (segment_numbers files) (keys_rising files.segments)
    ∙ ap (λ (b : Bool). below n (segment_numbers files) ++ alone n b) (sym (contains_key-keys files.segments n))

joins_lies : (files : Files) (n : ℕ) (log : List Located) → Joins files (below n (segment_numbers files)) log → LiesBelow files n log
unfolding LiesBelow
joins_lies files zero log j = subst (λ (ns : List ℕ). Joins files ns log) (below_none (segment_numbers files)) j
joins_lies files (suc n) log j =
    let parts = joins_parts files (below n (segment_numbers files)) (alone n (is_some (get files.segments n))) log
    (subst (λ (ns : List ℕ). Joins files ns log) (numbers_suc files n) j) in
    let last = alone_lies files n (get files.segments n) refl parts.1 parts.3 in
    (parts.0, last.0, joins_lies files n parts.0 parts.2, last.1, parts.4 ∙ ap (λ (l : List Located). parts.0 ++ l) last.2)

-- the numbers up to a transaction are those below the next one
up_to_by : (t k : ℕ) (ks : List ℕ) → filter (λ n. nat_le n t) ks ≡ below (suc t) ks → (k < suc t) ⊎ (suc t ≤ k)
    → filter (λ n. nat_le n t) (k ∷ ks) ≡ below (suc t) (k ∷ ks)
up_to_by t k ks rest (inl lt) =
    let first : nat_le k t ≡ true = le-leb k t (omega (arith, lt)) in
    let second : nat_lt k (suc t) ≡ true = lt-ltb k (suc t) lt in
    rw (first, second) (ap (λ (l : List ℕ). k ∷ l) rest)
up_to_by t k ks rest (inr le) =
    let first : nat_le k t ≡ false = lt-leb k t (omega (arith, le)) in
    let second : nat_lt k (suc t) ≡ false = le-ltb k (suc t) le in
    rw (first, second) rest

up_to_below : (t : ℕ) (ks : List ℕ) → filter (λ n. nat_le n t) ks ≡ below (suc t) ks
up_to_below t [] = refl
up_to_below t (k ∷ ks) = up_to_by t k ks (up_to_below t ks) (cases_lt k (suc t))

pub log_lies : (files : Files) (t : ℕ) (log : List Located) → IsLog files t log → LiesBelow files (suc t) log
log_lies files t log is =
    joins_lies files (suc t) log (subst (λ (ns : List ℕ). Joins files ns log) (up_to_below t (segment_numbers files)) is.joined)
