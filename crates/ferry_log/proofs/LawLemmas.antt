-- Lemmas on specs/Log.antt: files have one log, one first place that doesn't read, or no committed segment.
use Rattle.std.proofs.Common.{◌≡◌, ℕ, ◌⊎◌, Bool, true, false, List, [], ◌∷◌, ◌++◌, Option, Some, None, get_or, drop, refl, sym, ◌∙◌, ap, subst, inl, inr}
use Rattle.std.specs.Cmp.Lexicographic.{nat_list_cmp_total}
use Rattle.std.specs.FinMap.{same_map, nat_cmp-IsAntisymmetric, slice_cmp-IsAntisymmetric}
use Rattle.std.specs.List.{AllByRecursion}
use Rattle.ferry_segment.specs.Entry.{IsBytes, LogEntry}
use Rattle.ferry_segment.specs.Segment.{Committed, BreaksAt}
use Rattle.ferry_segment.proofs.SegmentLemmas.{some_answer, split_unbroken, one_split, one_break, ended, closed_ended, ended_closed}
use Rattle.ferry_disk.specs.Files.{Files, segment_numbers, segment_bytes}
use Rattle.ferry_log.specs.Log.{Located, located, IsOpen, IsTransaction, numbers_up_to, IsUncommitted, IsSegment, Joins, IsLog, IsDamaged}
use Rattle.ferry_log.specs.Live.{live_place}
use Rattle.ferry_log.specs.State.{LogState, extents_of, IsStateOf}

-- ---- lists

first_of : {A : Type 0} (x y : A) (xs ys : List A) → x ∷ xs ≡ y ∷ ys → x ≡ y
first_of x y xs ys e = ap (λ k. get_or k 0 x) e

rest_of : {A : Type 0} (x y : A) (xs ys : List A) → x ∷ xs ≡ y ∷ ys → xs ≡ ys
rest_of x y xs ys e = ap (drop 1) e

-- what holds of all holds of one in the middle
all_there : {A : Type 0} (P : A → Type 0) (before : List A) (x : A) (after : List A) → AllByRecursion P (before ++ x ∷ after) → P x
all_there P [] x after h = h.0
all_there P (y ∷ before) x after h = all_there P before x after h.1

-- the first that lacks what all before it have
pub one_first : (P : ℕ → Type 0) (before front : List ℕ) (x y : ℕ) (after rest : List ℕ) → before ++ x ∷ after ≡ front ++ y ∷ rest → AllByRecursion P before
    → AllByRecursion P front → (P x → ⊥) → (P y → ⊥) → x ≡ y
one_first P [] [] x y after rest e p q u v = first_of x y after rest e
one_first P [] (z ∷ front) x y after rest e p q u v = absurd (u (subst P (sym (first_of x z after (front ++ y ∷ rest) e)) q.0))
one_first P (z ∷ before) [] x y after rest e p q u v = absurd (v (subst P (first_of z y (before ++ x ∷ after) rest e) p.0))
one_first P (z ∷ before) (w ∷ front) x y after rest e p q u v = one_first P before front x y after rest (rest_of z w _ _ e) p.1 q.1 u v

-- the last that has what all behind it lack, and all before it
pub one_last : (P : ℕ → Type 0) (before front : List ℕ) (x y : ℕ) (after rest : List ℕ) → before ++ x ∷ after ≡ front ++ y ∷ rest → P x → P y
    → AllByRecursion (λ n. P n → ⊥) after → AllByRecursion (λ n. P n → ⊥) rest → (x ≡ y) × (before ≡ front)
one_last P [] [] x y after rest e p q u v = (first_of x y after rest e, refl)
one_last P [] (z ∷ front) x y after rest e p q u v =
    absurd (all_there (λ n. P n → ⊥) front y rest (subst (AllByRecursion (λ n. P n → ⊥)) (rest_of x z after (front ++ y ∷ rest) e) u) q)
one_last P (z ∷ before) [] x y after rest e p q u v =
    absurd (all_there (λ n. P n → ⊥) before x after (subst (AllByRecursion (λ n. P n → ⊥)) (sym (rest_of z y (before ++ x ∷ after) rest e)) v) p)
one_last P (z ∷ before) (w ∷ front) x y after rest e p q u v =
    let others = one_last P before front x y after rest (rest_of z w _ _ e) p q u v in
    (others.0, ap (λ k. k ∷ before) (first_of z w _ _ e) ∙ ap (λ k. w ∷ k) others.1)

-- ---- IsTransaction

pub one_transaction : (files : Files) (t u : ℕ) → IsTransaction files t → IsTransaction files u → t ≡ u
one_transaction files t u a b =
    (one_last (λ n. Committed (segment_bytes files n)) a.below b.below t u a.above b.above (sym a.numbers
    ∙ b.numbers) a.committed b.committed a.open_above b.open_above).0

pub uncommitted_apart : (files : Files) (t : ℕ) → IsUncommitted files → IsTransaction files t → ⊥
uncommitted_apart files t h a = all_there (IsOpen files) a.below t a.above (subst (AllByRecursion (IsOpen files)) a.numbers h) a.committed

-- ---- IsLog

joins_one : (files : Files) (ns : List ℕ) (log other : List Located) → Joins files ns log → Joins files ns other → log ≡ other
joins_one files [] log other p q = p ∙ sym q
joins_one files (n ∷ ns) log other p q =
    p.4 ∙ (ap (λ k. located n 8 k ++ p.1) (one_split (segment_bytes files n) p.0 q.0 p.2 q.2)
    ∙ (ap (λ k. located n 8 q.0 ++ k) (joins_one files ns p.1 q.1 p.3 q.3) ∙ sym q.4))

pub one_log : (files : Files) (t u : ℕ) (log other : List Located) → IsLog files t log → IsLog files u other → (t ≡ u) × (log ≡ other)
one_log files t u log other a b =
    let one = one_transaction files t u a.is b.is in
    (one, joins_one files (numbers_up_to files u) log other (subst (λ k. Joins files (numbers_up_to files k) log) one a.joined) b.joined)

-- ---- IsDamaged

-- what breaks is no segment
breaks_apart : (files : Files) (n at : ℕ) → BreaksAt (segment_bytes files n) at → IsSegment files n → ⊥
breaks_apart files n at h s = split_unbroken (segment_bytes files n) s.0 at s.1 h

pub one_place : (files : Files) (s u a b : ℕ) → IsDamaged files s a → IsDamaged files u b → (s ≡ u) × (a ≡ b)
one_place files s u a b g h =
    let numbers = ap (numbers_up_to files) (one_transaction files g.transaction h.transaction g.is h.is) in
    let one =
    one_first (IsSegment files) g.before h.before s u g.after h.after (sym g.numbers
    ∙ (numbers ∙ h.numbers)) g.good h.good (breaks_apart files s a g.breaks) (breaks_apart files u b h.breaks) in
    (one, one_break (segment_bytes files u) a b (subst (λ n. BreaksAt (segment_bytes files n) a) one g.breaks) h.breaks)

-- the segments that are joined read
pub joins_good : (files : Files) (ns : List ℕ) (log : List Located) → Joins files ns log → AllByRecursion (IsSegment files) ns
joins_good files [] log j = tt
joins_good files (n ∷ ns) log j = ((j.0, j.2), joins_good files ns j.1 j.3)

pub damaged_apart : (files : Files) (s at t : ℕ) (log : List Located) → IsDamaged files s at → IsLog files t log → ⊥
damaged_apart files s at t log g h =
    let numbers = ap (numbers_up_to files) (one_transaction files g.transaction t g.is h.is) in
    let good = joins_good files (numbers_up_to files t) log h.joined in
    breaks_apart files s at g.breaks (all_there (IsSegment files) g.before s g.after (subst (AllByRecursion (IsSegment files)) (sym numbers
    ∙ g.numbers) good))

-- ---- some answer

not_closed : (es : List LogEntry) (o : Option Bool) → ended false es ≡ o → (ended false es ≡ Some true) ⊎ (ended false es ≡ Some true → ⊥)
not_closed es None e = inr (λ h. absurd (let none : ⊥ = cc in none))
not_closed es (Some true) e = inl e
not_closed es (Some false) e = inr (λ h. absurd (let none : ⊥ = cc in none))

committed_or_open : (bytes : List ℕ) → IsBytes bytes → Committed bytes ⊎ (Committed bytes → ⊥)
committed_or_open bytes small = elim (some_answer bytes small) [
  | inr broken ↦ inr (λ h. split_unbroken bytes h.entries broken.0 h.split broken.1)
  | inl split ↦ elim (not_closed split.0 (ended false split.0) refl) [
    | inl closed ↦ inl (record { entries = split.0; split = split.1; closed = ended_closed split.0 closed })
    | inr apart ↦ inr (λ h. apart (ap (ended false) (one_split bytes split.0 h.entries split.1 h.split) ∙ closed_ended h.entries h.closed))
  ]
]

-- the last committed of these segments
record LastOf (files : Files) (ns : List ℕ) : Type 0 where
  pub last : ℕ
  pub below : List ℕ
  pub above : List ℕ
  pub numbers : ns ≡ below ++ last ∷ above
  pub committed : Committed (segment_bytes files last)
  pub open_above : AllByRecursion (IsOpen files) above

last_of : (files : Files) → ((n : ℕ) → IsBytes (segment_bytes files n)) → (numbers : List ℕ) → AllByRecursion (IsOpen files) numbers ⊎ LastOf files numbers
last_of files small [] = inl tt
last_of files small (n ∷ ns) = elim (last_of files small ns) [
  | inr l ↦ inr (record {
    last = l.last;
    below = n ∷ l.below;
    above = l.above;
    numbers = ap
        (λ k. n ∷ k) l.numbers;
    committed = l.committed;
    open_above = l.open_above;
  })
  | inl none ↦ elim (committed_or_open (segment_bytes files n) (small n)) [
    | inl committed ↦ inr (record { last = n; below = []; above = ns; numbers = refl; committed = committed; open_above = none })
    | inr apart ↦ inl (apart, none)
  ]
]

-- the first of these segments that doesn't read
record FirstBroken (files : Files) (ns : List ℕ) : Type 0 where
  pub segment : ℕ
  pub at : ℕ
  pub before : List ℕ
  pub after : List ℕ
  pub numbers : ns ≡ before ++ segment ∷ after
  pub good : AllByRecursion (IsSegment files) before
  pub breaks : BreaksAt (segment_bytes files segment) at

joins_or_breaks : (files : Files) → ((n : ℕ) → IsBytes (segment_bytes files n)) → (numbers : List ℕ)
    → ((log : List Located) × Joins files numbers log) ⊎ FirstBroken files numbers
joins_or_breaks files small [] = inl ([], refl)
joins_or_breaks files small (n ∷ ns) = elim (some_answer (segment_bytes files n) (small n)) [
  | inr broken ↦ inr (record { segment = n; at = broken.0; before = []; after = ns; numbers = refl; good = tt; breaks = broken.1 })
  | inl split ↦ elim (joins_or_breaks files small ns) [
    | inl log ↦ inl (located n 8 split.0 ++ log.0, (split.0, log.0, split.1, log.1, refl))
    | inr b ↦ inr (record {
      segment = b.segment;
      at = b.at;
      before = n ∷ b.before;
      after = b.after;
      numbers = ap (λ k. n ∷ k) b.numbers;
      good =
          (split, b.good);
      breaks = b.breaks;
    })
  ]
]

read_of : (files : Files) → ((n : ℕ) → IsBytes (segment_bytes files n)) → (t : ℕ) (is : IsTransaction files t)
    → ((u : ℕ) × (log : List Located) × IsLog files u log) ⊎ ((s : ℕ) × (at : ℕ) × IsDamaged files s at)
read_of files small t is = elim (joins_or_breaks files small (numbers_up_to files t)) [
  | inl log ↦ inl (t, log.0, record { is = is; joined = log.1 })
  | inr b ↦ inr (
    b.segment,
    b.at,
    record
        { transaction = t; is = is; before = b.before; after = b.after; numbers = b.numbers; good = b.good; breaks = b.breaks },
  )
]

-- where each byte is one, one of the three answers holds
pub some_log : (files : Files) → ((n : ℕ) → IsBytes (segment_bytes files n))
    → IsUncommitted files ⊎ (((t : ℕ) × (log : List Located) × IsLog files t log) ⊎ ((s : ℕ) × (at : ℕ) × IsDamaged files s at))
some_log files small = elim (last_of files small (segment_numbers files)) [
  | inl none ↦ inl none
  | inr l ↦ inr (read_of files small l.last
      (record { below = l.below; above = l.above; numbers = l.numbers; committed = l.committed; open_above = l.open_above }))
]

-- ---- IsStateOf

-- files have one state
pub one_state : (files : Files) (a b : LogState) → IsStateOf files a → IsStateOf files b → a ≡ b
one_state files a b g h =
    let one = one_log files a.transaction b.transaction g.log h.log g.is h.is in
    let opened : a.opened ≡ b.opened = same_map nat_list_cmp_total (slice_cmp-IsAntisymmetric nat_cmp-IsAntisymmetric) a.opened b.opened
    (λ key. g.places.live key ∙ (ap (live_place key) one.1 ∙ sym (h.places.live key))) in
    let extents : a.extents ≡ b.extents = g.places.extents_are
    ∙ (ap (λ k. extents_of files k (numbers_up_to files a.transaction)) opened
    ∙ (ap (λ k. extents_of files b.opened (numbers_up_to files k)) one.0 ∙ sym h.places.extents_are)) in
    let learnt : a.learnt ≡ b.learnt = g.learnt ∙ sym h.learnt in
    ap (λ k. record a { transaction = k }) one.0
    ∙ (ap (λ k. record { transaction = b.transaction; opened = k; extents = a.extents; learnt = a.learnt }) opened
    ∙ (ap (λ k. record { transaction = b.transaction; opened = b.opened; extents = k; learnt = a.learnt }) extents
    ∙ ap (λ k. record { transaction = b.transaction; opened = b.opened; extents = b.extents; learnt = k }) learnt))
