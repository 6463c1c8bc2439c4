-- Names in byte order.
use Rattle.std.proofs.Common.{◌≡◌, ℕ, Bool, true, false, ◌||◌, List, [], ◌∷◌, ◌++◌, fold, Ordering, Less, Equal, Greater, nat_cmp, is_eq, refl, sym, ap, ◌∙◌}
use Rattle.std.proofs.Common.{append_assoc}
use Rattle.std.specs.Cmp.Lexicographic.{slice_cmp}
use Rattle.std.specs.List.{list_any}
use Rattle.std.specs.Ordering.{match_ordering, ordering_reverse}
use Rattle.std.specs.BTreeSet.{insert_key}
use Rattle.std.specs.Str.{bytes_eq}
use Rattle.std.proofs.lemmas.Cmp.{nat_list_cmp_total}
use Rattle.std.proofs.lemmas.List.{append-nil}
use Rattle.std.proofs.lemmas.Map.Text.{is_eq-slice_cmp}
use Rattle.std.proofs.lemmas.Slice.Eq.{bytes_eq-Decides}
use Rattle.ferry_manifest.specs.Manifest.Text.{in_order}
use Rattle.ferry_manifest.specs.Manifest.Writing.{IsBelowNames, AreIncreasing}

-- a name in its place
abbrev pub insert_name : List (List ℕ) → List ℕ → List (List ℕ)
insert_name = insert_key (slice_cmp nat_cmp)

-- ---- names that increase

below_insert : (n m : List ℕ) (ns : List (List ℕ)) → slice_cmp nat_cmp n m ≡ Less → IsBelowNames n ns → IsBelowNames n (insert_name ns m)
below_insert n m [] below under = below
below_insert n m (k ∷ ns) below under =
    let P : Ordering → Type 0 = λ o. IsBelowNames n (match_ordering o (m ∷ k ∷ ns) (k ∷ ns) (k ∷ insert_name ns m)) in
    elim (slice_cmp nat_cmp m k) as P [ Less ↦ below | Equal ↦ under | Greater ↦ under ]

insert_at : (m n : List ℕ) (ns : List (List ℕ)) (o : Ordering) → slice_cmp nat_cmp m n ≡ o → AreIncreasing (n ∷ ns) → AreIncreasing (insert_name ns m)
    → AreIncreasing (match_ordering o (m ∷ n ∷ ns) (n ∷ ns) (n ∷ insert_name ns m))
insert_at m n ns Less is old rest = (is, old)
insert_at m n ns Equal is old rest = old
insert_at m n ns Greater is old rest =
    let below : slice_cmp nat_cmp n m ≡ Less = nat_list_cmp_total.antisymm n m ∙ ap ordering_reverse is in
    (below_insert n m ns below old.0, rest)

insert_increasing : (ns : List (List ℕ)) (m : List ℕ) → AreIncreasing ns → AreIncreasing (insert_name ns m)
insert_increasing [] m old = (tt, tt)
insert_increasing (n ∷ ns) m old = insert_at m n ns (slice_cmp nat_cmp m n) refl old (insert_increasing ns m old.1)

fold_increasing : (before names : List (List ℕ)) → AreIncreasing before → AreIncreasing (fold insert_name before names)
fold_increasing before [] old = old
fold_increasing before (n ∷ ns) old = fold_increasing (insert_name before n) ns (insert_increasing before n old)

pub in_order-increasing : (names : List (List ℕ)) → AreIncreasing (in_order names)
unfolding in_order
in_order-increasing names = fold_increasing [] names tt

-- ---- the same names

same_text : (k l : List ℕ) → slice_cmp nat_cmp k l ≡ Equal → k ≡ l
same_text k l e = (bytes_eq-Decides k l).0 (sym (is_eq-slice_cmp k l) ∙ ap is_eq e)

or_again : (b c : Bool) → b || c ≡ b || (b || c)
or_again true c = refl
or_again false c = refl

or_swap : (a b c : Bool) → b || (a || c) ≡ a || (b || c)
or_swap true true c = refl
or_swap true false c = refl
or_swap false true c = refl
or_swap false false c = refl

or_assoc : (a b c : Bool) → (a || b) || c ≡ b || (a || c)
or_assoc true true c = refl
or_assoc true false c = refl
or_assoc false true c = refl
or_assoc false false c = refl

has_insert_at : (name m n : List ℕ) (ns : List (List ℕ)) (o : Ordering) → slice_cmp nat_cmp m n ≡ o
    → list_any (bytes_eq name) (insert_name ns m) ≡ bytes_eq name m || list_any (bytes_eq name) ns
    → list_any (bytes_eq name) (match_ordering o (m ∷ n ∷ ns) (n ∷ ns) (n ∷ insert_name ns m)) ≡ bytes_eq name m || list_any (bytes_eq name) (n ∷ ns)
has_insert_at name m n ns Less is rest = refl
has_insert_at name m n ns Equal is rest = rw (same_text m n is) (or_again (bytes_eq name n) (list_any (bytes_eq name) ns))
has_insert_at name m n ns Greater is rest = rw rest (or_swap (bytes_eq name m) (bytes_eq name n) (list_any (bytes_eq name) ns))

has_insert : (name : List ℕ) (ns : List (List ℕ)) (m : List ℕ) → list_any (bytes_eq name) (insert_name ns m) ≡ bytes_eq name m || list_any (bytes_eq name) ns
has_insert name [] m = refl
has_insert name (n ∷ ns) m = has_insert_at name m n ns (slice_cmp nat_cmp m n) refl (has_insert name ns m)

has_fold : (name : List ℕ) (before names : List (List ℕ)) → list_any (bytes_eq name) (fold insert_name before names) ≡ list_any (bytes_eq
    name) names || list_any (bytes_eq name) before
has_fold name before [] = refl
has_fold name before (n ∷ ns) =
    has_fold name (insert_name before n) ns ∙ ap (λ b. list_any (bytes_eq name) ns || b) (has_insert name before n)
    ∙ sym (or_assoc (bytes_eq name n) (list_any (bytes_eq name) ns) (list_any (bytes_eq name) before))

or_false : (b : Bool) → b || false ≡ b
or_false true = refl
or_false false = refl

pub in_order-same : (names : List (List ℕ)) (name : List ℕ) → list_any (bytes_eq name) (in_order names) ≡ list_any (bytes_eq name) names
unfolding in_order
in_order-same names name = has_fold name [] names ∙ or_false (list_any (bytes_eq name) names)

-- ---- names that are in order already

-- each of these names is below this one
abbrev AreBelow : List (List ℕ) → List ℕ → Type 0
AreBelow [] name = Unit {0}
AreBelow (n ∷ ns) name = (slice_cmp nat_cmp n name ≡ Less) × AreBelow ns name

insert_last : (ns : List (List ℕ)) (m : List ℕ) → AreBelow ns m → insert_name ns m ≡ ns ++ m ∷ []
insert_last [] m below = refl
insert_last (n ∷ ns) m below =
    let above : slice_cmp nat_cmp m n ≡ Greater = nat_list_cmp_total.antisymm m n ∙ ap ordering_reverse below.0 in
    rw above (ap (λ (rest : List (List ℕ)). n ∷ rest) (insert_last ns m below.1))

below_next : (ns : List (List ℕ)) (m k : List ℕ) → AreBelow ns m → slice_cmp nat_cmp m k ≡ Less → AreBelow (ns ++ m ∷ []) k
below_next [] m k below next = (next, tt)
below_next (n ∷ ns) m k below next = (nat_list_cmp_total.trans n m k below.0 next, below_next ns m k below.1 next)

-- each of the first names is below the first of the second
abbrev StandBefore : List (List ℕ) → List (List ℕ) → Type 0
StandBefore before [] = Unit {0}
StandBefore before (n ∷ ns) = AreBelow before n

before_next : (before : List (List ℕ)) (n : List ℕ) (ns : List (List ℕ)) → AreBelow before n → IsBelowNames n ns → StandBefore (before ++ n ∷ []) ns
before_next before n [] below under = tt
before_next before n (k ∷ ns) below under = below_next before n k below under

fold_same : (before names : List (List ℕ)) → StandBefore before names → AreIncreasing names → fold insert_name before names ≡ before ++ names
fold_same before [] stand increase = sym (append-nil before)
fold_same before (n ∷ ns) stand increase =
    rw (insert_last before n stand) (fold_same (before ++ n ∷ []) ns (before_next before n ns stand increase.0) increase.1 ∙ append_assoc before (n ∷ []) ns)

start_before : (names : List (List ℕ)) → StandBefore [] names
start_before [] = tt
start_before (n ∷ ns) = tt

pub in_order-again : (names : List (List ℕ)) → AreIncreasing names → in_order names ≡ names
unfolding in_order
in_order-again names increase = fold_same [] names (start_before names) increase
