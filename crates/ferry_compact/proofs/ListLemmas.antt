-- Lemmas on lists: what holds of each element, of those that pass a test, and numbers among others.
use Rattle.std.proofs.Common.{◌≡◌, ◌⊎◌, inl, inr, ℕ, zero, suc, ◌+◌, ◌-◌, ◌<◌, ◌≤◌, Bool, true, false, cond, ◌||◌, not, nat_eq}
use Rattle.std.proofs.Common.{List, [], ◌∷◌, ◌++◌, length, map}
use Rattle.std.proofs.Common.{get_or, take, filter, slice_get, Some, None, Result, Ok, Err, is_ok, refl, sym, ◌∙◌, ap, subst, arith}
use mathlib.Core.Bool.{beq}
use Rattle.std.proofs.lemmas.List.Folds.{list_any-append, list_any_at}
use Rattle.std.proofs.lemmas.List.Sorted.{searched}
use Rattle.std.specs.List.{AllByRecursion, list_any}
use Rattle.std.specs.List.Sorted.{IsBinarySearchResult, IsStrictlyIncreasing}
use Rattle.std.specs.Ordering.{nat_cmp}
use Rattle.std.specs.Cmp.{nat_eq_equiv}
use Rattle.std.proofs.lemmas.Bool.{cases_lt}
use Rattle.ferry_disk.proofs.FilesLemmas.{same_number}
use Rattle.ferry_stops.proofs.NumberLemmas.{Rising}
use Rattle.ferry_compact.specs.Moving.{is_among}

-- ---- truth

pub true_or_false : (b : Bool) → (b ≡ true) ⊎ (b ≡ false)
true_or_false true = inl refl
true_or_false false = inr refl

pub never : {A : Type 0} (b : Bool) → b ≡ true → b ≡ false → A
never b e f = absurd (let no : ⊥ = cc in no)

pub not_false : (b : Bool) → not b ≡ true → b ≡ false
not_false true e = absurd (let no : ⊥ = cc in no)
not_false false e = refl

pub tested_same : (a b : Bool) → not (beq a b) ≡ false → a ≡ b
tested_same true true e = refl
tested_same true false e = absurd (let no : ⊥ = cc in no)
tested_same false true e = absurd (let no : ⊥ = cc in no)
tested_same false false e = refl

pub tested_other : (a b : Bool) → not (beq a b) ≡ true → a ≡ b → ⊥
tested_other true true e f = let no : ⊥ = cc in no
tested_other true false e f = let no : ⊥ = cc in no
tested_other false true e f = let no : ⊥ = cc in no
tested_other false false e f = let no : ⊥ = cc in no

-- ---- what holds of each element

pub all-append : {X : Type 0} (P : X → Type 0) (xs ys : List X) → AllByRecursion P xs → AllByRecursion P ys → AllByRecursion P (xs ++ ys)
all-append P [] ys p q = q
all-append P (x ∷ xs) ys p q = (p.0, all-append P xs ys p.1 q)

pub all_front : {X : Type 0} (P : X → Type 0) (xs ys : List X) → AllByRecursion P (xs ++ ys) → AllByRecursion P xs
all_front P [] ys p = tt
all_front P (x ∷ xs) ys p = (p.0, all_front P xs ys p.1)

pub all_back : {X : Type 0} (P : X → Type 0) (xs ys : List X) → AllByRecursion P (xs ++ ys) → AllByRecursion P ys
all_back P [] ys p = p
all_back P (x ∷ xs) ys p = all_back P xs ys p.1

pub all_map : {X : Type 0} (P Q : X → Type 0) → ((x : X) → P x → Q x) → (xs : List X) → AllByRecursion P xs → AllByRecursion Q xs
all_map P Q step [] p = tt
all_map P Q step (x ∷ xs) p = (step x p.0, all_map P Q step xs p.1)

pub all_both : {X : Type 0} (P Q : X → Type 0) (xs : List X) → AllByRecursion P xs → AllByRecursion Q xs → AllByRecursion (λ x. P x × Q x) xs
all_both P Q [] p q = tt
all_both P Q (x ∷ xs) p q = ((p.0, q.0), all_both P Q xs p.1 q.1)

pub all_each : {X : Type 0} (P : X → Type 0) → ((x : X) → P x) → (xs : List X) → AllByRecursion P xs
all_each P each [] = tt
all_each P each (x ∷ xs) = (each x, all_each P each xs)

-- ---- those that pass a test

filtered_by : {X Y : Type 0} (P : Y → Type 0) (f : X → Y) (x : X) (xs : List X) (b : Bool) → (b ≡ true → P (f x)) → AllByRecursion P (map f xs)
    → AllByRecursion P (map f (cond b (x ∷ xs) xs))
filtered_by P f x xs true p q = (p refl, q)
filtered_by P f x xs false p q = q

-- what holds of each that passes
pub all_filtered : {X Y : Type 0} (P : Y → Type 0) (f : X → Y) (p : X → Bool) (xs : List X) → AllByRecursion (λ x. p x ≡ true → P (f x)) xs
    → AllByRecursion P (map f (filter p xs))
all_filtered P f p [] all = tt
all_filtered P f p (x ∷ xs) all = filtered_by P f x (filter p xs) (p x) all.0 (all_filtered P f p xs all.1)

unfiltered_by : {X Y : Type 0} (P : Y → Type 0) (f : X → Y) (x : X) (xs : List X) (b : Bool) → AllByRecursion P (map f (cond b (x ∷ xs) xs))
    → (b ≡ true → P (f x)) × AllByRecursion P (map f xs)
unfiltered_by P f x xs true q = ((λ e. q.0), q.1)
unfiltered_by P f x xs false q = ((λ e. absurd (let no : ⊥ = cc in no)), q)

pub all_unfiltered : {X Y : Type 0} (P : Y → Type 0) (f : X → Y) (p : X → Bool) (xs : List X) → AllByRecursion P (map f (filter p xs))
    → AllByRecursion (λ x. p x ≡ true → P (f x)) xs
all_unfiltered P f p [] all = tt
all_unfiltered P f p (x ∷ xs) all =
    let parts = unfiltered_by P f x (filter p xs) (p x) all in (parts.0, all_unfiltered P f p xs parts.1)

pub map-append : {X Y : Type 0} (f : X → Y) (xs ys : List X) → map f (xs ++ ys) ≡ map f xs ++ map f ys
map-append f [] ys = refl
map-append f (x ∷ xs) ys = ap (λ (l : List _). f x ∷ l) (map-append f xs ys)

same_by : {X : Type 0} (x : X) (xs ys : List X) (b d : Bool) → b ≡ d → xs ≡ ys → cond b (x ∷ xs) xs ≡ cond d (x ∷ ys) ys
same_by x xs ys b d e f = ap (λ (t : Bool). cond t (x ∷ xs) xs) e ∙ ap (λ (l : List _). cond d (x ∷ l) l) f

-- tests that answer alike let the same pass
pub filter_same : {X : Type 0} (p q : X → Bool) (xs : List X) → AllByRecursion (λ x. p x ≡ q x) xs → filter p xs ≡ filter q xs
filter_same p q [] all = refl
filter_same p q (x ∷ xs) all = same_by x (filter p xs) (filter q xs) (p x) (q x) all.0 (filter_same p q xs all.1)

-- none of these pass, or all of them
pub filter_none : {X : Type 0} (p : X → Bool) (xs : List X) → AllByRecursion (λ x. p x ≡ false) xs → filter p xs ≡ []
filter_none p [] all = refl
filter_none p (x ∷ xs) all = ap (λ (t : Bool). cond t (x ∷ filter p xs) (filter p xs)) all.0 ∙ filter_none p xs all.1

pub filter_all : {X : Type 0} (p : X → Bool) (xs : List X) → AllByRecursion (λ x. p x ≡ true) xs → filter p xs ≡ xs
filter_all p [] all = refl
filter_all p (x ∷ xs) all =
    ap (λ (t : Bool). cond t (x ∷ filter p xs) (filter p xs)) all.0 ∙ ap (λ (l : List _). x ∷ l) (filter_all p xs all.1)

any_by : {X : Type 0} (p : X → Bool) (x : X) (xs : List X) (b : Bool) → p x ≡ b → (list_any p xs ≡ false → AllByRecursion (λ y. p y ≡ false) xs)
    → (b || list_any p xs) ≡ false → AllByRecursion (λ y. p y ≡ false) (x ∷ xs)
any_by p x xs true e rest h = absurd (let no : ⊥ = cc in no)
any_by p x xs false e rest h = (e, rest h)

pub none_passes : {X : Type 0} (p : X → Bool) (xs : List X) → list_any p xs ≡ false → AllByRecursion (λ x. p x ≡ false) xs
none_passes p [] h = tt
none_passes p (x ∷ xs) h = any_by p x xs (p x) refl (none_passes p xs) h

-- ---- numbers among others

pub own_among : (n : ℕ) → nat_eq n n ≡ true
own_among n = nat_eq_equiv.refl n

either_by : (b d : Bool) → (b || d) ≡ true → (b ≡ true) ⊎ (d ≡ true)
either_by true d h = inl refl
either_by false d h = inr h

pub or_right : (b : Bool) → (b || true) ≡ true
or_right true = refl
or_right false = refl

pub among-append : (xs ys : List ℕ) (s : ℕ) → is_among (xs ++ ys) s ≡ (is_among xs s || is_among ys s)
among-append xs ys s = list_any-append (nat_eq s) xs ys

pub among_front : (xs ys : List ℕ) (s : ℕ) → is_among xs s ≡ true → is_among (xs ++ ys) s ≡ true
among_front xs ys s h = among-append xs ys s ∙ ap (λ (b : Bool). b || is_among ys s) h

-- what holds of each of these numbers holds of one among them
pub among_all : (P : ℕ → Type 0) (xs : List ℕ) (s : ℕ) → AllByRecursion P xs → is_among xs s ≡ true → P s
among_all P [] s all h = absurd (let no : ⊥ = cc in no)
among_all P (x ∷ xs) s all h = elim (either_by (nat_eq s x) (is_among xs s) h) [
  | inl e ↦ subst P (sym (same_number s x e)) all.0
  | inr e ↦ among_all P xs s all.1 e
]

-- of increasing numbers those in front are below those behind
pub rising_apart : (xs ys : List ℕ) (s r : ℕ) → Rising (xs ++ ys) → is_among xs s ≡ true → is_among ys r ≡ true → s < r
rising_apart [] ys s r rising h k = absurd (let no : ⊥ = cc in no)
rising_apart (x ∷ xs) ys s r rising h k = elim (either_by (nat_eq s x) (is_among xs s) h) [
  | inl e ↦
      (let same : s ≡ x = same_number s x e in
      let below : x < r = among_all (λ j. x < j) ys r (all_back (λ j. x < j) xs ys rising.0) k in omega (arith, same, below))
  | inr e ↦ rising_apart xs ys s r rising.1 e k
]

-- ---- what is found among increasing numbers

rises : (xs : List ℕ) → IsStrictlyIncreasing xs → (i n : ℕ) → i + n < length xs → get_or xs i 0 ≤ get_or xs (i + n) 0
rises xs up i zero within = let e : i + 0 ≡ i = omega arith in subst (λ (k : ℕ). get_or xs i 0 ≤ get_or xs k 0) (sym e) (omega arith)
rises xs up i (suc n) within =
    let rest : get_or xs i 0 ≤ get_or xs (i + n) 0 = rises xs up i n (omega (arith, within)) in
    let next : get_or xs (i + n) 0 < get_or xs (i + n + 1) 0 = up (i + n) (omega (arith, within)) in
    let e : i + n + 1 ≡ i + suc n = omega arith in
    subst (λ (k : ℕ). get_or xs i 0 ≤ get_or xs k 0) e (omega (arith, rest, next))

rises_to : (xs : List ℕ) → IsStrictlyIncreasing xs → (i j : ℕ) → i ≤ j → j < length xs → get_or xs i 0 ≤ get_or xs j 0
rises_to xs up i j le within =
    let e : i + (j - i) ≡ j = omega (arith, le) in
    subst (λ (k : ℕ). get_or xs i 0 ≤ get_or xs k 0) e (rises xs up i (j - i) (omega (arith, le, within)))

off_by : (n k : ℕ) (b : Bool) → nat_eq n k ≡ b → (n ≡ k → ⊥) → b ≡ false
off_by n k true e off = absurd (off (same_number n k e))
off_by n k false e off = refl

pub not_own : (n k : ℕ) → (n ≡ k → ⊥) → nat_eq n k ≡ false
not_own n k off = off_by n k (nat_eq n k) refl off

not_among : (xs : List ℕ) (s : ℕ) → ((k : ℕ) → k < length xs → s ≡ get_or xs k 0 → ⊥) → is_among xs s ≡ false
not_among [] s off = refl
not_among (x ∷ xs) s off =
    ap (λ (b : Bool). b || is_among xs s) (not_own s x (off 0 (omega arith)))
    ∙ not_among xs s (λ k within. off (suc k) (omega (arith, within)))

pub searched_among : (xs : List ℕ) (s : ℕ) (r : Result ℕ ℕ) → IsBinarySearchResult (λ y. nat_cmp y s) xs r → IsStrictlyIncreasing xs
    → is_ok r ≡ is_among xs s
searched_among xs s (Ok i) found up =
    let at = searched xs s (Ok i) found (rises_to xs up) in
    sym (list_any_at (nat_eq s) xs i 0 at.0 (ap (nat_eq s) at.1 ∙ own_among s))
searched_among xs s (Err i) found up =
    let at = searched xs s (Err i) found (rises_to xs up) in
    sym (not_among xs s (λ k within e. elim (cases_lt k i) [
      | inl lt ↦ (let below = at.1 k lt in let no : ⊥ = omega (arith, below, e) in no)
      | inr ge ↦ (let above = at.2 k ge within in let no : ⊥ = omega (arith, above, e) in no)
    ]))

-- ---- a list that is copied

-- one more element, where there is one
pub take_one : {X : Type 0} (xs : List X) (i : ℕ) (x : X) → slice_get xs i ≡ Some x → (i < length xs) × (take (suc i) xs ≡ take i xs ++ x ∷ [])
take_one [] i x e = absurd (let no : ⊥ = cc in no)
take_one (y ∷ xs) zero x e = let same : y ≡ x = cc in (omega arith, ap (λ (z : _). z ∷ []) same)
take_one (y ∷ xs) (suc i) x e =
    let rest = take_one xs i x e in
    (omega (arith, rest.0), ap (λ (l : List _). y ∷ l) rest.1)

-- all of them, where there is none
pub take_ended : {X : Type 0} (xs : List X) (i : ℕ) → slice_get xs i ≡ None → take i xs ≡ xs
take_ended [] zero e = refl
take_ended [] (suc i) e = refl
take_ended (y ∷ xs) zero e = absurd (let no : ⊥ = cc in no)
take_ended (y ∷ xs) (suc i) e = ap (λ (l : List _). y ∷ l) (take_ended xs i e)

-- no element
pub no_length : {X : Type 0} (xs : List X) → length xs ≡ 0 → xs ≡ []
no_length [] e = refl
no_length (x ∷ xs) e = absurd (omega (arith, e))
