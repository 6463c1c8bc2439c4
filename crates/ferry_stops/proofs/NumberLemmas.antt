-- Lemmas on the numbers of segments: those that are there below a number, one number more.
use Rattle.std.proofs.Common.{◌≡◌, ℕ, suc, ◌<◌, ◌≤◌, Bool, true, false, cond, ◌||◌, ◌&&◌, T, List, [], ◌∷◌, ◌++◌, map, filter, nat_lt}
use Rattle.std.proofs.Common.{is_some, refl, sym, ◌∙◌}
use Rattle.std.proofs.Common.{ap, subst, arith}
use Rattle.std.specs.FinMap.{FinMap, get, entries, entries_sorted, keys, contains_key-keys, nat_cmp-IsAntisymmetric}
use Rattle.std.specs.FinMap.Entries.{is_sorted, below_all}
use Rattle.std.specs.List.{AllByRecursion, list_any}
use Rattle.std.specs.Ordering.{nat_cmp, eq_by_cmp, is_eq, is_lt}
use Rattle.std.specs.declared.cmp.Ordering.{Ordering}
use Rattle.std.specs.declared.cmp.Ordering.TheVariants.{Less, Equal, Greater}
use Rattle.std.proofs.lemmas.Bool.{lt-ltb, le-ltb}
use Rattle.std.proofs.lemmas.Cmp.{ranked}

-- ---- what stands in a list

tied : (n k : ℕ) (o : Ordering) → nat_cmp n k ≡ o → is_eq o ≡ true → n ≡ k
tied n k Equal e h = nat_cmp-IsAntisymmetric n k e
tied n k Less e h = absurd (let no : ⊥ = cc in no)
tied n k Greater e h = absurd (let no : ⊥ = cc in no)

any_by : (P : ℕ → Type 0) (n k : ℕ) (rest : Bool) (b : Bool) → eq_by_cmp nat_cmp n k ≡ b → P k → (rest ≡ true → P n) → (b || rest) ≡ true → P n
any_by P n k rest true e here later h = subst P (sym (tied n k (nat_cmp n k) refl e)) here
any_by P n k rest false e here later h = later h

pub any_all : (P : ℕ → Type 0) (n : ℕ) (ks : List ℕ) → AllByRecursion P ks → list_any (eq_by_cmp nat_cmp n) ks ≡ true → P n
any_all P n [] all h = absurd (let no : ⊥ = cc in no)
any_all P n (k ∷ ks) all h = any_by P n k (list_any (eq_by_cmp nat_cmp n) ks) (eq_by_cmp nat_cmp n k) refl all.0 (any_all P n ks all.1) h

pub all_of : (P : ℕ → Type 0) → ((n : ℕ) → P n) → (ks : List ℕ) → AllByRecursion P ks
all_of P each [] = tt
all_of P each (k ∷ ks) = (each k, all_of P each ks)

-- what holds of each number in a map's keys holds of each number that is there
pub there_all : (P : ℕ → Type 0) (m : FinMap nat_cmp (List ℕ)) (n : ℕ) → AllByRecursion P (keys m) → is_some (get m n) ≡ true → P n
there_all P m n all some = any_all P n (keys m) all (sym (contains_key-keys m n) ∙ some)

-- ---- increasing numbers

abbrev pub Rising : List ℕ → Type 0
Rising [] = Unit {0}
Rising (k ∷ ks) = AllByRecursion (λ j. k < j) ks × Rising ks

less_is : (k j : ℕ) (o : Ordering) → o ≡ nat_cmp k j → T (is_lt o) → k < j
less_is k j Less e h = ranked k j Less e
less_is k j Equal e h = absurd h
less_is k j Greater e h = absurd h

both_first : (a b : Bool) → T (a && b) → T a
both_first true b h = tt
both_first false b h = absurd h

both_second : (a b : Bool) → T (a && b) → T b
both_second true b h = h
both_second false b h = absurd h

above_all : (k : ℕ) (es : List (ℕ × List ℕ)) → T (below_all nat_cmp k es) → AllByRecursion (λ j. k < j) (map (λ e. e.0) es)
above_all k [] h = tt
above_all k (e ∷ es) h = (
  less_is k e.0 (nat_cmp k e.0) refl (both_first (is_lt (nat_cmp k e.0)) (below_all nat_cmp k es) h),
  above_all k es (both_second (is_lt (nat_cmp k e.0)) (below_all nat_cmp k es) h),
)

rising_of : (es : List (ℕ × List ℕ)) → T (is_sorted nat_cmp es) → Rising (map (λ e. e.0) es)
rising_of [] h = tt
rising_of (e ∷ es) h = (
  above_all e.0 es (both_first (below_all nat_cmp e.0 es) (is_sorted nat_cmp es) h),
  rising_of es (both_second (below_all nat_cmp e.0 es) (is_sorted nat_cmp es) h),
)

pub keys_rising : (m : FinMap nat_cmp (List ℕ)) → Rising (keys m)
keys_rising m = rising_of (entries m) (entries_sorted m)

-- ---- those below a number

abbrev pub below : ℕ → List ℕ → List ℕ
below n ks = filter (λ k. nat_lt k n) ks

-- the number alone, where it is there
abbrev pub alone : ℕ → Bool → List ℕ
alone n b = cond b (n ∷ []) []

none_below : (n m : ℕ) (ks : List ℕ) → n ≤ suc m → AllByRecursion (λ j. m < j) ks → below n ks ≡ []
none_below n m [] le all = refl
none_below n m (k ∷ ks) le all =
    let off : nat_lt k n ≡ false = le-ltb k n (omega (arith, le, all.0)) in
    rw off (none_below n m ks le all.1)

other_key : (n k : ℕ) (o : Ordering) → o ≡ nat_cmp n k → (n ≡ k → ⊥) → is_eq o ≡ false
other_key n k Less e off = refl
other_key n k Greater e off = refl
other_key n k Equal e off = absurd (off (ranked n k Equal e))

none_there : (n m : ℕ) (ks : List ℕ) → n ≤ m → AllByRecursion (λ j. m < j) ks → list_any (eq_by_cmp nat_cmp n) ks ≡ false
none_there n m [] le all = refl
none_there n m (k ∷ ks) le all =
    let off : eq_by_cmp nat_cmp n k ≡ false = other_key n k (nat_cmp n k) refl (λ same. omega (arith, le, all.0, same)) in
    rw off (none_there n m ks le all.1)

below_by : (n k : ℕ) (ks : List ℕ) (o : Ordering) → o ≡ nat_cmp n k → AllByRecursion (λ j. k < j) ks
    → below (suc n) ks ≡ below n ks ++ alone n (list_any (eq_by_cmp nat_cmp n) ks)
    → below (suc n) (k ∷ ks) ≡ below n (k ∷ ks) ++ alone n (list_any (eq_by_cmp nat_cmp n) (k ∷ ks))
below_by n k ks Less e above rest =
    let lt : n < k = ranked n k Less e in
    let first : nat_lt k (suc n) ≡ false = le-ltb k (suc n) (omega (arith, lt)) in
    let second : nat_lt k n ≡ false = le-ltb k n (omega (arith, lt)) in
    let third : eq_by_cmp nat_cmp n k ≡ false = other_key n k (nat_cmp n k) refl (λ same. omega (arith, lt, same)) in
    rw (first, second, third) rest
below_by n k ks Equal e above rest =
    let same : n ≡ k = ranked n k Equal e in
    let first : nat_lt k (suc n) ≡ true = lt-ltb k (suc n) (omega (arith, same)) in
    let second : nat_lt k n ≡ false = le-ltb k n (omega (arith, same)) in
    let third : eq_by_cmp nat_cmp n k ≡ true = ap is_eq (sym e) in
    let none : below (suc n) ks ≡ [] = none_below (suc n) k ks (omega (arith, same)) above in
    let none_yet : below n ks ≡ [] = none_below n k ks (omega (arith, same)) above in
    rw (first, second, third) (ap (λ (l : List ℕ). k ∷ l) none ∙ (ap (λ (m : ℕ). m ∷ []) (sym same) ∙ ap (λ (l : List ℕ). l ++ (n ∷ [])) (sym none_yet)))
below_by n k ks Greater e above rest =
    let gt : k < n = ranked n k Greater e in
    let first : nat_lt k (suc n) ≡ true = lt-ltb k (suc n) (omega (arith, gt)) in
    let second : nat_lt k n ≡ true = lt-ltb k n gt in
    let third : eq_by_cmp nat_cmp n k ≡ false = other_key n k (nat_cmp n k) refl (λ same. omega (arith, gt, same)) in
    rw (first, second, third) (ap (λ (l : List ℕ). k ∷ l) rest)

-- below a number more are those below it, and it, where it is there
pub below_suc : (n : ℕ) (ks : List ℕ) → Rising ks → below (suc n) ks ≡ below n ks ++ alone n (list_any (eq_by_cmp nat_cmp n) ks)
below_suc n [] rising = refl
below_suc n (k ∷ ks) rising = below_by n k ks (nat_cmp n k) refl rising.0 (below_suc n ks rising.1)

pub below_none : (ks : List ℕ) → below 0 ks ≡ []
below_none [] = refl
below_none (k ∷ ks) = let off : nat_lt k 0 ≡ false = le-ltb k 0 (omega arith) in rw off (below_none ks)

-- ---- a number among increasing ones

all_in : (P : ℕ → Type 0) (xs : List ℕ) (y : ℕ) (ys : List ℕ) → AllByRecursion P (xs ++ (y ∷ ys)) → P y
all_in P [] y ys h = h.0
all_in P (x ∷ xs) y ys h = all_in P xs y ys h.1

pub rising_front : (xs : List ℕ) (t : ℕ) (ys : List ℕ) → Rising (xs ++ (t ∷ ys)) → AllByRecursion (λ k. k < t) xs
rising_front [] t ys rising = tt
rising_front (x ∷ xs) t ys rising = (all_in (λ j. x < j) xs t ys rising.0, rising_front xs t ys rising.1)

pub rising_back : (xs : List ℕ) (t : ℕ) (ys : List ℕ) → Rising (xs ++ (t ∷ ys)) → AllByRecursion (λ k. t < k) ys
rising_back [] t ys rising = rising.0
rising_back (x ∷ xs) t ys rising = rising_back xs t ys rising.1

split_by : (t k : ℕ) (ks : List ℕ) (rest b : Bool) → eq_by_cmp nat_cmp t k ≡ b
    → (rest ≡ true → (xs : List ℕ) × (ys : List ℕ) × (ks ≡ xs ++ (t ∷ ys))) → (b || rest) ≡ true
    → (xs : List ℕ) × (ys : List ℕ) × (k ∷ ks ≡ xs ++ (t ∷ ys))
split_by t k ks rest true e later h = ([], ks, ap (λ (j : ℕ). j ∷ ks) (sym (tied t k (nat_cmp t k) refl e)))
split_by t k ks rest false e later h = let found = later h in (k ∷ found.0, found.1, ap (λ (l : List ℕ). k ∷ l) found.2)

pub split_there : (t : ℕ) (ks : List ℕ) → list_any (eq_by_cmp nat_cmp t) ks ≡ true → (xs : List ℕ) × (ys : List ℕ) × (ks ≡ xs ++ (t ∷ ys))
split_there t [] h = absurd (let no : ⊥ = cc in no)
split_there t (k ∷ ks) h = split_by t k ks (list_any (eq_by_cmp nat_cmp t) ks) (eq_by_cmp nat_cmp t k) refl (split_there t ks) h
