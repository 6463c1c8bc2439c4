-- Names in strictly increasing byte order, and archives by them.
use Rattle.std.proofs.Common.{◌≡◌, ℕ, zero, suc, ◌≤◌, ◌<◌, Bool, true, false, cond, List}
use Rattle.std.proofs.Common.{[], ◌∷◌, ◌++◌, length, get_or, Ordering, Less, Equal, Greater, nat_cmp, is_eq}
use Rattle.std.proofs.Common.{refl, sym, ap, ◌∙◌, arith}
use Rattle.std.specs.Cmp.Lexicographic.{slice_cmp}
use Rattle.std.specs.List.{AllByRecursion, filter}
use Rattle.std.specs.Ordering.{is_lt, ordering_reverse}
use Rattle.std.specs.Str.{bytes_eq}
use Rattle.std.proofs.lemmas.Cmp.{nat_list_cmp_total}
use Rattle.std.proofs.lemmas.Map.Text.{is_eq-slice_cmp}
use Rattle.std.proofs.lemmas.Slice.Eq.{bytes_eq-Decides}
use Rattle.ferry_manifest.specs.Manifest.Writing.{IsBelowNames, AreIncreasing, archive_names}
use Rattle.ferry_manifest.specs.declared.manifest.ArchiveRef.{ArchiveRef}
use Rattle.ferry_next.specs.Next.{is_below}

-- ---- one name and another

less_by : (o : Ordering) → is_lt o ≡ true → o ≡ Less
less_by Less e = refl
less_by Equal e = cc
less_by Greater e = cc

pub less : (n m : List ℕ) → is_below n m ≡ true → slice_cmp nat_cmp n m ≡ Less
less n m e = less_by (slice_cmp nat_cmp n m) e

pub below : (n m : List ℕ) → slice_cmp nat_cmp n m ≡ Less → is_below n m ≡ true
below n m e = ap is_lt e

pub same_name : (n m : List ℕ) → slice_cmp nat_cmp n m ≡ Equal → n ≡ m
same_name n m e = (bytes_eq-Decides n m).0 (sym (is_eq-slice_cmp n m) ∙ ap is_eq e)

pub itself : (n : List ℕ) → bytes_eq n n ≡ true
itself n = (bytes_eq-Decides n n).1 refl

-- where one name is below another, they differ
pub apart : (n m : List ℕ) → slice_cmp nat_cmp n m ≡ Less → bytes_eq n m ≡ false
apart n m e = sym (is_eq-slice_cmp n m) ∙ ap is_eq e

equal_turned : (o : Ordering) → is_eq (ordering_reverse o) ≡ is_eq o
equal_turned Less = refl
equal_turned Equal = refl
equal_turned Greater = refl

pub bytes_eq_turned : (n m : List ℕ) → bytes_eq m n ≡ bytes_eq n m
bytes_eq_turned n m =
    sym (is_eq-slice_cmp m n) ∙ (ap is_eq (nat_list_cmp_total.antisymm m n) ∙ (equal_turned (slice_cmp nat_cmp n m) ∙ is_eq-slice_cmp n m))

-- ---- names that increase

-- a name that is below the first is below the next
pub below_next : (n m : List ℕ) (ns : List (List ℕ)) → slice_cmp nat_cmp n m ≡ Less → AreIncreasing (m ∷ ns) → AreIncreasing (n ∷ ns)
below_next n m [] is inc = (tt, tt)
below_next n m (k ∷ ns) is inc = (nat_list_cmp_total.trans n m k is inc.0, inc.1)

-- each archive behind a name is above it
pub later_above : (n : List ℕ) (archives : List ArchiveRef) (j : ℕ) (d : ArchiveRef) → AreIncreasing (n ∷ archive_names archives) → j < length archives
    → slice_cmp nat_cmp n (get_or archives j d).name ≡ Less
later_above n [] j d inc lt = absurd (omega arith)
later_above n (a ∷ archives) zero d inc lt = inc.0
later_above n (a ∷ archives) (suc j) d inc lt =
    let next : AreIncreasing (n ∷ archive_names archives) = below_next n a.name (archive_names archives) inc.0 inc.1 in
    later_above n archives j d next (omega arith)

-- what is in front of an archive with a lesser name has a lesser one
pub lesser_first : (name : List ℕ) (archives : List ArchiveRef) → AreIncreasing (archive_names archives) → (i j : ℕ) (d : ArchiveRef) → i ≤ j
    → j < length archives → is_below (get_or archives j d).name name ≡ true → is_below (get_or archives i d).name name ≡ true
lesser_first name [] inc i j d le lt is = absurd (omega arith)
lesser_first name (a ∷ archives) inc zero zero d le lt is = is
lesser_first name (a ∷ archives) inc zero (suc j) d le lt is =
    let m = (get_or archives j d).name in
    let above : slice_cmp nat_cmp a.name m ≡ Less = later_above a.name archives j d inc (omega arith) in
    below a.name name (nat_list_cmp_total.trans a.name m name above (less m name is))
lesser_first name (a ∷ archives) inc (suc i) zero d le lt is = absurd (omega arith)
lesser_first name (a ∷ archives) inc (suc i) (suc j) d le lt is = lesser_first name archives inc.1 i j d (omega arith) (omega arith) is

-- ---- archives that pass a test

filter_by : (p : ArchiveRef → Bool) (b : Bool) (n : List ℕ) (a : ArchiveRef) (kept : List ArchiveRef) → slice_cmp nat_cmp n a.name ≡ Less
    → AreIncreasing (a.name ∷ archive_names kept) → AreIncreasing (n ∷ archive_names kept) → AreIncreasing (n ∷ archive_names (cond b (a ∷ kept) kept))
filter_by p true n a kept is inc next = (is, inc)
filter_by p false n a kept is inc next = next

filter_behind : (p : ArchiveRef → Bool) (n : List ℕ) (archives : List ArchiveRef) → AreIncreasing (n ∷ archive_names archives)
    → AreIncreasing (n ∷ archive_names (filter p archives))
filter_behind p n [] inc = (tt, tt)
filter_behind p n (a ∷ archives) inc =
    filter_by p (p a) n a (filter p archives) inc.0 (filter_behind p a.name archives inc.1)
    (filter_behind p n archives (below_next n a.name (archive_names archives) inc.0 inc.1))

filter_first : (b : Bool) (a : ArchiveRef) (kept : List ArchiveRef) → AreIncreasing (a.name ∷ archive_names kept)
    → AreIncreasing (archive_names (cond b (a ∷ kept) kept))
filter_first true a kept inc = inc
filter_first false a kept inc = inc.1

pub filter_increasing : (p : ArchiveRef → Bool) (archives : List ArchiveRef) → AreIncreasing (archive_names archives)
    → AreIncreasing (archive_names (filter p archives))
filter_increasing p [] inc = tt
filter_increasing p (a ∷ archives) inc = filter_first (p a) a (filter p archives) (filter_behind p a.name archives inc)

-- ---- archives on both sides of one

-- each of these archives has a name below this one
abbrev pub AreBelow : List ArchiveRef → List ℕ → Type 0
AreBelow archives name = AllByRecursion (λ a. slice_cmp nat_cmp a.name name ≡ Less) archives

below_by : (name : List ℕ) (b : Bool) (a : ArchiveRef) (kept : List ArchiveRef) → is_below a.name name ≡ b → AreBelow kept name
    → AreBelow (cond b (a ∷ kept) kept) name
below_by name true a kept is rest = (less a.name name is, rest)
below_by name false a kept is rest = rest

pub filter_below : (name : List ℕ) (archives : List ArchiveRef) → AreBelow (filter (λ a. is_below a.name name) archives) name
filter_below name [] = tt
filter_below name (a ∷ archives) =
    below_by name (is_below a.name name) a (filter (λ x. is_below x.name name) archives) refl (filter_below name archives)

above_by : (name : List ℕ) (b : Bool) (a : ArchiveRef) (kept : List ArchiveRef) → is_below name a.name ≡ b → AreIncreasing (a.name ∷ archive_names kept)
    → AreIncreasing (name ∷ archive_names kept) → AreIncreasing (name ∷ archive_names (cond b (a ∷ kept) kept))
above_by name true a kept is inc rest = (less name a.name is, inc)
above_by name false a kept is inc rest = rest

pub filter_above : (name : List ℕ) (archives : List ArchiveRef) → AreIncreasing (archive_names archives)
    → AreIncreasing (name ∷ archive_names (filter (λ a. is_below name a.name) archives))
filter_above name [] inc = (tt, tt)
filter_above name (a ∷ archives) inc =
    above_by name (is_below name a.name) a (filter (λ x. is_below name x.name) archives) refl
    (filter_behind (λ x. is_below name x.name) a.name archives inc) (filter_above name archives inc.1)

joined_below : (n : List ℕ) (before : List ArchiveRef) (a : ArchiveRef) (behind : List ArchiveRef) → IsBelowNames n (archive_names before)
    → slice_cmp nat_cmp n a.name ≡ Less → IsBelowNames n (archive_names (before ++ (a ∷ behind)))
joined_below n [] a behind first is = is
joined_below n (x ∷ before) a behind first is = first

pub joined : (before : List ArchiveRef) (a : ArchiveRef) (behind : List ArchiveRef) → AreIncreasing (archive_names before) → AreBelow before a.name
    → AreIncreasing (a.name ∷ archive_names behind) → AreIncreasing (archive_names (before ++ (a ∷ behind)))
joined [] a behind first under rest = rest
joined (x ∷ before) a behind first under rest =
    (joined_below x.name before a behind first.0 under.0, joined before a behind first.1 under.1 rest)
