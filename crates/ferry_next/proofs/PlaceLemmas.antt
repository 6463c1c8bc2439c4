-- An archive in its place.
use Rattle.std.proofs.Common.{◌≡◌, ℕ, zero, suc, ◌≤◌, ◌<◌, Bool, true, false, not, ◌||◌, is_some}
use Rattle.std.proofs.Common.{cond, List, [], ◌∷◌, ◌++◌, length, get_or, take, drop, Option, Some, None}
use Rattle.std.proofs.Common.{Ordering, Less, Equal, Greater, nat_cmp, is_eq, refl, sym, ap, ◌∙◌, subst, arith}
use Rattle.std.specs.Cmp.Lexicographic.{slice_cmp}
use Rattle.std.specs.List.{filter, insert, list_any}
use Rattle.std.specs.Ordering.{is_lt, ordering_reverse}
use Rattle.std.specs.Str.{bytes_eq}
use Rattle.std.proofs.lemmas.Cmp.{nat_list_cmp_total}
use Rattle.std.proofs.lemmas.Map.Text.{is_eq-slice_cmp}
use Rattle.std.proofs.lemmas.Slice.Eq.{bytes_eq-Decides}
use Rattle.ferry_manifest.specs.Manifest.Writing.{AreIncreasing, archive_names}
use Rattle.ferry_manifest.specs.declared.manifest.ArchiveRef.{ArchiveRef}
use Rattle.ferry_next.specs.Next.{is_below, with_archive, without_archive}
use Rattle.ferry_next.proofs.OrderLemmas.{apart, bytes_eq_turned, below_next, filter_increasing, filter_below, filter_above, itself, joined, same_name}
use Rattle.ferry_repo.specs.Archives.{archive_named}

-- ---- parted at a place

-- where the first so many pass a test and the others don't, those are what passes
module _ {X : Type 0} (p : X → Bool) where
  all_pass : (xs : List X) → ((k : ℕ) (d : X) → k < length xs → p (get_or xs k d) ≡ true) → filter p xs ≡ xs
  all_pass [] pass = refl
  all_pass (x ∷ xs) pass =
      let here : p x ≡ true = pass 0 x (omega arith) in
      rw here (ap (λ (l : List X). x ∷ l) (all_pass xs (λ k d lt. pass (suc k) d (omega arith))))

  none_passes : (xs : List X) → ((k : ℕ) (d : X) → k < length xs → p (get_or xs k d) ≡ false) → filter p xs ≡ []
  none_passes [] fail = refl
  none_passes (x ∷ xs) fail =
      let here : p x ≡ false = fail 0 x (omega arith) in
      rw here (none_passes xs (λ k d lt. fail (suc k) d (omega arith)))

  pub passed : (xs : List X) (i : ℕ) → i ≤ length xs → ((k : ℕ) (d : X) → 0 ≤ k → k < i → p (get_or xs k d) ≡ true)
      → ((k : ℕ) (d : X) → i ≤ k → k < length xs → p (get_or xs k d) ≡ false) → take i xs ≡ filter p xs
  passed [] zero le pass fail = refl
  passed [] (suc i) le pass fail = absurd (omega arith)
  passed (x ∷ xs) zero le pass fail = sym (none_passes (x ∷ xs) (λ k d lt. fail k d (omega arith) lt))
  passed (x ∷ xs) (suc i) le pass fail =
      let here : p x ≡ true = pass 0 x (omega arith) (omega arith) in
      rw here (ap (λ (l : List X). x ∷ l) (passed xs i (omega arith) (λ k d from lt. pass (suc k) d (omega arith) (omega arith))
      (λ k d from lt. fail (suc k) d (omega arith) (omega arith))))

  pub failed : (xs : List X) (i : ℕ) → i ≤ length xs → ((k : ℕ) (d : X) → 0 ≤ k → k < i → p (get_or xs k d) ≡ true)
      → ((k : ℕ) (d : X) → i ≤ k → k < length xs → p (get_or xs k d) ≡ false) → drop i xs ≡ filter (λ x. not (p x)) xs
  failed [] zero le pass fail = refl
  failed [] (suc i) le pass fail = absurd (omega arith)
  failed (x ∷ xs) zero le pass fail =
      let here : p x ≡ false = fail 0 x (omega arith) (omega arith) in
      rw here (ap (λ (l : List X). x ∷ l) (failed xs 0 (omega arith) (λ k d from lt. absurd (omega arith))
      (λ k d from lt. fail (suc k) d (omega arith) (omega arith))))
  failed (x ∷ xs) (suc i) le pass fail =
      let here : p x ≡ true = pass 0 x (omega arith) (omega arith) in
      rw here (failed xs i (omega arith) (λ k d from lt. pass (suc k) d (omega arith) (omega arith))
      (λ k d from lt. fail (suc k) d (omega arith) (omega arith)))

-- ---- where no archive has the name, those that aren't below it are above it

others_by : (n name : List ℕ) (o : Ordering) → slice_cmp nat_cmp n name ≡ o → bytes_eq n name ≡ false → not (is_lt o) ≡ is_below name n
others_by n name Less is differs = ap is_lt (sym (nat_list_cmp_total.antisymm name n ∙ ap ordering_reverse is))
others_by n name Equal is differs = let no : true ≡ false = sym (ap is_eq is) ∙ (is_eq-slice_cmp n name ∙ differs) in absurd (let l : ⊥ = cc in l)
others_by n name Greater is differs = ap is_lt (sym (nat_list_cmp_total.antisymm name n ∙ ap ordering_reverse is))

unnamed_first : (name : List ℕ) (a : ArchiveRef) (b : Bool) (rest : Option ArchiveRef) → cond b (Some a) rest ≡ None → (b ≡ false) × (rest ≡ None)
unnamed_first name a true rest e = cc
unnamed_first name a false rest e = (refl, e)

pub others_above : (name : List ℕ) (archives : List ArchiveRef) → archive_named name archives ≡ None
    → filter (λ a. not (is_below a.name name)) archives ≡ filter (λ a. is_below name a.name) archives
unfolding archive_named
others_above name [] none = refl
others_above name (a ∷ archives) none =
    let parts = unnamed_first name a (bytes_eq a.name name) (archive_named name archives) none in
    let here : not (is_below a.name name) ≡ is_below name a.name = others_by a.name name (slice_cmp nat_cmp a.name name) refl parts.0 in
    let rest = others_above name archives parts.1 in
    rw (here, rest) refl

-- ---- the laws of `with_archive`

pub with_increasing : (archives : List ArchiveRef) (entry : ArchiveRef) → AreIncreasing (archive_names archives)
    → AreIncreasing (archive_names (with_archive archives entry))
unfolding with_archive
with_increasing archives entry inc =
    joined (filter (λ a. is_below a.name entry.name) archives) entry (filter (λ a. is_below entry.name a.name) archives)
    (filter_increasing (λ a. is_below a.name entry.name) archives inc) (filter_below entry.name archives) (filter_above entry.name archives inc)

-- this, or else that
abbrev or_else : Option ArchiveRef → Option ArchiveRef → Option ArchiveRef
or_else None other = other
or_else (Some a) other = Some a

named_by : (b : Bool) (a : ArchiveRef) (first second : Option ArchiveRef)
    → cond b (Some a) (or_else first second) ≡ or_else (cond b (Some a) first) second
named_by true a first second = refl
named_by false a first second = refl

named_append : (name : List ℕ) (before behind : List ArchiveRef)
    → archive_named name (before ++ behind) ≡ or_else (archive_named name before) (archive_named name behind)
unfolding archive_named
named_append name [] behind = refl
named_append name (a ∷ before) behind =
    rw (named_append name before behind) (named_by (bytes_eq a.name name) a (archive_named name before) (archive_named name behind))

-- of archives that are kept by their names, a name has what it had where it is kept
kept_by : (name : List ℕ) (t : List ℕ → Bool) (a : ArchiveRef) (kept : List ArchiveRef) (all : Option ArchiveRef) (e k : Bool) → bytes_eq a.name name ≡ e
    → t a.name ≡ k → archive_named name kept ≡ cond (t name) all None
    → archive_named name (cond k (a ∷ kept) kept) ≡ cond (t name) (cond e (Some a) all) None
unfolding archive_named
kept_by name t a kept all true true is keeps rest =
    let same : a.name ≡ name = (bytes_eq-Decides a.name name).0 is in
    let also : t name ≡ true = ap t (sym same) ∙ keeps in
    rw (is, also) refl
kept_by name t a kept all true false is keeps rest =
    let same : a.name ≡ name = (bytes_eq-Decides a.name name).0 is in
    let also : t name ≡ false = ap t (sym same) ∙ keeps in
    rw also (rw also at rest)
kept_by name t a kept all false true is keeps rest = rw is rest
kept_by name t a kept all false false is keeps rest = rest

kept_named : (name : List ℕ) (t : List ℕ → Bool) (archives : List ArchiveRef)
    → archive_named name (filter (λ a. t a.name) archives) ≡ cond (t name) (archive_named name archives) None
unfolding archive_named
kept_named name t [] = elim (t name) as (λ b. archive_named name [] ≡ cond b (archive_named name []) None) [ true ↦ refl | false ↦ refl ]
kept_named name t (a ∷ archives) =
    kept_by name t a (filter (λ x. t x.name) archives) (archive_named name archives) (bytes_eq a.name name) (t a.name) refl refl
    (kept_named name t archives)

or_none : (all : Option ArchiveRef) → or_else all None ≡ all
or_none None = refl
or_none (Some a) = refl

with_by : (entry : ArchiveRef) (all : Option ArchiveRef) (o : Ordering)
    → or_else (cond (is_lt o) all None) (cond (is_eq o) (Some entry) (cond (is_lt (ordering_reverse o)) all None)) ≡ cond (is_eq o) (Some entry) all
with_by entry all Less = or_none all
with_by entry all Equal = refl
with_by entry all Greater = refl

pub with_named : (name : List ℕ) (archives : List ArchiveRef) (entry : ArchiveRef)
    → archive_named name (with_archive archives entry) ≡ cond (bytes_eq entry.name name) (Some entry) (archive_named name archives)
unfolding with_archive archive_named
with_named name archives entry =
    let all = archive_named name archives in
    let o = slice_cmp nat_cmp name entry.name in
    let before = filter (λ (a : ArchiveRef). is_below a.name entry.name) archives in
    let behind = filter (λ (a : ArchiveRef). is_below entry.name a.name) archives in
    let turned : slice_cmp nat_cmp entry.name name ≡ ordering_reverse o = nat_list_cmp_total.antisymm entry.name name in
    let first : archive_named name before ≡ cond (is_lt o) all None = kept_named name (λ n. is_below n entry.name) archives in
    let second : archive_named name behind ≡ cond (is_lt (ordering_reverse o)) all None =
    kept_named name (λ n. is_below entry.name n) archives ∙ ap (λ b. cond (is_lt b) all None) turned in
    let same : bytes_eq entry.name name ≡ is_eq o = bytes_eq_turned name entry.name ∙ sym (is_eq-slice_cmp name entry.name) in
    named_append name before (entry ∷ behind) ∙ rw (first, second, same) (with_by entry all o)

-- ---- the laws of `without_archive`

without_by : (b : Bool) (all : Option ArchiveRef) → cond (not b) all None ≡ cond b None all
without_by true all = refl
without_by false all = refl

pub without_named : (name other : List ℕ) (archives : List ArchiveRef)
    → archive_named other (without_archive archives name) ≡ cond (bytes_eq name other) None (archive_named other archives)
unfolding without_archive
without_named name other archives =
    kept_named other (λ n. not (bytes_eq n name)) archives
    ∙ (ap (λ (b : Bool). cond (not b) (archive_named other archives) None) (bytes_eq_turned name other)
    ∙ without_by (bytes_eq name other) (archive_named other archives))

-- those that are kept by another name are those without it
pub without_is : (archives kept : List ArchiveRef) (name : List ℕ) → kept ≡ filter (λ a. not (bytes_eq a.name name)) archives
    → kept ≡ without_archive archives name
unfolding without_archive
without_is archives kept name e = e

pub without_increasing : (archives : List ArchiveRef) (name : List ℕ) → AreIncreasing (archive_names archives)
    → AreIncreasing (archive_names (without_archive archives name))
unfolding without_archive
without_increasing archives name inc = filter_increasing (λ a. not (bytes_eq a.name name)) archives inc

-- ---- archives in byte order are told by what their names have

absent : (n : List ℕ) (archives : List ArchiveRef) → AreIncreasing (n ∷ archive_names archives) → archive_named n archives ≡ None
unfolding archive_named
absent n [] inc = refl
absent n (a ∷ archives) inc =
    let differs : bytes_eq a.name n ≡ false = bytes_eq_turned n a.name ∙ apart n a.name inc.0 in
    rw differs (absent n archives (below_next n a.name (archive_names archives) inc.0 inc.1))

has_first : (a : ArchiveRef) (archives : List ArchiveRef) → archive_named a.name (a ∷ archives) ≡ Some a
unfolding archive_named
has_first a archives = rw (itself a.name) refl

tail_by : (n : List ℕ) (a : ArchiveRef) (xs ys : List ArchiveRef) (b : Bool) → bytes_eq a.name n ≡ b → AreIncreasing (a.name ∷ archive_names xs)
    → AreIncreasing (a.name ∷ archive_names ys) → cond b (Some a) (archive_named n xs) ≡ cond b (Some a) (archive_named n ys)
    → archive_named n xs ≡ archive_named n ys
tail_by n a xs ys true is inc also same =
    let e : a.name ≡ n = (bytes_eq-Decides a.name n).0 is in
    subst (λ (m : List ℕ). archive_named m xs ≡ archive_named m ys) e (absent a.name xs inc ∙ sym (absent a.name ys also))
tail_by n a xs ys false is inc also same = same

first_by : (a b : ArchiveRef) (xs ys : List ArchiveRef) (o : Ordering) → slice_cmp nat_cmp a.name b.name ≡ o → AreIncreasing (a.name ∷ archive_names xs)
    → AreIncreasing (b.name ∷ archive_names ys) → ((n : List ℕ) → archive_named n (a ∷ xs) ≡ archive_named n (b ∷ ys)) → a ≡ b
first_by a b xs ys Less is inc also same =
    let no : Some a ≡ None = sym (has_first a xs) ∙ (same a.name ∙ absent a.name (b ∷ ys) (is, also)) in absurd (let l : ⊥ = cc in l)
first_by a b xs ys Equal is inc also same =
    let e : a.name ≡ b.name = same_name a.name b.name is in
    let told : Some a ≡ Some b = sym (has_first a xs) ∙ (same a.name ∙ (ap (λ (m : List ℕ). archive_named m (b ∷ ys)) e ∙ has_first b ys)) in cc
first_by a b xs ys Greater is inc also same =
    let turned : slice_cmp nat_cmp b.name a.name ≡ Less = nat_list_cmp_total.antisymm b.name a.name ∙ ap ordering_reverse is in
    let no : Some b ≡ None = sym (has_first b ys) ∙ (sym (same b.name) ∙ absent b.name (a ∷ xs) (turned, inc)) in absurd (let l : ⊥ = cc in l)

one_listed : (xs ys : List ArchiveRef) → AreIncreasing (archive_names xs) → AreIncreasing (archive_names ys)
    → ((n : List ℕ) → archive_named n xs ≡ archive_named n ys) → xs ≡ ys
unfolding archive_named
one_listed [] [] inc also same = refl
one_listed [] (b ∷ ys) inc also same = let no : None ≡ Some b = same b.name ∙ has_first b ys in absurd (let l : ⊥ = cc in l)
one_listed (a ∷ xs) [] inc also same = let no : Some a ≡ None = sym (has_first a xs) ∙ same a.name in absurd (let l : ⊥ = cc in l)
one_listed (a ∷ xs) (b ∷ ys) inc also same =
    let e : b ≡ a = sym (first_by a b xs ys (slice_cmp nat_cmp a.name b.name) refl inc also same) in
    let moved : AreIncreasing (a.name ∷ archive_names ys) = subst (λ (x : ArchiveRef). AreIncreasing (x.name ∷ archive_names ys)) e also in
    let alike : (n : List ℕ) → archive_named n (a ∷ xs) ≡ archive_named n (a ∷ ys) =
    subst (λ (x : ArchiveRef). (n : List ℕ) → archive_named n (a ∷ xs) ≡ archive_named n (x ∷ ys)) e same in
    let rest : xs ≡ ys = one_listed xs ys inc.1 also.1 (λ n. tail_by n a xs ys (bytes_eq a.name n) refl inc moved (alike n)) in
    rw (e, rest) refl

pub with_only : (archives : List ArchiveRef) (entry : ArchiveRef) (all : List ArchiveRef) → AreIncreasing (archive_names archives)
    → AreIncreasing (archive_names all)
    → ((name : List ℕ) → archive_named name all ≡ cond (bytes_eq entry.name name) (Some entry) (archive_named name archives))
    → all ≡ with_archive archives entry
with_only archives entry all inc also same =
    one_listed all (with_archive archives entry) also (with_increasing archives entry inc) (λ name. same name ∙ sym (with_named name archives entry))

-- ---- whether a name has an archive

some_by : (a : ArchiveRef) (b : Bool) (rest : Option ArchiveRef) → b || is_some rest ≡ is_some (cond b (Some a) rest)
some_by a true rest = refl
some_by a false rest = refl

pub named_any : (name : List ℕ) (archives : List ArchiveRef) → list_any (λ a. bytes_eq a.name name) archives ≡ is_some (archive_named name archives)
unfolding archive_named
named_any name [] = refl
named_any name (a ∷ archives) = rw (named_any name archives) (some_by a (bytes_eq a.name name) (archive_named name archives))

-- ---- an archive that is put at its place

pub placed : (archives : List ArchiveRef) (entry : ArchiveRef) (i : ℕ) → archive_named entry.name archives ≡ None
    → take i archives ≡ filter (λ a. is_below a.name entry.name) archives → drop i archives ≡ filter (λ a. not (is_below a.name entry.name)) archives
    → insert archives i entry ≡ with_archive archives entry
unfolding with_archive
placed archives entry i none first rest = rw (first, rest, others_above entry.name archives none) refl
