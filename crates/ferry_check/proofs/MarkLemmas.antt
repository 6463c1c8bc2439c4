-- Lemmas on specs/Steps.antt: chunks that are marked, and contents that are right.
use Rattle.std.proofs.Common.{◌≡◌, ◌⊎◌, inl, inr, ℕ, zero, suc, ◌+◌, ◌<◌, ◌≤◌, Bool, true, false, cond, ◌||◌, List, [], ◌∷◌, ◌++◌, length, take}
use Rattle.std.proofs.Common.{drop, get_or, get_or-drop, Option, Some, None, MatchOption, IfSome, option_map, refl, sym, ◌∙◌, ap, subst, arith}
use Rattle.std.specs.Cmp.{tied_itself}
use Rattle.std.specs.Cmp.Lexicographic.{nat_list_cmp_total}
use Rattle.std.specs.FinMap.{slice_cmp-IsAntisymmetric, nat_cmp-IsAntisymmetric}
use Rattle.std.specs.List.{AllByRecursion}
use Rattle.std.specs.Ordering.{is_eq, eq_by_cmp}
use Rattle.std.specs.declared.cmp.Ordering.{Ordering}
use Rattle.std.specs.declared.cmp.Ordering.TheVariants.{Less, Equal, Greater}
use Rattle.std.proofs.lemmas.List.{take_more, drop_more, take-append-drop}
use Rattle.std.proofs.lemmas.List.Folds.{list_any-append}
use Rattle.ferry_disk.specs.Files.{Files}
use Rattle.ferry_item.specs.declared.item.ChunkRef.{ChunkRef}
use Rattle.ferry_log.specs.Live.{key_cmp}
use Rattle.ferry_repo.specs.Opening.{RepoState}
use Rattle.ferry_repo.specs.declared.fault.RepoFault.{RepoFault}
use Rattle.ferry_repo.specs.declared.fault.RepoFault.TheVariants as Fault
use Rattle.ferry_check.specs.Report.{is_among, ids_in}
use Rattle.ferry_check.specs.Steps.{Known, KnowsSizes, HasLength, HasMarks, Marks, marked, IsRight, IsWrong, AreRight, RefusesUse, RefusesUses}
use Rattle.ferry_check.specs.Verify.{IsChunk}
use Rattle.ferry_check.specs.declared.chunks.Chunk.{Chunk}

-- ---- keys

is_tied : (o : Ordering) → is_eq o ≡ true → o ≡ Equal
is_tied Equal e = refl
is_tied Less e = cc
is_tied Greater e = cc

pub same_key : (a b : List ℕ) → eq_by_cmp key_cmp a b ≡ true → a ≡ b
same_key a b e = slice_cmp-IsAntisymmetric nat_cmp-IsAntisymmetric a b (is_tied (key_cmp a b) e)

pub key_itself : (a : List ℕ) → eq_by_cmp key_cmp a a ≡ true
key_itself a = ap is_eq (tied_itself nat_list_cmp_total a)

-- a test, either way
pub either_way : (b : Bool) → (b ≡ true) ⊎ (b ≡ false)
either_way true = inl refl
either_way false = inr refl

-- ---- marked

or_assoc : (a b c : Bool) → ((a || b) || c) ≡ (a || (b || c))
or_assoc true b c = refl
or_assoc false b c = refl

or_none : (a : Bool) → (a || false) ≡ a
or_none true = refl
or_none false = refl

or_all : (a : Bool) → (a || true) ≡ true
or_all true = refl
or_all false = refl

abbrev sized : ℕ → Bool → Chunk
sized size used = record { size = size; used = used }

marked_none : (c : Chunk) → marked false c ≡ c
marked_none c = ap (sized c.size) (or_none c.used)

marked_all : (c : Chunk) → marked true c ≡ sized c.size true
marked_all c = ap (sized c.size) (or_all c.used)

none_at : (o : Option Chunk) (t : Bool) → t ≡ false → o ≡ option_map (λ c. marked t c) o
none_at None t e = refl
none_at (Some c) t e = ap Some (sym (ap (λ b. marked b c) e ∙ marked_none c))

twice_at : (s t : Bool) (o : Option Chunk) → option_map (λ c. marked t c) (option_map (λ c. marked s c) o) ≡ option_map (λ c. marked (s || t) c) o
twice_at s t None = refl
twice_at s t (Some c) = ap Some (ap (sized c.size) (or_assoc c.used s t))

-- ---- Marks

pub marks_none : (known : Known) → Marks [] known known
marks_none known id = none_at (known id) false refl

pub marks_then : (a b c : Known) (xs ys : List (List ℕ)) → Marks xs a b → Marks ys b c → Marks (xs ++ ys) a c
marks_then a b c xs ys h g id =
    g id
    ∙ (ap (option_map (λ k. marked (is_among id ys) k)) (h id)
    ∙ (twice_at (is_among id xs) (is_among id ys) (a id)
    ∙ ap (λ t. option_map (λ k. marked t k) (a id)) (sym (list_any-append (λ o. eq_by_cmp key_cmp o id) xs ys))))

known_at : (old new : Known) (key q : List ℕ) (chunk : Chunk) → old key ≡ Some chunk
    → new q ≡ cond (eq_by_cmp key_cmp key q) (Some (sized chunk.size true)) (old q) → (b : Bool) → eq_by_cmp key_cmp key q ≡ b
    → new q ≡ option_map (λ c. marked (b || false) c) (old q)
known_at old new key q chunk is now true e =
    let here : old q ≡ Some chunk = ap old (sym (same_key key q e)) ∙ is in
    now ∙ (ap (λ t. cond t (Some (sized chunk.size true)) (old q)) e
    ∙ (ap Some (sym (marked_all chunk)) ∙ ap (option_map (λ c. marked true c)) (sym here)))
known_at old new key q chunk is now false e =
    now ∙ (ap (λ t. cond t (Some (sized chunk.size true)) (old q)) e ∙ none_at (old q) false refl)

-- a chunk that is known is marked
pub mark_known : (old new : Known) (key : List ℕ) (chunk : Chunk) → old key ≡ Some chunk
    → ((q : List ℕ) → new q ≡ cond (eq_by_cmp key_cmp key q) (Some (sized chunk.size true)) (old q)) → Marks (key ∷ []) old new
mark_known old new key chunk is now q = known_at old new key q chunk is (now q) (eq_by_cmp key_cmp key q) refl

unknown_at : (known : Known) (key q : List ℕ) → known key ≡ None → (b : Bool) → eq_by_cmp key_cmp key q ≡ b
    → known q ≡ option_map (λ c. marked (b || false) c) (known q)
unknown_at known key q is true e =
    let here : known q ≡ None = ap known (sym (same_key key q e)) ∙ is in
    here ∙ ap (option_map (λ c. marked true c)) (sym here)
unknown_at known key q is false e = none_at (known q) false refl

-- where nothing is known, nothing is marked
pub mark_unknown : (known : Known) (key : List ℕ) → known key ≡ None → Marks (key ∷ []) known known
mark_unknown known key is q = unknown_at known key q is (eq_by_cmp key_cmp key q) refl

-- one id more is marked
pub marks_more : (a b c : Known) (ids : List (List ℕ)) (place : ℕ) (d : List ℕ) → place < length ids → Marks (take place ids) a b
    → Marks (get_or ids place d ∷ []) b c → Marks (take (place + 1) ids) a c
marks_more a b c ids place d lt h g =
    subst (λ (is : List (List ℕ)). Marks is a c) (sym (take_more ids place d lt)) (marks_then a b c (take place ids) (get_or ids place d ∷ []) h g)

-- ---- what marks leave

sizes_at : (files : Files) (repo : RepoState) (id : List ℕ) (o p : Option Chunk) (t : Bool) → p ≡ option_map (λ c. marked t c) o
    → MatchOption o (IsChunk repo.log id → ⊥) (λ chunk. HasLength files repo id chunk.size)
    → MatchOption p (IsChunk repo.log id → ⊥) (λ chunk. HasLength files repo id chunk.size)
sizes_at files repo id None p t e h = subst (λ k. MatchOption k (IsChunk repo.log id → ⊥) (λ chunk. HasLength files repo id chunk.size)) (sym e) h
sizes_at files repo id (Some c) p t e h =
    subst (λ k. MatchOption k (IsChunk repo.log id → ⊥) (λ chunk. HasLength files repo id chunk.size)) (sym e) h

-- lengths stay
pub sizes_kept : (files : Files) (repo : RepoState) (a b : Known) (ids : List (List ℕ)) → Marks ids a b → KnowsSizes files repo a
    → KnowsSizes files repo b
sizes_kept files repo a b ids h k id = sizes_at files repo id (a id) (b id) (is_among id ids) (h id) (k id)

marks_at : (o p : Option Chunk) (t : Bool) → p ≡ option_map (λ c. marked t c) o → IfSome o (λ c. c.used ≡ false) → IfSome p (λ c. c.used ≡ t)
marks_at None p t e h = subst (λ k. IfSome k (λ c. c.used ≡ t)) (sym e) tt
marks_at (Some c) p t e h = subst (λ k. IfSome k (λ c. c.used ≡ t)) (sym e) (ap (λ u. u || t) h)

-- those that are marked are those of these ids
pub has_marks : (a b : Known) (ids : List (List ℕ)) → Marks ids a b → HasMarks [] a → HasMarks ids b
has_marks a b ids h none id = marks_at (a id) (b id) (is_among id ids) (h id) (none id)

-- ---- what was known before

before_at : (o p : Option Chunk) (t : Bool) (found : Chunk) → p ≡ option_map (λ c. marked t c) o → p ≡ Some found
    → (c : Chunk) × (o ≡ Some c) × (c.size ≡ found.size)
before_at None p t found e is = absurd (let no : ⊥ = cc in no)
before_at (Some c) p t found e is =
    let same : marked t c ≡ found = cc in
    (c, refl, ap (λ (k : Chunk). k.size) same)

pub right_before : (a b : Known) (ids : List (List ℕ)) (chunk : ChunkRef) → Marks ids a b → IsRight b chunk → IsRight a chunk
right_before a b ids chunk h r =
    let k = before_at (a chunk.id) (b chunk.id) (is_among chunk.id ids) r.found (h chunk.id) r.is in
    record { found = k.0; is = k.1; size = k.2 ∙ r.size }

wrong_before : (a b : Known) (ids : List (List ℕ)) (chunk : ChunkRef) → Marks ids a b → IsWrong b chunk → IsWrong a chunk
wrong_before a b ids chunk h r =
    let k = before_at (a chunk.id) (b chunk.id) (is_among chunk.id ids) r.found (h chunk.id) r.is in
    record { found = k.0; is = k.1; size = λ same. r.size (sym k.2 ∙ same) }

missing_at : (o p : Option Chunk) (t : Bool) → p ≡ option_map (λ c. marked t c) o → p ≡ None → o ≡ None
missing_at None p t e is = refl
missing_at (Some c) p t e is = absurd (let no : ⊥ = cc in no)

pub refuse_before : (a b : Known) (ids : List (List ℕ)) (chunk : ChunkRef) (fault : RepoFault) → Marks ids a b → RefusesUse b chunk fault
    → RefusesUse a chunk fault
refuse_before a b ids chunk (Fault.Missing named) h r = (r.0, missing_at (a chunk.id) (b chunk.id) (is_among chunk.id ids) (h chunk.id) r.1)
refuse_before a b ids chunk (Fault.Size named) h r = (r.0, wrong_before a b ids chunk h r.1)
refuse_before a b ids chunk Fault.NoCommit h r = absurd r
refuse_before a b ids chunk (Fault.Damaged segment at) h r = absurd r
refuse_before a b ids chunk (Fault.Config f) h r = absurd r
refuse_before a b ids chunk (Fault.Key f) h r = absurd r
refuse_before a b ids chunk (Fault.Blob id f) h r = absurd r
refuse_before a b ids chunk (Fault.Manifest f) h r = absurd r
refuse_before a b ids chunk (Fault.Archive id f) h r = absurd r
refuse_before a b ids chunk (Fault.Item id f) h r = absurd r
refuse_before a b ids chunk (Fault.KeyFile f) h r = absurd r
refuse_before a b ids chunk (Fault.Other file config) h r = absurd r
refuse_before a b ids chunk Fault.NoKey h r = absurd r
refuse_before a b ids chunk Fault.Device h r = absurd r
refuse_before a b ids chunk Fault.Memory h r = absurd r

-- ---- lists

pub all_then : {X : Type 0} (P : X → Type 0) (xs ys : List X) → AllByRecursion P xs → AllByRecursion P ys → AllByRecursion P (xs ++ ys)
all_then P [] ys h g = g
all_then P (x ∷ xs) ys h g = (h.0, all_then P xs ys h.1 g)

pub all_more : {X : Type 0} (P : X → Type 0) (xs : List X) (place : ℕ) (d : X) → place < length xs → AllByRecursion P (take place xs)
    → P (get_or xs place d) → AllByRecursion P (take (place + 1) xs)
all_more P xs place d lt h g =
    subst (AllByRecursion P) (sym (take_more xs place d lt)) (all_then P (take place xs) (get_or xs place d ∷ []) h (g, tt))

-- what holds of the first, and of so many more
pub all_on : {X : Type 0} (P : X → Type 0) (xs : List X) (place n : ℕ) (d : X) → place + n ≤ length xs → AllByRecursion P (take place xs)
    → ((k : ℕ) → k < n → P (get_or (drop place xs) k d)) → AllByRecursion P (take (place + n) xs)
all_on {X} P xs place zero d within front later =
    let same : place + 0 ≡ place = omega arith in
    subst (λ (m : ℕ). AllByRecursion P (take m xs)) (sym same) front
all_on {X} P xs place (suc n) d within front later =
    let more : place + n + 1 ≡ place + suc n = omega arith in
    subst (λ (m : ℕ). AllByRecursion P (take m xs)) more
    (all_more P xs (place + n) d (omega (arith, within)) (all_on P xs place n d (omega (arith, within)) front (λ k low. later k (omega (arith, low))))
    (subst P (get_or-drop place xs n d) (later n (omega arith))))

-- a list, at one of its places
pub parted : {X : Type 0} (xs : List X) (place : ℕ) (d : X) → place < length xs → xs ≡ take place xs ++ (get_or xs place d ∷ drop (place + 1) xs)
parted xs place d lt = sym (take-append-drop place xs) ∙ ap (λ k. take place xs ++ k) (drop_more xs place d lt)

-- ---- the chunks of an item

ids_in-append : (xs ys : List ChunkRef) → ids_in (xs ++ ys) ≡ ids_in xs ++ ids_in ys
ids_in-append [] ys = refl
ids_in-append (x ∷ xs) ys = ap (λ k. x.id ∷ k) (ids_in-append xs ys)

pub refs_more : (a b c : Known) (refs : List ChunkRef) (place : ℕ) (d : ChunkRef) → place < length refs → Marks (ids_in (take place refs)) a b
    → Marks ((get_or refs place d).id ∷ []) b c → Marks (ids_in (take (place + 1) refs)) a c
refs_more a b c refs place d lt h g =
    let ids : ids_in (take (place + 1) refs) ≡ ids_in (take place refs) ++ ((get_or refs place d).id ∷ []) =
    ap ids_in (take_more refs place d lt) ∙ ids_in-append (take place refs) (get_or refs place d ∷ []) in
    subst (λ (is : List (List ℕ)). Marks is a c) (sym ids) (marks_then a b c (ids_in (take place refs)) ((get_or refs place d).id ∷ []) h g)

pub refs_refused : (a b : Known) (refs : List ChunkRef) (place : ℕ) (d : ChunkRef) (fault : RepoFault) → place < length refs
    → Marks (ids_in (take place refs)) a b → AreRight a (take place refs) → RefusesUse b (get_or refs place d) fault → RefusesUses a refs fault
refs_refused a b refs place d fault lt h right refused = record {
  before = take place refs;
  chunk = get_or refs place d;
  behind = drop (place + 1) refs;
  chunks_are = parted refs place d lt;
  right = right;
  refused = refuse_before a b (ids_in (take place refs)) (get_or refs place d) fault h refused;
}
