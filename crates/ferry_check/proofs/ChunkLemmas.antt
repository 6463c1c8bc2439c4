-- Lemmas on specs/Report.antt and specs/Steps.antt: the ids of the live chunks as they are listed, and the chunks as they are opened.
use Rattle.std.proofs.Common.{◌≡◌, ◌≢◌, ◌⊎◌, ◌↔◌, inl, inr, ℕ, ◌+◌, ◌<◌, List, [], ◌∷◌, ◌++◌}
use Rattle.std.proofs.Common.{Bool, true, false, cond, ◌||◌, not, length, take, drop}
use Rattle.std.proofs.Common.{get_or, get_or-drop, Option, Some, None, MatchOption, IfSome, IsSome, refl, sym, ◌∙◌, ap, subst, arith}
use Rattle.std.specs.Cmp.{tied_itself}
use Rattle.std.specs.Cmp.Lexicographic.{nat_list_cmp_total}
use Rattle.std.specs.FinMap.{slice_cmp-IsAntisymmetric, nat_cmp-IsAntisymmetric}
use Rattle.std.specs.List.{AllByRecursion}
use Rattle.std.specs.List.Sorted.{IsStrictlySortedBy}
use Rattle.std.specs.Ordering.{is_lt, eq_by_cmp, ordering_reverse}
use Rattle.std.specs.declared.cmp.Ordering.{Ordering}
use Rattle.std.specs.declared.cmp.Ordering.TheVariants.{Less, Equal, Greater}
use Rattle.std.proofs.lemmas.List.{get_or_default, length-drop, take_more}
use Rattle.std.proofs.lemmas.List.Folds.{list_any-append}
use Rattle.ferry_base.specs.Limits.{zero_id}
use Rattle.ferry_disk.specs.Device.{Told, told_files, heard}
use Rattle.ferry_disk.specs.Files.{Files}
use Rattle.ferry_disk.proofs.DeviceLemmas.{told_any, told_then, told_with}
use Rattle.ferry_log.specs.Live.{key_cmp}
use Rattle.ferry_log.specs.State.{LogState, IsAbove, IsLeastAbove}
use Rattle.ferry_log.specs.declared.place.Place.{Place}
use Rattle.ferry_repo.specs.Lengths.{HasLength as HasOpened, HaveLengths, RefusesOne}
use Rattle.ferry_repo.specs.Objects.{HoldsChunk, RefusesChunk}
use Rattle.ferry_repo.specs.Opening.{RepoState}
use Rattle.ferry_repo.specs.declared.fault.RepoFault.{RepoFault}
use Rattle.ferry_check.specs.Report.{is_among, AreChunks}
use Rattle.ferry_check.specs.Steps.{Known, Keeps, KnowsOpened, HasLength, OpensSoFar, RefusesFirst, fresh}
use Rattle.ferry_check.specs.Verify.{IsChunk, Opens}
use Rattle.ferry_check.specs.declared.chunks.Chunk.{Chunk}
use Rattle.std.specs.Str.{bytes_eq}
use Rattle.ferry_check.proofs.ArchiveLemmas.{zero_or}
use Rattle.ferry_check.proofs.MarkLemmas.{same_key, key_itself, all_then, all_more, all_on, parted}

-- ---- the order of ids

pub turned : (a b : List ℕ) → key_cmp a b ≡ ordering_reverse (key_cmp b a)
turned a b = nat_list_cmp_total.antisymm a b

pub not_itself : (a : List ℕ) → key_cmp a a ≡ Less → ⊥
not_itself a e = let both : true ≡ false = sym (ap is_lt e) ∙ ap is_lt (tied_itself nat_list_cmp_total a) in cc

pub not_both : (a b : List ℕ) → key_cmp a b ≡ Less → key_cmp b a ≡ Less → ⊥
not_both a b e f = not_itself a (nat_list_cmp_total.trans a b a e f)

same_id : (a b : List ℕ) → key_cmp a b ≡ Equal → a ≡ b
same_id a b e = slice_cmp-IsAntisymmetric nat_cmp-IsAntisymmetric a b e

below_by : (a i k : List ℕ) (o : Ordering) → key_cmp a i ≡ o → (key_cmp a i ≡ Less → ⊥) → key_cmp a k ≡ Less → key_cmp i k ≡ Less
below_by a i k Less e off less = absurd (off e)
below_by a i k Equal e off less = subst (λ j. key_cmp j k ≡ Less) (same_id a i e) less
below_by a i k Greater e off less = nat_list_cmp_total.trans i a k (turned i a ∙ ap ordering_reverse e) less

-- an id that isn't above the last is below one that is
below_least : (last : Option (List ℕ)) (i k : List ℕ) → (IsAbove last i → ⊥) → IsAbove last k → key_cmp i k ≡ Less
below_least None i k off on = absurd (off tt)
below_least (Some a) i k off on = below_by a i k (key_cmp a i) refl off on

-- and isn't above that one
stays_below : (last : Option (List ℕ)) (i k : List ℕ) → (IsAbove last i → ⊥) → IsAbove last k → key_cmp k i ≡ Less → ⊥
stays_below last i k off on less = not_both i k (below_least last i k off on) less

above_by : (a i : List ℕ) (o : Ordering) → key_cmp a i ≡ o → (key_cmp a i ≡ Less) ⊎ (key_cmp a i ≡ Less → ⊥)
above_by a i Less e = inl e
above_by a i Equal e = inr (λ f. let no : ⊥ = cc in no)
above_by a i Greater e = inr (λ f. let no : ⊥ = cc in no)

above_or : (last : Option (List ℕ)) (i : List ℕ) → IsAbove last i ⊎ (IsAbove last i → ⊥)
above_or None i = inl tt
above_or (Some a) i = above_by a i (key_cmp a i) refl

-- an id that is neither below nor above another is that one
neither : (a b : List ℕ) (o : Ordering) → key_cmp a b ≡ o → (key_cmp a b ≡ Less → ⊥) → (key_cmp b a ≡ Less → ⊥) → eq_by_cmp key_cmp a b ≡ true
neither a b Less e off back = absurd (off e)
neither a b Equal e off back = subst (λ j. eq_by_cmp key_cmp a j ≡ true) (same_id a b e) (key_itself a)
neither a b Greater e off back = absurd (back (turned b a ∙ ap ordering_reverse e))

-- ---- is_among

pub or_true : (a b : Bool) → (a || b) ≡ true → (a ≡ true) ⊎ (b ≡ true)
or_true true b e = inl refl
or_true false b e = inr e

pub true_or : (a b : Bool) → (a ≡ true) ⊎ (b ≡ true) → (a || b) ≡ true
true_or true b h = refl
true_or false b (inl e) = absurd (let no : ⊥ = cc in no)
true_or false b (inr e) = e

among-append : (id : List ℕ) (xs ys : List (List ℕ)) → is_among id (xs ++ ys) ≡ (is_among id xs || is_among id ys)
among-append id xs ys = list_any-append (λ o. eq_by_cmp key_cmp o id) xs ys

among_front : (id : List ℕ) (xs ys : List (List ℕ)) → is_among id xs ≡ true → is_among id (xs ++ ys) ≡ true
among_front id xs ys e = among-append id xs ys ∙ true_or (is_among id xs) (is_among id ys) (inl e)

pub among_behind : (id : List ℕ) (xs ys : List (List ℕ)) → is_among id ys ≡ true → is_among id (xs ++ ys) ≡ true
among_behind id xs ys e = among-append id xs ys ∙ true_or (is_among id xs) (is_among id ys) (inr e)

among_cases : (id : List ℕ) (xs ys : List (List ℕ)) → is_among id (xs ++ ys) ≡ true → (is_among id xs ≡ true) ⊎ (is_among id ys ≡ true)
among_cases id xs ys e = or_true (is_among id xs) (is_among id ys) (sym (among-append id xs ys) ∙ e)

among_one : (id k : List ℕ) → eq_by_cmp key_cmp k id ≡ true → is_among id (k ∷ []) ≡ true
among_one id k e = true_or (eq_by_cmp key_cmp k id) false (inl e)

one_by : (b : Bool) → (b ≡ true) ⊎ (false ≡ true) → b ≡ true
one_by b (inl e) = e
one_by b (inr e) = absurd (let no : ⊥ = cc in no)

one_among : (id k : List ℕ) → is_among id (k ∷ []) ≡ true → k ≡ id
one_among id k e = same_key k id (one_by (eq_by_cmp key_cmp k id) (or_true (eq_by_cmp key_cmp k id) false e))

-- what is true of all is true of one among them
pub all_at : (P : List ℕ → Type 0) (xs : List (List ℕ)) (id : List ℕ) → AllByRecursion P xs → is_among id xs ≡ true → P id
all_at P [] id all e = absurd (let no : ⊥ = cc in no)
all_at P (x ∷ xs) id all e = elim (or_true (eq_by_cmp key_cmp x id) (is_among id xs) e) [
  | inl same ↦ subst P (same_key x id same) all.0
  | inr later ↦ all_at P xs id all.1 later
]

-- ---- the ids so far

-- These are the live chunks that aren't above the last one.
pub record Lists (log : LogState) (last : Option (List ℕ)) (ids : List (List ℕ)) : Type 0 where
  pub sorted : IsStrictlySortedBy key_cmp ids
  pub below : AllByRecursion (λ i. IsAbove last i → ⊥) ids
  pub each : (id : List ℕ) → (is_among id ids ≡ true) ↔ (IsChunk log id × (IsAbove last id → ⊥))

none_sorted : IsStrictlySortedBy key_cmp []
unfolding IsStrictlySortedBy
none_sorted = tt

pub lists_none : (log : LogState) → Lists log None []
lists_none log = record {
  sorted = none_sorted;
  below = tt;
  each = λ id. (λ e. absurd (let no : ⊥ = cc in no), λ h. absurd (h.1 tt));
}

sorted_more : (ids : List (List ℕ)) (k : List ℕ) → IsStrictlySortedBy key_cmp ids → AllByRecursion (λ i. key_cmp i k ≡ Less) ids
    → IsStrictlySortedBy key_cmp (ids ++ (k ∷ []))
unfolding IsStrictlySortedBy
sorted_more [] k s a = (tt, tt)
sorted_more (i ∷ is) k s a = (all_then (λ j. key_cmp i j ≡ Less) is (k ∷ []) s.0 (a.0, tt), sorted_more is k s.1 a.1)

all_map : (P Q : List ℕ → Type 0) → ((i : List ℕ) → P i → Q i) → (ids : List (List ℕ)) → AllByRecursion P ids → AllByRecursion Q ids
all_map P Q step [] all = tt
all_map P Q step (i ∷ is) all = (step i all.0, all_map P Q step is all.1)

least_or_not : (log : LogState) (last : Option (List ℕ)) (k : List ℕ) (p : Place) → IsLeastAbove log last (Some (k, p)) → (id : List ℕ)
    → IsChunk log id → (key_cmp k id ≡ Less → ⊥) → IsAbove last id → eq_by_cmp key_cmp k id ≡ true
least_or_not log last k p least id chunk off above = neither k id (key_cmp k id) refl off (least.2 id chunk.live above)

-- the next live id is a chunk's
pub lists_more : (log : LogState) (last : Option (List ℕ)) (k : List ℕ) (p : Place) (ids : List (List ℕ)) → IsLeastAbove log last (Some (k, p))
    → Lists log last ids → k ≢ zero_id → Lists log (Some k) (ids ++ (k ∷ []))
lists_more log last k p ids least l chunk = record {
  sorted = sorted_more ids k l.sorted (all_map (λ i. IsAbove last i → ⊥) (λ i. key_cmp i k ≡ Less) (λ i off. below_least last i k off least.1) ids l.below);
  below = all_then (λ i. key_cmp k i ≡ Less → ⊥) ids (k ∷ [])
      (all_map (λ i. IsAbove last i → ⊥) (λ i. key_cmp k i ≡ Less → ⊥) (λ i off. stays_below last i k off least.1) ids l.below) (not_itself k, tt);
  each = λ id. (
    λ e. elim (among_cases id ids (k ∷ []) e) [
      | inl there ↦ let h = (l.each id).0 there in (h.0, stays_below last id k h.1 least.1)
      | inr here ↦
          let is = one_among id k here in (
            subst (λ j. IsChunk log j) is (record { chunk = chunk; live = subst IsSome (sym least.0) refl }),
            subst (λ j. key_cmp k j ≡ Less → ⊥) is (not_itself k),
          )
    ],
    λ h. elim (above_or last id) [
      | inl above ↦ among_behind id ids (k ∷ []) (among_one id k (least_or_not log last k p least id h.0 h.1 above))
      | inr off ↦ among_front id ids (k ∷ []) ((l.each id).1 (h.0, off))
    ],
  );
}

-- the next live id is the manifest's
pub lists_zero : (log : LogState) (last : Option (List ℕ)) (k : List ℕ) (p : Place) (ids : List (List ℕ)) → IsLeastAbove log last (Some (k, p))
    → Lists log last ids → k ≡ zero_id → Lists log (Some k) ids
lists_zero log last k p ids least l zero = record {
  sorted = l.sorted;
  below = all_map (λ i. IsAbove last i → ⊥) (λ i. key_cmp k i ≡ Less → ⊥) (λ i off. stays_below last i k off least.1) ids l.below;
  each = λ id. (
    λ there. let h = (l.each id).0 there in (h.0, stays_below last id k h.1 least.1),
    λ h. elim (above_or last id) [
      | inl above ↦ absurd (h.0.chunk (sym (same_key k id (least_or_not log last k p least id h.0 h.1 above)) ∙ zero))
      | inr off ↦ (l.each id).1 (h.0, off)
    ],
  );
}

next_by : (log : LogState) (last : Option (List ℕ)) (least : List ℕ × Place) (ids new : List (List ℕ)) → IsLeastAbove log last (Some least)
    → Lists log last ids → (least.0 ≢ zero_id → new ≡ ids ++ (least.0 ∷ [])) → (least.0 ≡ zero_id → new ≡ ids)
    → (least.0 ≡ zero_id) ⊎ (least.0 ≢ zero_id) → Lists log (Some least.0) new
next_by log last least ids new h l chunk zero (inl is) =
    subst (λ (n : List (List ℕ)). Lists log (Some least.0) n) (sym (zero is)) (lists_zero log last least.0 least.1 ids h l is)
next_by log last least ids new h l chunk zero (inr not) =
    subst (λ (n : List (List ℕ)). Lists log (Some least.0) n) (sym (chunk not)) (lists_more log last least.0 least.1 ids h l not)

pub lists_next : (log : LogState) (last : Option (List ℕ)) (least : List ℕ × Place) (ids new : List (List ℕ)) → IsLeastAbove log last (Some least)
    → Lists log last ids → (least.0 ≢ zero_id → new ≡ ids ++ (least.0 ∷ [])) → (least.0 ≡ zero_id → new ≡ ids) → Lists log (Some least.0) new
lists_next log last least ids new h l chunk zero =
    next_by log last least ids new h l chunk zero (zero_or least.0 (bytes_eq least.0 zero_id) refl)

-- no live id is above the last
pub lists_all : (log : LogState) (last : Option (List ℕ)) (ids : List (List ℕ)) → IsLeastAbove log last None → Lists log last ids → AreChunks log ids
lists_all log last ids none l = record {
  sorted = l.sorted;
  each = λ id. (λ e. ((l.each id).0 e).0, λ chunk. (l.each id).1 (chunk, λ above. none id chunk.live above));
}

-- ---- the chunks that are opened so far

module _ (files : Files) (repo : RepoState) where
  opened_at : (front : List (List ℕ)) (key q : List ℕ) (chunk : Chunk) (content : List ℕ) (old new : Option Chunk)
      → HoldsChunk files repo.log repo.keys key content
      → chunk.size ≡ length content
      → MatchOption old (is_among q front ≡ false) (λ c. (is_among q front ≡ true) × HasLength files repo q c.size)
      → (b : Bool) → eq_by_cmp key_cmp key q ≡ b → new ≡ cond b (Some chunk) old
      → MatchOption new (is_among q (front ++ (key ∷ [])) ≡ false) (λ c. (is_among q (front ++ (key ∷ [])) ≡ true) × HasLength files repo q c.size)
  opened_at front key q chunk content old new holds size h true e is =
      subst (λ o. MatchOption o (is_among q (front ++ (key ∷ [])) ≡ false) (λ c. (is_among q (front ++ (key ∷ [])) ≡ true) × HasLength files repo q c.size))
      (sym is) (
        among_behind q front (key ∷ []) (among_one q key e),
        subst (λ j. HasLength files repo j chunk.size) (same_key key q e) (record { content = content; holds = holds; size_is = size }),
      )
  opened_at front key q chunk content None new holds size h false e is =
      subst (λ o. MatchOption o (is_among q (front ++ (key ∷ [])) ≡ false) (λ c. (is_among q (front ++ (key ∷ [])) ≡ true) × HasLength files repo q c.size))
      (sym is) (among-append q front (key ∷ []) ∙ (ap (λ b. b || (eq_by_cmp key_cmp key q || false)) h ∙ ap (λ b. b || false) e))
  opened_at front key q chunk content (Some c) new holds size h false e is =
      subst (λ o. MatchOption o (is_among q (front ++ (key ∷ [])) ≡ false) (λ k. (is_among q (front ++ (key ∷ [])) ≡ true) × HasLength files repo q k.size))
      (sym is) (among_front q front (key ∷ []) h.0, h.1)

  opened_more : (ids : List (List ℕ)) (place : ℕ) (d : List ℕ) (chunk : Chunk) (content : List ℕ) (old new : Known) → place < length ids
      → HoldsChunk files repo.log repo.keys (get_or ids place d) content → chunk.size ≡ length content → KnowsOpened files repo (take place ids) old
      → ((q : List ℕ) → new q ≡ cond (eq_by_cmp key_cmp (get_or ids place d) q) (Some chunk) (old q))
      → KnowsOpened files repo (take (place + 1) ids) new
  opened_more ids place d chunk content old new lt holds size h now =
      subst (λ (is : List (List ℕ)). KnowsOpened files repo is new) (sym (take_more ids place d lt))
      (λ q. opened_at (take place ids) (get_or ids place d) q chunk content (old q) (new q) holds size (h q) (eq_by_cmp key_cmp (get_or ids place d) q) refl
      (now q))

pub opens_none : (told : Option Told) (repo : RepoState) (known : Known) → ((q : List ℕ) → known q ≡ None) → OpensSoFar told repo [] known
opens_none told repo known none = record {
  knows = told_any told (λ f. KnowsOpened f repo [] known × AllByRecursion (λ i. Opens f repo i) [])
      (λ f. (λ q. subst (λ o. MatchOption o (is_among q [] ≡ false) (λ c. (is_among q [] ≡ true) × HasLength f repo q c.size)) (sym (none q)) refl, tt));
  unused = λ q. subst (λ o. IfSome o (λ c. c.used ≡ is_among q [])) (sym (none q)) tt;
}

unused_at : (old new : Option Chunk) (chunk : Chunk) (b : Bool) → chunk.used ≡ false → new ≡ cond b (Some chunk) old
    → IfSome old (λ c. c.used ≡ false) → IfSome new (λ c. c.used ≡ false)
unused_at old new chunk true none is h = subst (λ o. IfSome o (λ c. c.used ≡ false)) (sym is) none
unused_at old new chunk false none is h = subst (λ o. IfSome o (λ c. c.used ≡ false)) (sym is) h

-- one chunk more is opened, whose content has this length
pub opens_length : (told : Option Told) (repo : RepoState) (ids : List (List ℕ)) (place : ℕ) (d : List ℕ) (size : ℕ) (old new : Known)
    → place < length ids → OpensSoFar told repo (take place ids) old
    → IfSome told (λ t. HasOpened (told_files t) repo.log repo.keys (get_or ids place d) size)
    → Keeps (get_or ids place d) size old new
    → OpensSoFar told repo (take (place + 1) ids) new
opens_length told repo ids place d size old new lt opens has now = record {
  knows = told_with told told (λ f. KnowsOpened f repo (take place ids) old × AllByRecursion (λ i. Opens f repo i) (take place ids))
      (λ f. HasOpened f repo.log repo.keys (get_or ids place d) size)
      (λ f. KnowsOpened f repo (take (place + 1) ids) new × AllByRecursion (λ i. Opens f repo i) (take (place + 1) ids)) refl
      (λ f so h. (
        opened_more f repo ids place d (fresh size) h.content old new lt h.holds h.size_is so.0 now,
        all_more (λ i. Opens f repo i) ids place d lt so.1 (h.content, h.holds),
      ))
      opens.knows has;
  unused = λ q. unused_at (old q) (new q) (fresh size) (eq_by_cmp key_cmp (get_or ids place d) q) refl (now q) (opens.unused q);
}

-- the length in a place is that of the content of the chunk in that place behind the first
pub length_there : (told : Option Told) (repo : RepoState) (ids : List (List ℕ)) (from place : ℕ) (d : List ℕ) (sizes : List ℕ) (e : ℕ)
    → from + place < length ids → place < length sizes
    → IfSome told (λ t. HaveLengths (told_files t) repo.log repo.keys (drop from ids) sizes)
    → IfSome told (λ t. HasOpened (told_files t) repo.log repo.keys (get_or ids (from + place) d) (get_or sizes place e))
length_there told repo ids from place d sizes e within low lengths =
    let id = get_or-drop from ids place zero_id ∙ get_or_default ids (from + place) zero_id d within in
    let size = get_or_default sizes place 0 e low in
    told_then told (λ f. HaveLengths f repo.log repo.keys (drop from ids) sizes)
    (λ f. HasOpened f repo.log repo.keys (get_or ids (from + place) d) (get_or sizes place e))
    (λ f have.
    subst (λ (i : List ℕ). HasOpened f repo.log repo.keys i (get_or sizes place e)) id
    (subst (λ (n : ℕ). HasOpened f repo.log repo.keys (get_or (drop from ids) place zero_id) n) size (have place low)))
    lengths

-- a chunk behind those that are opened so far is refused
pub opens_refused : (told later : Option Told) (repo : RepoState) (ids : List (List ℕ)) (place : ℕ) (known : Known)
    (fault : RepoFault) → heard later ≡ heard told → OpensSoFar told repo (take place ids) known
    → IfSome later (λ t. RefusesOne (told_files t) repo.log repo.keys (drop place ids) fault)
    → IfSome told (λ t. RefusesFirst (told_files t) repo ids fault)
opens_refused told later repo ids place known fault same opens refused =
    told_with told later (λ f. KnowsOpened f repo (take place ids) known × AllByRecursion (λ i. Opens f repo i) (take place ids))
    (λ f. RefusesOne f repo.log repo.keys (drop place ids) fault) (λ f. RefusesFirst f repo ids fault) same
    (λ f so r.
    let at = place + r.place in
    let lt : at < length ids = omega (arith, r.low, length-drop place ids) in
    record {
      before = take at ids;
      id = get_or ids at zero_id;
      behind = drop (at + 1) ids;
      ids_are = parted ids at zero_id lt;
      opened = all_on (λ i. Opens f repo i) ids place r.place zero_id (omega (arith, lt)) so.1 r.before;
      refused = subst (λ (i : List ℕ). RefusesChunk f repo.log repo.keys i fault) (get_or-drop place ids r.place zero_id) r.refused;
    })
    opens.knows refused

-- all chunks are opened
pub opens_all : (told : Option Told) (repo : RepoState) (ids front : List (List ℕ)) (known : Known) → front ≡ ids → OpensSoFar told repo front known
    → IfSome told (λ t. KnowsOpened (told_files t) repo ids known)
opens_all told repo ids front known whole opens =
    told_then told (λ f. KnowsOpened f repo front known × AllByRecursion (λ i. Opens f repo i) front) (λ f. KnowsOpened f repo ids known)
    (λ f so. subst (λ (is : List (List ℕ)). KnowsOpened f repo is known) whole so.0) opens.knows
