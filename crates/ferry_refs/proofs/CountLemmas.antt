-- Lemmas on specs/Refs.antt and specs/Steps.antt: how often an id stands among some, and what is counted.
use Rattle.std.proofs.Common.{◌≡◌, ℕ, ◌+◌, ◌<◌, Bool, true, false, cond, List, [], ◌∷◌, ◌++◌, length, take, get_or}
use Rattle.std.proofs.Common.{Option, Some, unwrap_or, refl, sym, ◌∙◌, ap, subst, arith}
use Rattle.std.specs.Ordering.{eq_by_cmp}
use Rattle.std.specs.Str.{bytes_eq}
use Rattle.std.proofs.lemmas.List.{take_more}
use Rattle.std.proofs.lemmas.Slice.Eq.{bytes_eq-Decides}
use Rattle.ferry_check.specs.Report.{ids_in}
use Rattle.ferry_check.proofs.MarkLemmas.{same_key, key_itself}
use Rattle.ferry_item.specs.declared.item.ChunkRef.{ChunkRef}
use Rattle.ferry_log.specs.Live.{key_cmp}
use Rattle.ferry_refs.specs.Refs.{occurrences}
use Rattle.ferry_refs.specs.Steps.{Tally, Adds}

-- ---- occurrences

-- an id stands among joined ids as often as among each of them together
pub occurrences-append : (id : List ℕ) (xs ys : List (List ℕ)) → occurrences id (xs ++ ys) ≡ occurrences id xs + occurrences id ys
unfolding occurrences
occurrences-append id [] ys = omega arith
occurrences-append id (x ∷ xs) ys = omega (arith, occurrences-append id xs ys)

none_occur : (id : List ℕ) → occurrences id [] ≡ 0
unfolding occurrences
none_occur id = refl

-- ---- keys

same_by : (a b : List ℕ) (c d : Bool) → eq_by_cmp key_cmp a b ≡ c → bytes_eq a b ≡ d → c ≡ d
same_by a b true d e f = sym (sym f ∙ (bytes_eq-Decides a b).1 (same_key a b e))
same_by a b false true e f =
    let both : false ≡ true = sym e ∙ (ap (λ (k : List ℕ). eq_by_cmp key_cmp a k) (sym ((bytes_eq-Decides a b).0 f)) ∙ key_itself a) in
    both
same_by a b false false e f = refl

-- the test of two ids by their order and the one by their bytes agree
pub same_tests : (a b : List ℕ) → eq_by_cmp key_cmp a b ≡ bytes_eq a b
same_tests a b = same_by a b (eq_by_cmp key_cmp a b) (bytes_eq a b) refl refl

-- ---- Adds

-- no id counted leaves the tally
pub adds_none : (tally : Tally) → Adds [] tally tally
adds_none tally id = omega (arith, none_occur id)

-- ids that are counted one list after the other
pub adds_then : (a b c : Tally) (xs ys : List (List ℕ)) → Adds xs a b → Adds ys b c → Adds (xs ++ ys) a c
adds_then a b c xs ys h g id = omega (arith, h id, g id, occurrences-append id xs ys)

-- one id more is counted
pub adds_more : (a b c : Tally) (ids : List (List ℕ)) (place : ℕ) (d : List ℕ) → place < length ids → Adds (take place ids) a b
    → Adds (get_or ids place d ∷ []) b c → Adds (take (place + 1) ids) a c
adds_more a b c ids place d lt h g =
    subst (λ (is : List (List ℕ)). Adds is a c) (sym (take_more ids place d lt)) (adds_then a b c (take place ids) (get_or ids place d ∷ []) h g)

added_by : (old new at : Option ℕ) (count : ℕ) (b : Bool) → count ≡ unwrap_or at 0 + 1 → (b ≡ true → old ≡ at) → new ≡ cond b (Some count) old
    → unwrap_or new 0 ≡ unwrap_or old 0 + (cond b 1 0 + 0)
added_by old new at count true more here now =
    ap (λ (o : Option ℕ). unwrap_or o 0) now ∙ (more ∙ ap (λ (o : Option ℕ). unwrap_or o 0 + 1) (sym (here refl)))
added_by old new at count false more here now = omega (arith, ap (λ (o : Option ℕ). unwrap_or o 0) now)

-- an entry with the number that is one more counts its id once more
pub added : (old new : List ℕ → Option ℕ) (key : List ℕ) (count : ℕ) → count ≡ unwrap_or (old key) 0 + 1
    → ((q : List ℕ) → new q ≡ cond (eq_by_cmp key_cmp key q) (Some count) (old q))
    → Adds (key ∷ []) (λ q. unwrap_or (old q) 0) (λ q. unwrap_or (new q) 0)
unfolding occurrences
added old new key count more now q =
    added_by (old q) (new q) (old key) count (bytes_eq key q) more (λ e. ap old (sym ((bytes_eq-Decides key q).0 e)))
    (now q ∙ ap (λ (b : Bool). cond b (Some count) (old q)) (same_tests key q))

-- ---- the chunks of an item

ids_in-append : (xs ys : List ChunkRef) → ids_in (xs ++ ys) ≡ ids_in xs ++ ids_in ys
ids_in-append [] ys = refl
ids_in-append (x ∷ xs) ys = ap (λ k. x.id ∷ k) (ids_in-append xs ys)

-- one chunk more is counted
pub refs_more : (a b c : Tally) (refs : List ChunkRef) (place : ℕ) (d : ChunkRef) → place < length refs → Adds (ids_in (take place refs)) a b
    → Adds ((get_or refs place d).id ∷ []) b c → Adds (ids_in (take (place + 1) refs)) a c
refs_more a b c refs place d lt h g =
    let ids : ids_in (take (place + 1) refs) ≡ ids_in (take place refs) ++ ((get_or refs place d).id ∷ []) =
    ap ids_in (take_more refs place d lt) ∙ ids_in-append (take place refs) (get_or refs place d ∷ []) in
    subst (λ (is : List (List ℕ)). Adds is a c) (sym ids) (adds_then a b c (ids_in (take place refs)) ((get_or refs place d).id ∷ []) h g)
