-- Lemmas on specs/Least.antt: the least key of a map, and of two.
use Rattle.std.proofs.Common.{◌≡◌, ◌⊎◌, ℕ, Bool, true, false, cond, List, [], ◌∷◌, Option, Some, None, IfSome, slice_get, is_gt, refl, sym, ◌∙◌, ap, subst}
use Rattle.std.proofs.Common.{inl, inr}
use Rattle.std.specs.Cmp.Lexicographic.{nat_list_cmp_total}
use Rattle.std.specs.BTreeMap.{is_at}
use Rattle.std.specs.FinMap.{get, from_entries, get-from_entries, slice_cmp-IsAntisymmetric, nat_cmp-IsAntisymmetric}
use Rattle.std.specs.FinMap.Entries.{find}
use Rattle.std.specs.Map.{lookup}
use Rattle.std.specs.Option.{IsSome}
use Rattle.std.specs.Ordering.{is_lt, ordering_reverse}
use Rattle.std.specs.declared.cmp.Ordering.{Ordering}
use Rattle.std.specs.declared.cmp.Ordering.TheVariants.{Less, Equal, Greater}
use Rattle.ferry_log.specs.Least.{lesser_pair}
use Rattle.ferry_log.specs.Live.{key_cmp}
use Rattle.ferry_log.specs.State.{IsLeastWhere, first_place}
use Rattle.ferry_log.specs.declared.place.Place.{Place}

-- ---- the order of keys

turned : (a b : List ℕ) → key_cmp a b ≡ ordering_reverse (key_cmp b a)
turned a b = nat_list_cmp_total.antisymm a b

-- a key that isn't above another has none below it that is above the other
pub not_less : (k q : List ℕ) → is_gt (key_cmp k q) ≡ false → key_cmp q k ≡ Less → ⊥
not_less k q le less =
    let greater : key_cmp k q ≡ Greater = turned k q ∙ ap ordering_reverse less in
    let no : true ≡ false = sym (ap is_gt greater) ∙ le in
    cc

-- where b isn't below a, no key below a is below b as well, or is it
below_or : (a b key : List ℕ) (o : Ordering) → key_cmp key b ≡ o → is_lt (key_cmp b a) ≡ false → key_cmp key a ≡ Less → o ≡ Less
below_or a b key Less e not less = refl
below_or a b key Equal e not less =
    let same : key ≡ b = slice_cmp-IsAntisymmetric nat_cmp-IsAntisymmetric key b e in
    let lt : true ≡ false = sym (ap is_lt (ap (λ k. key_cmp k a) (sym same) ∙ less)) ∙ not in
    absurd (let no : ⊥ = cc in no)
below_or a b key Greater e not less =
    let back : key_cmp b key ≡ Less = turned b key ∙ ap ordering_reverse e in
    let lt : true ≡ false = sym (ap is_lt (nat_list_cmp_total.trans b key a back less)) ∙ not in
    absurd (let no : ⊥ = cc in no)

is_less : (o : Ordering) → is_lt o ≡ true → o ≡ Less
is_less Less e = refl
is_less Equal e = absurd (let no : ⊥ = cc in no)
is_less Greater e = absurd (let no : ⊥ = cc in no)

-- ---- the first of a range

pub first_of : {X : Type 0} (r rest : List X) (x : X) (P : X → Type 0) → r ≡ x ∷ rest → IfSome (slice_get r 0) P → P x
first_of r rest x P e h = subst (λ k. IfSome (slice_get k 0) P) e h

-- ---- the least of two

some_either : (x y : Option Place) → IsSome (first_place x y) → IsSome x ⊎ IsSome y
some_either (Some x) y some = inl some
some_either None y some = inr some

-- a key with no place
none_of : (x : Option Place) → (IsSome x → ⊥) → x ≡ None
none_of None h = refl
none_of (Some x) h = absurd (h refl)

module _ (f g : List ℕ → Option Place) (after : Option (List ℕ)) where
  abbrev pub either : List ℕ → Option Place
  either key = first_place (f key) (g key)

  second_placed : (key : List ℕ) (place : Place) → f key ≡ None → g key ≡ Some place → either key ≡ Some place
  second_placed key place none some = ap (λ p. first_place p (g key)) none ∙ some

  first_placed : (key : List ℕ) (place : Place) → f key ≡ Some place → either key ≡ Some place
  first_placed key place some = ap (λ p. first_place p (g key)) some

  least_by : (a b : List ℕ × Place) (o : Bool) → is_lt (key_cmp b.0 a.0) ≡ o → IsLeastWhere f after (Some a) → IsLeastWhere g after (Some b)
      → IsLeastWhere either after (cond o (Some b) (Some a))
  least_by a b true lt (fa, above_a, least_a) (gb, above_b, least_b) =
      let less = is_less (key_cmp b.0 a.0) lt in (
        second_placed b.0 b.1 (none_of (f b.0) (λ some. least_a b.0 some above_b less)) gb,
        above_b,
        λ key some above below. elim (some_either (f key) (g key) some) [
          | inl sf ↦ least_a key sf above (nat_list_cmp_total.trans key b.0 a.0 below less)
          | inr sg ↦ least_b key sg above below
        ],
      )
  least_by a b false lt (fa, above_a, least_a) (gb, above_b, least_b) = (
    first_placed a.0 a.1 fa,
    above_a,
    λ key some above below. elim (some_either (f key) (g key) some) [
      | inl sf ↦ least_a key sf above below
      | inr sg ↦ least_b key sg above (below_or a.0 b.0 key (key_cmp key b.0) refl lt below)
    ],
  )

  -- the lesser of the least keys of two maps, the first of which goes before
  pub least_of_two : (a b : Option (List ℕ × Place)) → IsLeastWhere f after a → IsLeastWhere g after b → IsLeastWhere either after (lesser_pair a b)
  least_of_two None None la lb = λ key some above. elim (some_either (f key) (g key) some) [ inl sf ↦ la key sf above | inr sg ↦ lb key sg above ]
  least_of_two (Some a) None (fa, above_a, least_a) lb = (
    first_placed a.0 a.1 fa,
    above_a,
    λ key some above below. elim (some_either (f key) (g key) some) [ inl sf ↦ least_a key sf above below | inr sg ↦ lb key sg above ],
  )
  least_of_two None (Some b) la (gb, above_b, least_b) = (
    second_placed b.0 b.1 (none_of (f b.0) (λ some. la b.0 some above_b)) gb,
    above_b,
    λ key some above below. elim (some_either (f key) (g key) some) [ inl sf ↦ absurd (la key sf above) | inr sg ↦ least_b key sg above below ],
  )
  least_of_two (Some a) (Some b) la lb = least_by a b (is_lt (key_cmp b.0 a.0)) refl la lb

-- ---- maps of the program

find-lookup : (es : List (List ℕ × Place)) (key : List ℕ) → find key_cmp key es ≡ lookup (is_at (key_cmp key)) es
find-lookup [] key = refl
find-lookup (e ∷ es) key = ap (cond (is_at (key_cmp key) e.0) (Some e.1)) (find-lookup es key)

-- what the finite map of a map's entries has at a key
pub get-entries_of : (es : List (List ℕ × Place)) (key : List ℕ) → get (from_entries {R = key_cmp} es) key ≡ lookup (is_at (key_cmp key)) es
get-entries_of es key = get-from_entries nat_list_cmp_total es key ∙ find-lookup es key

-- what is least where keys have these places is least where they have the same ones
pub least_same : (f g : List ℕ → Option Place) (after : Option (List ℕ)) (found : Option (List ℕ × Place)) → ((key : List ℕ) → f key ≡ g key)
    → IsLeastWhere f after found → IsLeastWhere g after found
least_same f g after None same least = λ key some above. least key (subst IsSome (sym (same key)) some) above
least_same f g after (Some found) same (placed, above, least) = (
  sym (same found.0) ∙ placed,
  above,
  λ key some over less. least key (subst IsSome (sym (same key)) some) over less,
)
