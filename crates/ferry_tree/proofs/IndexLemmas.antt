-- Lemmas on specs/Index.antt: what is known behind one path more.
use Rattle.std.proofs.Common.{◌≡◌, ◌⊎◌, inl, inr, ℕ, Bool, true, false, List, Option, if◌then◌else◌, sym, ◌∙◌, ap, subst}
use Rattle.std.proofs.lemmas.Bool.{cases_Bool}
use Rattle.std.proofs.lemmas.Cmp.{nat_list_eq_equiv, nat_list_cmp_total, eq_by_cmp_equiv}
use Rattle.std.proofs.lemmas.Map.Text.{is_eq-slice_cmp}
use Rattle.std.proofs.lemmas.Slice.Eq.{bytes_eq-Decides}
use Rattle.std.specs.BTreeMap.{BTreeMap, get_by, UpdatesBy}
use Rattle.std.specs.Cmp.Lexicographic.{slice_cmp}
use Rattle.std.specs.Map.{lookup, IsKeyTest, AreApart, KeepsOthers}
use Rattle.std.specs.Ordering.{nat_cmp, is_eq}
use Rattle.std.specs.Str.{bytes_eq}

apart : (a b k : List ℕ) → bytes_eq a b ≡ false → is_eq (slice_cmp nat_cmp a k) ≡ true → is_eq (slice_cmp nat_cmp b k) ≡ false
apart a b k n y =
    is_eq-slice_cmp b k ∙ nat_list_eq_equiv.symm b k ∙ sym (nat_list_eq_equiv.congr a k b (sym (is_eq-slice_cmp a k) ∙ y)) ∙ n

others : {K X : Type 0} (eq : K → K → Bool) (test : K → Bool) (old new : List (K × X)) → KeepsOthers eq test old new
    → (other : K → Bool) → IsKeyTest eq other → AreApart test other → lookup other new ≡ lookup other old
unfolding KeepsOthers
others eq test old new h = h

by_case : {X : Type 0} (f g : List ℕ → Option X) (key path : List ℕ) (w : Option X) → g key ≡ w → (bytes_eq key path ≡ false → g path ≡ f path)
    → (bytes_eq key path ≡ true) ⊎ (bytes_eq key path ≡ false) → g path ≡ (if bytes_eq key path then w else f path)
by_case f g key path w here other (inl y) =
    subst (λ (p : List ℕ). g p ≡ w) ((bytes_eq-Decides key path).0 y) here ∙ sym (ap (λ (b : Bool). if b then w else f path) y)
by_case f g key path w here other (inr n) = other n ∙ sym (ap (λ (b : Bool). if b then w else f path) n)

-- what is found by its bytes, behind a change at one key
pub found_after : {K X : Type 0} (bytes : K → List ℕ) (m n : BTreeMap K X) (key : K) (w : Option X)
    → UpdatesBy (λ x y. slice_cmp nat_cmp (bytes x) (bytes y)) (λ k. slice_cmp nat_cmp (bytes key) (bytes k)) m n w → (path : List ℕ)
    → get_by (λ k. slice_cmp nat_cmp path (bytes k)) n
    ≡ (if bytes_eq (bytes key) path then w else get_by (λ k. slice_cmp nat_cmp path (bytes k)) m)
found_after bytes m n key w updates path =
    by_case (λ p. get_by (λ k. slice_cmp nat_cmp p (bytes k)) m) (λ p. get_by (λ k. slice_cmp nat_cmp p (bytes k)) n) (bytes key) path w updates.1
    (λ other. others _ _ m.entries n.entries updates.3 _
    (λ x y. (eq_by_cmp_equiv nat_list_cmp_total).congr path (bytes x) (bytes y)) (λ k. apart (bytes key) path (bytes k) other))
    (cases_Bool (bytes_eq (bytes key) path))
