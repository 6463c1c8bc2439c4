-- The names of two lists.
use Rattle.std.proofs.Common.{◌≡◌, ℕ, ◌+◌, ◌<◌, Bool, true, false, ◌||◌, List, [], ◌∷◌}
use Rattle.std.proofs.Common.{◌++◌, Ordering, Less, Equal, Greater, nat_cmp, refl, sym, ap, ◌∙◌, subst}
use Rattle.std.proofs.Common.{length, get_or, take, fold, Vec, Global}
use Rattle.std.specs.Cmp.Lexicographic.{slice_cmp}
use Rattle.std.specs.BTreeSet.{insert_key}
use Rattle.std.specs.List.{list_any}
use Rattle.std.specs.Ordering.{ordering_reverse}
use Rattle.std.specs.Str.{bytes_eq}
use Rattle.std.proofs.lemmas.Cmp.{nat_list_cmp_total}
use Rattle.std.proofs.lemmas.List.{map-append, take_more}
use Rattle.std.proofs.lemmas.List.Folds.{list_any-append}
use Rattle.std.proofs.lemmas.List.Sums.{fold-append}
use Rattle.std.proofs.lemmas.Slice.Eq.{bytes_eq-Decides}
use Rattle.ferry_manifest.specs.Manifest.Text.{in_order}
use Rattle.ferry_manifest.specs.Manifest.Writing.{AreIncreasing}
use Rattle.ferry_manifest.proofs.Manifests.OrderLemmas.{in_order-increasing, in_order-same}
use Rattle.ferry_manifest.proofs.Manifests.ReadLemmas.{name_cmp, names_view, names_view-insert}
use Rattle.ferry_next.specs.Next.{IsUnion, union}
use Rattle.ferry_next.proofs.OrderLemmas.{apart, below_next, itself, same_name}

-- a name that is below all isn't among them
absent : (n : List ℕ) (ns : List (List ℕ)) → AreIncreasing (n ∷ ns) → list_any (bytes_eq n) ns ≡ false
absent n [] inc = refl
absent n (k ∷ ns) inc = rw (apart n k inc.0) (absent n ns (below_next n k ns inc.0 inc.1))

-- nor is it where it is below the first
under : (n m : List ℕ) (ns : List (List ℕ)) → slice_cmp nat_cmp n m ≡ Less → AreIncreasing (m ∷ ns) → list_any (bytes_eq n) (m ∷ ns) ≡ false
under n m ns is inc = absent n (m ∷ ns) (is, inc)

has_first : (n : List ℕ) (ns : List (List ℕ)) → list_any (bytes_eq n) (n ∷ ns) ≡ true
has_first n ns = rw (itself n) refl

tail_by : (n m : List ℕ) (ns ks : List (List ℕ)) (b : Bool) → bytes_eq n m ≡ b → AreIncreasing (m ∷ ns) → AreIncreasing (m ∷ ks)
    → b || list_any (bytes_eq n) ns ≡ b || list_any (bytes_eq n) ks → list_any (bytes_eq n) ns ≡ list_any (bytes_eq n) ks
tail_by n m ns ks true is inc also same =
    let e : n ≡ m = (bytes_eq-Decides n m).0 is in
    subst (λ (x : List ℕ). list_any (bytes_eq x) ns ≡ list_any (bytes_eq x) ks) (sym e) (absent m ns inc ∙ sym (absent m ks also))
tail_by n m ns ks false is inc also same = same

first_by : (n m : List ℕ) (ns ks : List (List ℕ)) (o : Ordering) → slice_cmp nat_cmp n m ≡ o → AreIncreasing (n ∷ ns) → AreIncreasing (m ∷ ks)
    → ((x : List ℕ) → list_any (bytes_eq x) (n ∷ ns) ≡ list_any (bytes_eq x) (m ∷ ks)) → n ≡ m
first_by n m ns ks Less is inc also same =
    let no : true ≡ false = sym (has_first n ns) ∙ (same n ∙ under n m ks is also) in absurd (let l : ⊥ = cc in l)
first_by n m ns ks Equal is inc also same = same_name n m is
first_by n m ns ks Greater is inc also same =
    let turned : slice_cmp nat_cmp m n ≡ Less = nat_list_cmp_total.antisymm m n ∙ ap ordering_reverse is in
    let no : true ≡ false = sym (has_first m ks) ∙ (sym (same m) ∙ under m n ns turned inc) in absurd (let l : ⊥ = cc in l)

-- two increasing lists with the same names are one
pub one_list : (ns ks : List (List ℕ)) → AreIncreasing ns → AreIncreasing ks → ((n : List ℕ) → list_any (bytes_eq n) ns ≡ list_any (bytes_eq n) ks)
    → ns ≡ ks
one_list [] [] inc also same = refl
one_list [] (m ∷ ks) inc also same = let no : false ≡ true = same m ∙ has_first m ks in absurd (let l : ⊥ = cc in l)
one_list (n ∷ ns) [] inc also same = let no : true ≡ false = sym (has_first n ns) ∙ same n in absurd (let l : ⊥ = cc in l)
one_list (n ∷ ns) (m ∷ ks) inc also same =
    let e : m ≡ n = sym (first_by n m ns ks (slice_cmp nat_cmp n m) refl inc also same) in
    let moved : AreIncreasing (n ∷ ks) = subst (λ (x : List ℕ). AreIncreasing (x ∷ ks)) e also in
    let alike : (x : List ℕ) → list_any (bytes_eq x) (n ∷ ns) ≡ list_any (bytes_eq x) (n ∷ ks) =
    subst (λ (y : List ℕ). (x : List ℕ) → list_any (bytes_eq x) (n ∷ ns) ≡ list_any (bytes_eq x) (y ∷ ks)) e same in
    let rest : ns ≡ ks = one_list ns ks inc.1 also.1 (λ x. tail_by x n ns ks (bytes_eq x n) refl inc moved (alike x)) in
    rw (e, rest) refl

pub union-is : (names more : List (List ℕ)) → IsUnion names more (union names more)
union-is names more = record {
  increasing = in_order-increasing (names ++ more);
  same = λ name. in_order-same (names ++ more) name ∙ list_any-append (bytes_eq name) names more;
}

pub union-one : (names more all : List (List ℕ)) → IsUnion names more all → all ≡ union names more
union-one names more all is =
    let other = union-is names more in
    one_list all (union names more) is.increasing other.increasing (λ n. is.same n ∙ sym (other.same n))

-- ---- names that are inserted one after the other

pub inserted : (start : List (List ℕ)) (keys names : List (Vec ℕ Global)) (copy : Vec ℕ Global) (i : ℕ) (d : Vec ℕ Global) → i < length names
    → copy.items ≡ (get_or names i d).items → names_view keys ≡ fold (insert_key (slice_cmp nat_cmp)) start (names_view (take i names))
    → names_view (insert_key name_cmp keys copy) ≡ fold (insert_key (slice_cmp nat_cmp)) start (names_view (take (i + 1) names))
inserted start keys names copy i d lt is so_far =
    let ins = insert_key (slice_cmp nat_cmp) in
    let front = names_view (take i names) in
    let one : names_view (take (i + 1) names) ≡ front ++ (copy.items ∷ []) =
    ap names_view (take_more names i d lt) ∙ (map-append (λ (n : Vec ℕ Global). n.items) (take i names) (get_or names i d ∷ [])
    ∙ ap (λ (n : List ℕ). front ++ (n ∷ [])) (sym is)) in
    names_view-insert keys copy ∙ (ap (λ (l : List (List ℕ)). ins l copy.items) so_far
    ∙ (sym (fold-append ins start front (copy.items ∷ [])) ∙ ap (fold ins start) (sym one)))

pub both : (names more : List (List ℕ)) → fold (insert_key (slice_cmp nat_cmp)) (fold (insert_key (slice_cmp nat_cmp)) [] names) more ≡ union names more
unfolding in_order
both names more = sym (fold-append (insert_key (slice_cmp nat_cmp)) [] names more)
