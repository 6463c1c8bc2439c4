-- What holds of pairs holds of those that `without` keeps.
use Rattle.std.proofs.Common.{◌≡◌, ℕ, ◌+◌, ◌^◌, ◌<◌, ◌≤◌, Bool, true, false, ◌||◌, List, Ordering, Less, Equal, Greater, nat_cmp, refl, sym, ap, subst, ◌∙◌}
use Rattle.std.proofs.Common.{arith}
use Rattle.std.specs.Cmp.Lexicographic.{slice_cmp}
use Rattle.std.specs.Ordering.{match_ordering}
use Rattle.std.specs.Str.{bytes_eq}
use Rattle.std.proofs.lemmas.Cmp.{nat_list_cmp_total}
use Rattle.std.proofs.lemmas.Slice.Eq.{bytes_eq-Decides}
use Rattle.ferry_msgpack.specs.Tree.{Tree, table, Pairs, no_pairs, pair, pairs_count, put}
use Rattle.ferry_msgpack.specs.Writable.{pairs_depth, IsBelow, IsIncreasing, PairsFit, IsWritable}
use Rattle.ferry_fields.specs.Fields.{value_of}
use Rattle.ferry_fields.specs.Others.{is_among, without, has_among}
use Rattle.ferry_fields.specs.Sizes.{PairsOrdered}
use Rattle.ferry_fields.proofs.FieldLemmas.{value_of-other}
use Rattle.ferry_fields.proofs.OtherLemmas.{without-among, without-other, without-none}
use Rattle.ferry_fields.proofs.PutLemmas.{behind_same, same_text}
use Rattle.ferry_fields.proofs.SizeLemmas.{AreOrdered, AreGood, good_writable, writable_good}

-- the first pair is left out, or kept
of_first : (P : Pairs → Type 0) (names : List (List ℕ)) (l : List ℕ) (t : Tree) (ps : Pairs) (b : Bool) → is_among names l ≡ b
    → (is_among names l ≡ true → P (without names ps)) → (is_among names l ≡ false → P (pair l t (without names ps))) → P (without names (pair l t ps))
of_first P names l t ps true is left kept = subst P (sym (without-among names l t ps is)) (left is)
of_first P names l t ps false is left kept = subst P (sym (without-other names l t ps is)) (kept is)

by_first : (P : Pairs → Type 0) (names : List (List ℕ)) (l : List ℕ) (t : Tree) (ps : Pairs)
    → (is_among names l ≡ true → P (without names ps)) → (is_among names l ≡ false → P (pair l t (without names ps))) → P (without names (pair l t ps))
by_first P names l t ps left kept = of_first P names l t ps (is_among names l) refl left kept

-- ---- names that increase

below_first : (k l : List ℕ) (ps : Pairs) → slice_cmp nat_cmp k l ≡ Less → IsBelow l ps → IsBelow k ps
below_first k l no_pairs below under = tt
below_first k l (pair m u ps) below under = nat_list_cmp_total.trans k l m below under

IsBelow-without : (names : List (List ℕ)) (k : List ℕ) (ps : Pairs) → IsBelow k ps → IsIncreasing ps → IsBelow k (without names ps)
IsBelow-without names k no_pairs under inc = subst (IsBelow k) (sym (without-none names)) tt
IsBelow-without names k (pair l t ps) under inc =
    by_first (IsBelow k) names l t ps (λ _. IsBelow-without names k ps (below_first k l ps under inc.0) inc.1) (λ _. under)

pub IsIncreasing-without : (names : List (List ℕ)) (ps : Pairs) → IsIncreasing ps → IsIncreasing (without names ps)
IsIncreasing-without names no_pairs inc = subst IsIncreasing (sym (without-none names)) tt
IsIncreasing-without names (pair l t ps) inc =
    let rest = IsIncreasing-without names ps inc.1 in
    by_first IsIncreasing names l t ps (λ _. rest) (λ _. (IsBelow-without names l ps inc.0 inc.1, rest))

-- ---- depth, order, lengths and count

pub pairs_depth-without : (names : List (List ℕ)) (d : ℕ) (ps : Pairs) → pairs_depth ps ≤ d → pairs_depth (without names ps) ≤ d
pairs_depth-without names d no_pairs deep = subst (λ (qs : Pairs). pairs_depth qs ≤ d) (sym (without-none names)) deep
pairs_depth-without names d (pair l t ps) deep =
    let rest = pairs_depth-without names d ps (omega arith) in
    by_first (λ (qs : Pairs). pairs_depth qs ≤ d) names l t ps (λ _. rest) (λ _. omega arith)

pub pairs_count-without : (names : List (List ℕ)) (ps : Pairs) → pairs_count (without names ps) ≤ pairs_count ps
pairs_count-without names no_pairs = subst (λ (qs : Pairs). pairs_count qs ≤ 0) (sym (without-none names)) (omega arith)
pairs_count-without names (pair l t ps) =
    let rest = pairs_count-without names ps in
    by_first (λ (qs : Pairs). pairs_count qs ≤ pairs_count ps + 1) names l t ps (λ _. omega arith) (λ _. omega arith)

pub PairsOrdered-without : (names : List (List ℕ)) (ps : Pairs) → PairsOrdered ps → PairsOrdered (without names ps)
PairsOrdered-without names no_pairs ordered = subst PairsOrdered (sym (without-none names)) tt
PairsOrdered-without names (pair l t ps) ordered =
    let rest = PairsOrdered-without names ps ordered.1 in
    by_first PairsOrdered names l t ps (λ _. rest) (λ _. (ordered.0, rest))

pub PairsFit-without : (names : List (List ℕ)) (ps : Pairs) → PairsFit ps → PairsFit (without names ps)
PairsFit-without names no_pairs fit = subst PairsFit (sym (without-none names)) tt
PairsFit-without names (pair l t ps) fit =
    let rest = PairsFit-without names ps fit.2 in
    by_first PairsFit names l t ps (λ _. rest) (λ _. (fit.0, fit.1, rest))

pub without_ordered : (d : ℕ) (names : List (List ℕ)) (ps : Pairs) → AreOrdered d ps → AreOrdered d (without names ps)
without_ordered d names ps old =
    record {
      deep = pairs_depth-without names d ps old.deep;
      increase = IsIncreasing-without names ps old.increase;
      ordered = PairsOrdered-without names ps
          old.ordered;
    }

pub without_good : (names : List (List ℕ)) (ps : Pairs) → AreGood ps → AreGood (without names ps)
without_good names ps old =
    record { deep = pairs_depth-without names 63 ps old.deep; increase = IsIncreasing-without names ps old.increase; fit = PairsFit-without names ps old.fit }

-- what is kept of a map that can be written can be written
pub without_writable : (names : List (List ℕ)) (ps : Pairs) → IsWritable (table ps) → IsWritable (table (without names ps))
without_writable names ps writable =
    let count : pairs_count ps < 2 ^ 32 = writable.fits.0 in
    good_writable (without names ps) (without_good names ps (writable_good ps writable)) (omega (arith, count, pairs_count-without names ps))

-- ---- names

-- none of the names is there
pub has_among-without : (names : List (List ℕ)) (ps : Pairs) → has_among names (without names ps) ≡ false
unfolding has_among
has_among-without names no_pairs = subst (λ (qs : Pairs). has_among names qs ≡ false) (sym (without-none names)) refl
has_among-without names (pair l t ps) =
    let rest = has_among-without names ps in
    by_first (λ (qs : Pairs). has_among names qs ≡ false) names l t ps (λ _. rest) (λ is. ap (λ b. b || has_among names (without names ps)) is ∙ rest)

apart_names : (names : List (List ℕ)) (k l : List ℕ) (b : Bool) → bytes_eq l k ≡ b → is_among names k ≡ false → is_among names l ≡ true → b ≡ false
apart_names names k l true is other among =
    let same : l ≡ k = (bytes_eq-Decides l k).0 is in
    let both : is_among names k ≡ true = ap (is_among names) (sym same) ∙ among in
    cc
apart_names names k l false is other among = refl

-- another name has the value that it had
pub value_of-without : (names : List (List ℕ)) (k : List ℕ) (ps : Pairs) → is_among names k ≡ false → value_of k (without names ps) ≡ value_of k ps
value_of-without names k no_pairs other = ap (value_of k) (without-none names)
value_of-without names k (pair l t ps) other =
    let rest = value_of-without names k ps other in
    by_first (λ (qs : Pairs). value_of k qs ≡ value_of k (pair l t ps)) names l t ps
    (λ among. rest ∙ sym (value_of-other k l t ps (apart_names names k l (bytes_eq l k) refl other among)))
    (λ _. behind_same k l t ps (without names ps) (bytes_eq l k) refl rest)

put_first : (k : List ℕ) (t : Tree) (ps : Pairs) → IsBelow k ps → put k t ps ≡ pair k t ps
put_first k t no_pairs below = refl
put_first k t (pair l u ps) below = rw below refl

of_other : (names : List (List ℕ)) (k : List ℕ) (t : Tree) (l : List ℕ) (u : Tree) (ps : Pairs) (b : Bool) → is_among names l ≡ b
    → without names (put k t ps) ≡ put k t (without names ps)
    → put k t (pair l u (without names ps)) ≡ pair l u (put k t (without names ps))
    → without names (pair l u (put k t ps)) ≡ put k t (without names (pair l u ps))
of_other names k t l u ps true is rest placed = without-among names l u (put k t ps) is ∙ rest ∙ ap (put k t) (sym (without-among names l u ps is))
of_other names k t l u ps false is rest placed =
    without-other names l u (put k t ps) is ∙ ap (pair l u) rest ∙ sym placed ∙ ap (put k t) (sym (without-other names l u ps is))

other_order : (names : List (List ℕ)) (k : List ℕ) (t : Tree) (l : List ℕ) (u : Tree) (ps : Pairs) (o : Ordering) → is_among names k ≡ false
    → slice_cmp nat_cmp k l ≡ o → IsIncreasing (pair l u ps)
    → without names (put k t ps) ≡ put k t (without names ps)
    → without names (match_ordering o (pair k t (pair l u ps)) (pair l t ps) (pair l u (put k t ps))) ≡ put k t (without names (pair l u ps))
other_order names k t l u ps Less other is inc rest =
    without-other names k t (pair l u ps) other ∙ sym (put_first k t (without names (pair l u ps)) (IsBelow-without names k (pair l u ps) is inc))
other_order names k t l u ps Equal other is inc rest =
    let named : is_among names l ≡ false = ap (is_among names) (sym (same_text k l is)) ∙ other in
    let placed : put k t (pair l u (without names ps)) ≡ pair l t (without names ps) = rw is refl in
    without-other names l t ps named ∙ sym placed ∙ ap (put k t) (sym (without-other names l u ps named))
other_order names k t l u ps Greater other is inc rest =
    let placed : put k t (pair l u (without names ps)) ≡ pair l u (put k t (without names ps)) = rw is refl in
    of_other names k t l u ps (is_among names l) refl rest placed

-- a pair under another name may be put before or after
pub without-put_other : (names : List (List ℕ)) (k : List ℕ) (t : Tree) (ps : Pairs) → is_among names k ≡ false → IsIncreasing ps
    → without names (put k t ps) ≡ put k t (without names ps)
without-put_other names k t no_pairs other inc =
    without-other names k t no_pairs other ∙ ap (pair k t) (without-none names) ∙ ap (put k t) (sym (without-none names))
without-put_other names k t (pair l u ps) other inc =
    other_order names k t l u ps (slice_cmp nat_cmp k l) other refl inc (without-put_other names k t ps other inc.1)
