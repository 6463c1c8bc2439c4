-- The order in which pairs are put makes no difference.
use Rattle.std.proofs.Common.{◌≡◌, ◌≢◌, ℕ, List, Ordering, Less, Equal, Greater, nat_cmp, is_eq, refl, sym, ap, ◌∙◌}
use Rattle.std.specs.Ordering.{ordering_reverse}
use Rattle.std.specs.Cmp.Lexicographic.{slice_cmp}
use Rattle.std.proofs.lemmas.Cmp.{nat_list_cmp_total, tied_itself}
use Rattle.std.proofs.lemmas.Map.Text.{is_eq-slice_cmp}
use Rattle.std.proofs.lemmas.Slice.Eq.{bytes_eq-Decides}
use Rattle.ferry_msgpack.specs.Tree.{Tree, Pairs, no_pairs, pair, put}

-- the order of two texts, the other way round
turned : (k l : List ℕ) (o : Ordering) → slice_cmp nat_cmp k l ≡ o → slice_cmp nat_cmp l k ≡ ordering_reverse o
turned k l o e = nat_list_cmp_total.antisymm l k ∙ ap ordering_reverse e

pub same_text : (k l : List ℕ) → slice_cmp nat_cmp k l ≡ Equal → k ≡ l
same_text k l e = (bytes_eq-Decides k l).0 (sym (is_eq-slice_cmp k l) ∙ ap is_eq e)

pub self_equal : (k : List ℕ) → slice_cmp nat_cmp k k ≡ Equal
self_equal k = tied_itself nat_list_cmp_total k

swap_none : (k l : List ℕ) (t u : Tree) (o : Ordering) → slice_cmp nat_cmp k l ≡ o → o ≢ Equal → put k t (put l u no_pairs) ≡ put l u (put k t no_pairs)
swap_none k l t u Less e other = rw (e, turned k l Less e) refl
swap_none k l t u Equal e other = absurd (other refl)
swap_none k l t u Greater e other = rw (e, turned k l Greater e) refl

module _ (k l m : List ℕ) (t u w : Tree) (ps : Pairs) (rest : put k t (put l u ps) ≡ put l u (put k t ps)) where
  -- both stand before m
  swap_front : (o : Ordering) → slice_cmp nat_cmp k l ≡ o → o ≢ Equal → slice_cmp nat_cmp k m ≡ Less → slice_cmp nat_cmp l m ≡ Less
      → put k t (put l u (pair m w ps)) ≡ put l u (put k t (pair m w ps))
  swap_front Less e other p q = rw (q, p, e, turned k l Less e, q) refl
  swap_front Equal e other p q = absurd (other refl)
  swap_front Greater e other p q = rw (q, p, e, turned k l Greater e) refl

  swap_at : (o p q : Ordering) → slice_cmp nat_cmp k l ≡ o → o ≢ Equal → slice_cmp nat_cmp k m ≡ p → slice_cmp nat_cmp l m ≡ q
      → put k t (put l u (pair m w ps)) ≡ put l u (put k t (pair m w ps))
  swap_at o Less Less e other p q = swap_front o e other p q
  swap_at o Less Equal e other p q =
      let behind : slice_cmp nat_cmp l k ≡ Greater = nat_list_cmp_total.congr l m k q ∙ turned k m Less p in
      rw (q, p, behind, q) refl
  swap_at o Less Greater e other p q =
      let behind : slice_cmp nat_cmp l k ≡ Greater = turned k l Less (nat_list_cmp_total.trans k m l p (turned l m Greater q)) in
      rw (q, p, behind, q) refl
  swap_at o Equal Less e other p q =
      let behind : slice_cmp nat_cmp k l ≡ Greater = nat_list_cmp_total.congr k m l p ∙ turned l m Less q in
      rw (q, behind, p, q) refl
  swap_at o Equal Equal e other p q =
      let same : k ≡ l = same_text k m p ∙ sym (same_text l m q) in
      absurd (other (sym e ∙ ap (slice_cmp nat_cmp k) (sym same) ∙ self_equal k))
  swap_at o Equal Greater e other p q = rw (q, p, q) refl
  swap_at o Greater Less e other p q =
      let behind : slice_cmp nat_cmp k l ≡ Greater = turned l k Less (nat_list_cmp_total.trans l m k q (turned k m Greater p)) in
      rw (q, behind, p, q) refl
  swap_at o Greater Equal e other p q = rw (q, p, q) refl
  swap_at o Greater Greater e other p q = rw (q, p, q) (ap (pair m w) rest)

swapped : (k l : List ℕ) (t u : Tree) (ps : Pairs) → slice_cmp nat_cmp k l ≢ Equal → put k t (put l u ps) ≡ put l u (put k t ps)
swapped k l t u no_pairs other = swap_none k l t u (slice_cmp nat_cmp k l) refl other
swapped k l t u (pair m w ps) other =
    swap_at k l m t u w ps (swapped k l t u ps other) (slice_cmp nat_cmp k l) (slice_cmp nat_cmp k m) (slice_cmp nat_cmp l m) refl other refl refl

-- two pairs with different keys, put in either order
pub put-swap : (k l : List ℕ) (t u : Tree) (ps : Pairs) → k ≢ l → put k t (put l u ps) ≡ put l u (put k t ps)
put-swap k l t u ps apart = swapped k l t u ps (λ e. apart (same_text k l e))
