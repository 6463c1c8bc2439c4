-- Pairs put in their places.
use Rattle.std.proofs.Common.{◌≡◌, ℕ, zero, suc, ◌+◌, ◌<◌, Bool, true, false, List, [], ◌∷◌, length, take, get_or, Some, Ordering, Less, Equal, Greater}
use Rattle.std.proofs.Common.{nat_cmp, is_eq, refl, sym, ap, ◌∙◌, arith, add-one}
use Rattle.std.specs.Ordering.{match_ordering, ordering_reverse}
use Rattle.std.specs.Cmp.Lexicographic.{slice_cmp}
use Rattle.std.specs.Str.{bytes_eq}
use Rattle.std.proofs.lemmas.Cmp.{nat_list_cmp_total}
use Rattle.std.proofs.lemmas.Map.Text.{is_eq-slice_cmp}
use Rattle.std.proofs.lemmas.Slice.Eq.{bytes_eq-Decides}
use Rattle.ferry_msgpack.specs.Tree.{Tree, Pairs, no_pairs, pair, put}
use Rattle.ferry_msgpack.specs.View.{value_view, pairs_view}
use Rattle.ferry_msgpack.specs.Writable.{IsBelow, IsIncreasing}
use Rattle.ferry_msgpack.proofs.ViewLemmas.{Entry}
use Rattle.ferry_fields.specs.Fields.{value_of}
use Rattle.ferry_fields.specs.Others.{is_among, without}
use Rattle.ferry_fields.proofs.FieldLemmas.{value_of-here, value_of-other}
use Rattle.ferry_fields.proofs.OtherLemmas.{without-among, without-other}

-- ---- names that increase

below_at : (f : Entry) (es : List Entry) (i : ℕ) (e : Entry) → IsIncreasing (pairs_view (f ∷ es)) → i < length es
    → slice_cmp nat_cmp f.0.items (get_or es i e).0.items ≡ Less
below_at f [] i e inc lt = absurd (omega arith)
below_at f (g ∷ es) zero e inc lt = inc.0
below_at f (g ∷ es) (suc i) e inc lt = nat_list_cmp_total.trans f.0.items g.0.items (get_or es i e).0.items inc.0 (below_at g es i e inc.1 (omega arith))

above_at : (f : Entry) (es : List Entry) (i : ℕ) (e : Entry) → IsIncreasing (pairs_view (f ∷ es)) → i < length es
    → slice_cmp nat_cmp (get_or es i e).0.items f.0.items ≡ Greater
above_at f es i e inc lt = nat_list_cmp_total.antisymm (get_or es i e).0.items f.0.items ∙ ap ordering_reverse (below_at f es i e inc lt)

-- pairs whose names increase, put one after the other
put_next : (es : List Entry) (i : ℕ) (e : Entry) → IsIncreasing (pairs_view es) → i < length es
    → put (get_or es i e).0.items (value_view (get_or es i e).1) (pairs_view (take i es)) ≡ pairs_view (take (suc i) es)
put_next [] i e inc lt = absurd (omega arith)
put_next (f ∷ es) zero e inc lt = refl
put_next (f ∷ es) (suc i) e inc lt = rw (above_at f es i e inc (omega arith)) (ap (pair f.0.items (value_view f.1)) (put_next es i e inc.1 (omega arith)))

pub put_more : (es : List Entry) (i : ℕ) (e : Entry) → IsIncreasing (pairs_view es) → i < length es
    → put (get_or es i e).0.items (value_view (get_or es i e).1) (pairs_view (take i es)) ≡ pairs_view (take (i + 1) es)
put_more es i e inc lt = rw (add-one i) (put_next es i e inc lt)

IsBelow-put : (l k : List ℕ) (t : Tree) (ps : Pairs) → slice_cmp nat_cmp l k ≡ Less → IsBelow l ps → IsBelow l (put k t ps)
IsBelow-put l k t no_pairs below under = below
IsBelow-put l k t (pair m u ps) below under =
    let P : Ordering → Type 0 = λ o. IsBelow l (match_ordering o (pair k t (pair m u ps)) (pair m t ps) (pair m u (put k t ps))) in
    elim (slice_cmp nat_cmp k m) as P [ Less ↦ below | Equal ↦ under | Greater ↦ under ]

increasing_at_order : (k : List ℕ) (t : Tree) (l : List ℕ) (u : Tree) (ps : Pairs) (o : Ordering) → slice_cmp nat_cmp k l ≡ o → IsIncreasing (pair l u ps)
    → IsIncreasing (put k t ps)
    → IsIncreasing (match_ordering o (pair k t (pair l u ps)) (pair l t ps) (pair l u (put k t ps)))
increasing_at_order k t l u ps Less is old rest = (is, old)
increasing_at_order k t l u ps Equal is old rest = old
increasing_at_order k t l u ps Greater is old rest =
    (IsBelow-put l k t ps (nat_list_cmp_total.antisymm l k ∙ ap ordering_reverse is) old.0, rest)

-- names that increase do so with another one put in its place
pub IsIncreasing-put : (k : List ℕ) (t : Tree) (ps : Pairs) → IsIncreasing ps → IsIncreasing (put k t ps)
IsIncreasing-put k t no_pairs old = (tt, tt)
IsIncreasing-put k t (pair l u ps) old = increasing_at_order k t l u ps (slice_cmp nat_cmp k l) refl old (IsIncreasing-put k t ps old.1)

-- ---- what is put is there

pub same_text : (k l : List ℕ) → slice_cmp nat_cmp k l ≡ Equal → k ≡ l
same_text k l e = (bytes_eq-Decides k l).0 (sym (is_eq-slice_cmp k l) ∙ ap is_eq e)

pub bytes_eq-self : (k : List ℕ) → bytes_eq k k ≡ true
bytes_eq-self k = (bytes_eq-Decides k k).1 refl

value_at_order : (k : List ℕ) (t : Tree) (l : List ℕ) (u : Tree) (ps : Pairs) (o : Ordering) → slice_cmp nat_cmp k l ≡ o → value_of k (put k t ps) ≡ Some t
    → value_of k (match_ordering o (pair k t (pair l u ps)) (pair l t ps) (pair l u (put k t ps))) ≡ Some t
value_at_order k t l u ps Less is rest = value_of-here k k t (pair l u ps) (bytes_eq-self k)
value_at_order k t l u ps Equal is rest = value_of-here k l t ps (rw (same_text k l is) (bytes_eq-self l))
value_at_order k t l u ps Greater is rest =
    let other : bytes_eq l k ≡ false = sym (is_eq-slice_cmp l k) ∙ ap is_eq (nat_list_cmp_total.antisymm l k ∙ ap ordering_reverse is) in
    value_of-other k l u (put k t ps) other ∙ rest

-- the value of a name that was put
pub value_of-put : (k : List ℕ) (t : Tree) (ps : Pairs) → value_of k (put k t ps) ≡ Some t
value_of-put k t no_pairs = value_of-here k k t no_pairs (bytes_eq-self k)
value_of-put k t (pair l u ps) = value_at_order k t l u ps (slice_cmp nat_cmp k l) refl (value_of-put k t ps)

pub behind_same : (k l : List ℕ) (u : Tree) (ps qs : Pairs) (b : Bool) → bytes_eq l k ≡ b → value_of k qs ≡ value_of k ps
    → value_of k (pair l u qs) ≡ value_of k (pair l u ps)
behind_same k l u ps qs true is rest = value_of-here k l u qs is ∙ sym (value_of-here k l u ps is)
behind_same k l u ps qs false is rest = value_of-other k l u qs is ∙ rest ∙ sym (value_of-other k l u ps is)

other_at_order : (k m : List ℕ) (t : Tree) (l : List ℕ) (u : Tree) (ps : Pairs) (o : Ordering) → bytes_eq m k ≡ false → slice_cmp nat_cmp m l ≡ o
    → value_of k (put m t ps) ≡ value_of k ps
    → value_of k (match_ordering o (pair m t (pair l u ps)) (pair l t ps) (pair l u (put m t ps))) ≡ value_of k (pair l u ps)
other_at_order k m t l u ps Less other is rest = value_of-other k m t (pair l u ps) other
other_at_order k m t l u ps Equal other is rest =
    let named : bytes_eq l k ≡ false = rw (sym (same_text m l is)) other in
    value_of-other k l t ps named ∙ sym (value_of-other k l u ps named)
other_at_order k m t l u ps Greater other is rest = behind_same k l u ps (put m t ps) (bytes_eq l k) refl rest

-- the value of another name
pub value_of-put_other : (k m : List ℕ) (t : Tree) (ps : Pairs) → bytes_eq m k ≡ false → value_of k (put m t ps) ≡ value_of k ps
value_of-put_other k m t no_pairs other = value_of-other k m t no_pairs other
value_of-put_other k m t (pair l u ps) other = other_at_order k m t l u ps (slice_cmp nat_cmp m l) other refl (value_of-put_other k m t ps other)

-- ---- a name among some that is put is no other name

behind_others : (names : List (List ℕ)) (l : List ℕ) (u : Tree) (ps qs : Pairs) (b : Bool) → is_among names l ≡ b → without names qs ≡ without names ps
    → without names (pair l u qs) ≡ without names (pair l u ps)
behind_others names l u ps qs true is rest = without-among names l u qs is ∙ rest ∙ sym (without-among names l u ps is)
behind_others names l u ps qs false is rest = without-other names l u qs is ∙ ap (pair l u) rest ∙ sym (without-other names l u ps is)

others_at_order : (names : List (List ℕ)) (m : List ℕ) (t : Tree) (l : List ℕ) (u : Tree) (ps : Pairs) (o : Ordering) → is_among names m ≡ true
    → slice_cmp nat_cmp m l ≡ o → without names (put m t ps) ≡ without names ps
    → without names (match_ordering o (pair m t (pair l u ps)) (pair l t ps) (pair l u (put m t ps))) ≡ without names (pair l u ps)
others_at_order names m t l u ps Less among is rest = without-among names m t (pair l u ps) among
others_at_order names m t l u ps Equal among is rest =
    let named : is_among names l ≡ true = ap (is_among names) (sym (same_text m l is)) ∙ among in
    without-among names l t ps named ∙ sym (without-among names l u ps named)
others_at_order names m t l u ps Greater among is rest = behind_others names l u ps (put m t ps) (is_among names l) refl rest

-- a pair that is put under one of the names is left out
pub without-put : (names : List (List ℕ)) (m : List ℕ) (t : Tree) (ps : Pairs) → is_among names m ≡ true → without names (put m t ps) ≡ without names ps
without-put names m t no_pairs among = without-among names m t no_pairs among
without-put names m t (pair l u ps) among = others_at_order names m t l u ps (slice_cmp nat_cmp m l) among refl (without-put names m t ps among)
