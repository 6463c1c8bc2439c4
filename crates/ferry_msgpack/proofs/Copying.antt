-- Copying values and pairs one after the other, as a loop does.
use Rattle.std.proofs.Common.{◌≡◌, ℕ, ◌+◌, ◌<◌, List, [], ◌∷◌, ◌++◌, length, get_or, take, sym, ap, refl, ◌∙◌, arith}
use Rattle.std.proofs.lemmas.List.{take_more}
use Rattle.ferry_msgpack.specs.declared.value.Value.{Value}
use Rattle.ferry_msgpack.specs.Tree.{no_items, item, Tree, Pairs, no_pairs, pair}
use Rattle.ferry_msgpack.specs.View.{value_view, items_view, pairs_view}
use Rattle.ferry_msgpack.proofs.Loops.{append_items}
use Rattle.ferry_msgpack.proofs.ViewLemmas.{Entry, items_view-push}

abbrev append_pair : Pairs → List ℕ → Tree → Pairs
append_pair no_pairs k t = pair k t no_pairs
append_pair (pair l u ps) k t = pair l u (append_pair ps k t)

pairs_view-push : (es : List Entry) (e : Entry) → pairs_view (es ++ e ∷ []) ≡ append_pair (pairs_view es) e.0.items (value_view e.1)
pairs_view-push [] e = refl
pairs_view-push (f ∷ es) e = ap (pair f.0.items (value_view f.1)) (pairs_view-push es e)

pub item_copied : (copies vs us : List Value) (i : ℕ) (v w : Value) → us ≡ vs → i < length us → w ≡ get_or us i w
    → items_view copies ≡ items_view (take i vs) → value_view v ≡ value_view w
    → items_view (copies ++ v ∷ []) ≡ items_view (take (i + 1) vs)
item_copied copies vs us i v w same below found so_far copied =
    let lt : i < length vs = omega (arith, ap length same) in
    let is : w ≡ get_or vs i w = found ∙ ap (λ ws. get_or ws i w) same in
    let last : take (i + 1) vs ≡ take i vs ++ w ∷ [] = take_more vs i w lt ∙ ap (λ x. take i vs ++ x ∷ []) (sym is) in
    items_view-push copies v ∙ ap (λ ts. append_items ts (item (value_view v) no_items)) so_far
    ∙ ap (λ t. append_items (items_view (take i vs)) (item t no_items)) copied
    ∙ sym (items_view-push (take i vs) w) ∙ ap items_view (sym last)

pub pair_copied : (copies es fs : List Entry) (i : ℕ) (e f : Entry) → fs ≡ es → i < length fs → f ≡ get_or fs i f
    → pairs_view copies ≡ pairs_view (take i es) → e.0.items ≡ f.0.items → value_view e.1 ≡ value_view f.1
    → pairs_view (copies ++ e ∷ []) ≡ pairs_view (take (i + 1) es)
pair_copied copies es fs i e f same below found so_far named copied =
    let lt : i < length es = omega (arith, ap length same) in
    let is : f ≡ get_or es i f = found ∙ ap (λ gs. get_or gs i f) same in
    let last : take (i + 1) es ≡ take i es ++ f ∷ [] = take_more es i f lt ∙ ap (λ x. take i es ++ x ∷ []) (sym is) in
    pairs_view-push copies e ∙ ap (λ ps. append_pair ps e.0.items (value_view e.1)) so_far
    ∙ ap (λ k. append_pair (pairs_view (take i es)) k (value_view e.1)) named
    ∙ ap (append_pair (pairs_view (take i es)) f.0.items) copied ∙ sym (pairs_view-push (take i es) f) ∙ ap pairs_view (sym last)
