-- Lemmas on specs/Same.antt: the test holds exactly of a value and itself.
use Rattle.std.proofs.Common.{◌≡◌, ℕ, Bool, true, false, ◌&&◌, List, []}
use Rattle.std.proofs.Common.{◌∷◌, length, drop, refl, sym, ◌∙◌, ap, arith}
use Rattle.std.proofs.lemmas.Slice.Eq.{bytes_eq-Decides}
use Rattle.std.specs.Cmp.{booleans_Decides, signed_Decides}
use Rattle.std.specs.Str.{bytes_eq}
use Rattle.ferry_msgpack.specs.Tree.{Tree, nil, flag, number, raw, array, table, Items, no_items, item, Pairs, no_pairs, pair}
use Rattle.ferry_msgpack.specs.View.{value_view, items_view, pairs_view}
use Rattle.ferry_msgpack.specs.declared.value.Value.{Value}
use Rattle.ferry_msgpack.proofs.ViewLemmas.{Entry}
use Rattle.ferry_compare.specs.Same.{same_tree, same_items, same_pairs}

both_true : (a b : Bool) → (a && b) ≡ true → (a ≡ true) × (b ≡ true)
both_true true b e = (refl, e)
both_true false b e = absurd (let no : ⊥ = cc in no)

mutual
  pub tree_says : (a b : Tree) → same_tree a b ≡ true → a ≡ b
  tree_says nil nil e = refl
  tree_says nil (flag b) e = absurd (let no : ⊥ = cc in no)
  tree_says nil (number b) e = absurd (let no : ⊥ = cc in no)
  tree_says nil (raw b) e = absurd (let no : ⊥ = cc in no)
  tree_says nil (array b) e = absurd (let no : ⊥ = cc in no)
  tree_says nil (table b) e = absurd (let no : ⊥ = cc in no)
  tree_says (flag a) nil e = absurd (let no : ⊥ = cc in no)
  tree_says (flag a) (flag b) e = ap flag ((booleans_Decides a b).0 e)
  tree_says (flag a) (number b) e = absurd (let no : ⊥ = cc in no)
  tree_says (flag a) (raw b) e = absurd (let no : ⊥ = cc in no)
  tree_says (flag a) (array b) e = absurd (let no : ⊥ = cc in no)
  tree_says (flag a) (table b) e = absurd (let no : ⊥ = cc in no)
  tree_says (number a) nil e = absurd (let no : ⊥ = cc in no)
  tree_says (number a) (flag b) e = absurd (let no : ⊥ = cc in no)
  tree_says (number a) (number b) e = ap number ((signed_Decides a b).0 e)
  tree_says (number a) (raw b) e = absurd (let no : ⊥ = cc in no)
  tree_says (number a) (array b) e = absurd (let no : ⊥ = cc in no)
  tree_says (number a) (table b) e = absurd (let no : ⊥ = cc in no)
  tree_says (raw a) nil e = absurd (let no : ⊥ = cc in no)
  tree_says (raw a) (flag b) e = absurd (let no : ⊥ = cc in no)
  tree_says (raw a) (number b) e = absurd (let no : ⊥ = cc in no)
  tree_says (raw a) (raw b) e = ap raw ((bytes_eq-Decides a b).0 e)
  tree_says (raw a) (array b) e = absurd (let no : ⊥ = cc in no)
  tree_says (raw a) (table b) e = absurd (let no : ⊥ = cc in no)
  tree_says (array a) nil e = absurd (let no : ⊥ = cc in no)
  tree_says (array a) (flag b) e = absurd (let no : ⊥ = cc in no)
  tree_says (array a) (number b) e = absurd (let no : ⊥ = cc in no)
  tree_says (array a) (raw b) e = absurd (let no : ⊥ = cc in no)
  tree_says (array a) (array b) e = ap array (items_say a b e)
  tree_says (array a) (table b) e = absurd (let no : ⊥ = cc in no)
  tree_says (table a) nil e = absurd (let no : ⊥ = cc in no)
  tree_says (table a) (flag b) e = absurd (let no : ⊥ = cc in no)
  tree_says (table a) (number b) e = absurd (let no : ⊥ = cc in no)
  tree_says (table a) (raw b) e = absurd (let no : ⊥ = cc in no)
  tree_says (table a) (array b) e = absurd (let no : ⊥ = cc in no)
  tree_says (table a) (table b) e = ap table (pairs_say a b e)

  items_say : (a b : Items) → same_items a b ≡ true → a ≡ b
  items_say no_items no_items e = refl
  items_say no_items (item u us) e = absurd (let no : ⊥ = cc in no)
  items_say (item t ts) no_items e = absurd (let no : ⊥ = cc in no)
  items_say (item t ts) (item u us) e =
      let p = both_true (same_tree t u) (same_items ts us) e in
      ap (λ (x : Tree). item x ts) (tree_says t u p.0) ∙ ap (λ (xs : Items). item u xs) (items_say ts us p.1)

  pairs_say : (a b : Pairs) → same_pairs a b ≡ true → a ≡ b
  pairs_say no_pairs no_pairs e = refl
  pairs_say no_pairs (pair l u us) e = absurd (let no : ⊥ = cc in no)
  pairs_say (pair k t ts) no_pairs e = absurd (let no : ⊥ = cc in no)
  pairs_say (pair k t ts) (pair l u us) e =
      let p = both_true (bytes_eq k l) (same_tree t u && same_pairs ts us) e in
      let q = both_true (same_tree t u) (same_pairs ts us) p.1 in
      ap (λ (n : List ℕ). pair n t ts) ((bytes_eq-Decides k l).0 p.0)
      ∙ (ap (λ (x : Tree). pair l x ts) (tree_says t u q.0) ∙ ap (λ (xs : Pairs). pair l u xs) (pairs_say ts us q.1))

mutual
  tree_itself : (a : Tree) → same_tree a a ≡ true
  tree_itself nil = refl
  tree_itself (flag b) = (booleans_Decides b b).1 refl
  tree_itself (number z) = (signed_Decides z z).1 refl
  tree_itself (raw s) = (bytes_eq-Decides s s).1 refl
  tree_itself (array ts) = items_itself ts
  tree_itself (table ps) = pairs_itself ps

  items_itself : (a : Items) → same_items a a ≡ true
  items_itself no_items = refl
  items_itself (item t ts) = rw (tree_itself t) (items_itself ts)

  pairs_itself : (a : Pairs) → same_pairs a a ≡ true
  pairs_itself no_pairs = refl
  pairs_itself (pair k t ts) = rw ((bytes_eq-Decides k k).1 refl, tree_itself t) (pairs_itself ts)

pub tree_passes : (a b : Tree) → a ≡ b → same_tree a b ≡ true
tree_passes a b e = ap (λ (t : Tree). same_tree a t) (sym e) ∙ tree_itself a

-- ---- arrays, from the i-th value on

and_false : (a b : Bool) → b ≡ false → (a && b) ≡ false
and_false true b e = e
and_false false b e = refl

abbrev pub items_from : List Value → List Value → ℕ → Bool
items_from vs ws i = same_items (items_view (drop i vs)) (items_view (drop i ws))

pub items_long : (vs ws : List Value) → (length vs ≡ length ws → ⊥) → same_items (items_view vs) (items_view ws) ≡ false
items_long [] [] differ = absurd (differ refl)
items_long [] (w ∷ ws) differ = refl
items_long (v ∷ vs) [] differ = refl
items_long (v ∷ vs) (w ∷ ws) differ =
    and_false (same_tree (value_view v) (value_view w)) (same_items (items_view vs) (items_view ws)) (items_long vs ws (λ e. differ (omega (arith, e))))

-- ---- tables, from the i-th pair on

abbrev pub pairs_from : List Entry → List Entry → ℕ → Bool
pairs_from es fs i = same_pairs (pairs_view (drop i es)) (pairs_view (drop i fs))

pub pairs_long : (es fs : List Entry) → (length es ≡ length fs → ⊥) → same_pairs (pairs_view es) (pairs_view fs) ≡ false
pairs_long [] [] differ = absurd (differ refl)
pairs_long [] (f ∷ fs) differ = refl
pairs_long (e ∷ es) [] differ = refl
pairs_long (e ∷ es) (f ∷ fs) differ =
    and_false (bytes_eq e.0.items f.0.items) (same_tree (value_view e.1) (value_view f.1) && same_pairs (pairs_view es) (pairs_view fs))
    (and_false (same_tree (value_view e.1) (value_view f.1)) (same_pairs (pairs_view es) (pairs_view fs))
    (pairs_long es fs (λ l. differ (omega (arith, l)))))
