-- The test of what can be written, value by value and pair by pair, and what it says.
use Rattle.std.proofs.Common.{◌≡◌, ℕ, ◌-◌, ◌^◌, ◌≤◌, ◌<◌, Bool, true, false, ◌&&◌, ltb, List, [], ◌∷◌, length, drop, ℤ, pos, Ordering, Less, Equal, Greater}
use Rattle.std.proofs.Common.{refl, sym, ap, ◌∙◌, arith}
use Rattle.std.proofs.lemmas.Bool.{ltb-true, le-ltb, lt-ltb, false≢true}
use Rattle.std.proofs.lemmas.Int.{ints}
use Rattle.std.specs.Prelude.{neg_ℤ, int_lt, int_le}
use Rattle.std.proofs.lemmas.List.{length-drop}
use Rattle.std.specs.Ordering.{nat_cmp, is_lt}
use Rattle.std.specs.Cmp.Lexicographic.{slice_cmp}
use Rattle.ferry_msgpack.specs.declared.value.Value.{Value}
use Rattle.ferry_msgpack.specs.Tree.{Tree, nil, flag, number, raw, array, table, Items, no_items, item, items_count, Pairs, no_pairs, pair, pairs_count}
use Rattle.ferry_msgpack.specs.View.{items_view, pairs_view}
use Rattle.ferry_msgpack.specs.Writable.{depth, items_depth, pairs_depth, IsNumber, IsBelow, IsIncreasing, Fits, ItemsFit, PairsFit, IsWritable}
use Rattle.ferry_msgpack.specs.WritableTest.{number_fits, is_below, fits_within, items_fit, pairs_fit, keys_increase}
use Rattle.ferry_msgpack.proofs.ViewLemmas.{Entry}
use Rattle.ferry_msgpack.proofs.Appending.{items_count-items_view, pairs_count-pairs_view}

and_false : (b : Bool) → (b && false) ≡ false
and_false true = refl
and_false false = refl

-- ---- arrays

pub array_long : (d : ℕ) (vs : List Value) → 2 ^ 32 ≤ length vs → fits_within d (array (items_view vs)) ≡ false
array_long d vs le =
    let long : ltb (items_count (items_view vs)) (2 ^ 32) ≡ false = le-ltb _ _ (omega (arith, items_count-items_view vs)) in
    rw long (and_false (ltb 0 d))

-- the values from the i-th on
abbrev pub items_from : ℕ → List Value → ℕ → Bool
items_from d vs i = items_fit d (items_view (drop i vs))

pub array_start : (d : ℕ) (vs : List Value) → (d ≡ 0 → ⊥) → length vs < 2 ^ 32 → items_from (d - 1) vs 0 ≡ fits_within d (array (items_view vs))
array_start d vs inner lt =
    let some : ltb 0 d ≡ true = lt-ltb _ _ (omega arith) in
    let short : ltb (items_count (items_view vs)) (2 ^ 32) ≡ true = lt-ltb _ _ (omega (arith, items_count-items_view vs)) in
    rw (some, short) refl

-- ---- tables

pub table_long : (d : ℕ) (es : List Entry) → 2 ^ 32 ≤ length es → fits_within d (table (pairs_view es)) ≡ false
table_long d es le =
    let long : ltb (pairs_count (pairs_view es)) (2 ^ 32) ≡ false = le-ltb _ _ (omega (arith, pairs_count-pairs_view es)) in
    rw long (and_false (ltb 0 d))

-- the pairs from the i-th on
abbrev pub pairs_from : ℕ → List Entry → ℕ → Bool
pairs_from d es i = pairs_fit d (pairs_view (drop i es))

pub table_start : (d : ℕ) (es : List Entry) → (d ≡ 0 → ⊥) → length es < 2 ^ 32 → keys_increase (pairs_view es) ≡ true
    → pairs_from (d - 1) es 0 ≡ fits_within d (table (pairs_view es))
table_start d es inner lt order =
    let some : ltb 0 d ≡ true = lt-ltb _ _ (omega arith) in
    let short : ltb (pairs_count (pairs_view es)) (2 ^ 32) ≡ true = lt-ltb _ _ (omega (arith, pairs_count-pairs_view es)) in
    rw (some, short, order) refl

-- ---- keys

-- the keys from the one before the i-th on
abbrev pub keys_from : List Entry → ℕ → Bool
keys_from es i = keys_increase (pairs_view (drop (i - 1) es))

one_key : (gs : List Entry) → length gs ≤ 1 → keys_increase (pairs_view gs) ≡ true
one_key [] le = refl
one_key (e ∷ []) le = refl
one_key (e ∷ f ∷ gs) le = absurd (omega arith)

pub keys_end : (es : List Entry) (i : ℕ) (total : Bool) → 1 ≤ i → length es ≤ i → keys_from es i ≡ total → true ≡ total
keys_end es i total le past so_far = sym (one_key (drop (i - 1) es) (omega (arith, length-drop (i - 1) es))) ∙ so_far

-- ---- what the test says

lt_says : (o : Ordering) → is_lt o ≡ true → o ≡ Less
lt_says Less e = refl
lt_says Equal e = absurd (false≢true e)
lt_says Greater e = absurd (false≢true e)

both_true : (a b : Bool) → (a && b) ≡ true → (a ≡ true) × (b ≡ true)
both_true true b e = (refl, e)
both_true false b e = absurd (false≢true e)

number_says : (z : ℤ) → number_fits z ≡ true → IsNumber z
number_says z e =
    let p = both_true (int_le (neg_ℤ (pos (2 ^ 63))) z) (int_lt z (pos (2 ^ 64))) e in
    (grind (arith, ints), grind (arith, ints))

number_passes : (z : ℤ) → IsNumber z → number_fits z ≡ true
number_passes z h = grind (arith, ints)

below_says : (k : List ℕ) (ps : Pairs) → is_below k ps ≡ true → IsBelow k ps
below_says k no_pairs e = tt
below_says k (pair l t ps) e = lt_says (slice_cmp nat_cmp k l) e

below_passes : (k : List ℕ) (ps : Pairs) → IsBelow k ps → is_below k ps ≡ true
below_passes k no_pairs h = refl
below_passes k (pair l t ps) h = ap is_lt h

keys_say : (ps : Pairs) → keys_increase ps ≡ true → IsIncreasing ps
keys_say no_pairs e = tt
keys_say (pair k t ps) e = let p = both_true (is_below k ps) (keys_increase ps) e in (below_says k ps p.0, keys_say ps p.1)

keys_pass : (ps : Pairs) → IsIncreasing ps → keys_increase ps ≡ true
keys_pass no_pairs h = refl
keys_pass (pair k t ps) h = rw (below_passes k ps h.0, keys_pass ps h.1) refl

mutual
  pub fits_says : (d : ℕ) (t : Tree) → fits_within d t ≡ true → (depth t ≤ d) × Fits t
  fits_says d nil e = (omega arith, tt)
  fits_says d (flag b) e = (omega arith, tt)
  fits_says d (number z) e = (omega arith, number_says z e)
  fits_says d (raw content) e = (omega arith, ltb-true _ _ e)
  fits_says d (array items) e =
      let p = both_true (ltb 0 d) (ltb (items_count items) (2 ^ 32) && items_fit (d - 1) items) e in
      let q = both_true (ltb (items_count items) (2 ^ 32)) (items_fit (d - 1) items) p.1 in
      let inner = items_say (d - 1) items q.1 in
      (omega (arith, ltb-true 0 d p.0, inner.0), (ltb-true _ _ q.0, inner.1))
  fits_says d (table pairs) e =
      let p = both_true (ltb 0 d) (ltb (pairs_count pairs) (2 ^ 32) && (keys_increase pairs && pairs_fit (d - 1) pairs)) e in
      let q = both_true (ltb (pairs_count pairs) (2 ^ 32)) (keys_increase pairs && pairs_fit (d - 1) pairs) p.1 in
      let r = both_true (keys_increase pairs) (pairs_fit (d - 1) pairs) q.1 in
      let inner = pairs_say (d - 1) pairs r.1 in
      (omega (arith, ltb-true 0 d p.0, inner.0), (ltb-true _ _ q.0, keys_say pairs r.0, inner.1))

  items_say : (d : ℕ) (items : Items) → items_fit d items ≡ true → (items_depth items ≤ d) × ItemsFit items
  items_say d no_items e = (omega arith, tt)
  items_say d (item t ts) e =
      let p = both_true (fits_within d t) (items_fit d ts) e in
      let first = fits_says d t p.0 in
      let others = items_say d ts p.1 in
      (omega (arith, first.0, others.0), (first.1, others.1))

  pairs_say : (d : ℕ) (pairs : Pairs) → pairs_fit d pairs ≡ true → (pairs_depth pairs ≤ d) × PairsFit pairs
  pairs_say d no_pairs e = (omega arith, tt)
  pairs_say d (pair k t ps) e =
      let p = both_true (ltb (length k) (2 ^ 32)) (fits_within d t && pairs_fit d ps) e in
      let q = both_true (fits_within d t) (pairs_fit d ps) p.1 in
      let first = fits_says d t q.0 in
      let others = pairs_say d ps q.1 in
      (omega (arith, first.0, others.0), (ltb-true _ _ p.0, first.1, others.1))

mutual
  pub fits_passes : (d : ℕ) (t : Tree) → depth t ≤ d → Fits t → fits_within d t ≡ true
  fits_passes d nil deep h = refl
  fits_passes d (flag b) deep h = refl
  fits_passes d (number z) deep h = number_passes z h
  fits_passes d (raw content) deep h = lt-ltb _ _ h
  fits_passes d (array items) deep h = rw (lt-ltb 0 d (omega arith), lt-ltb _ _ h.0, items_pass (d - 1) items (omega arith) h.1) refl
  fits_passes d (table pairs) deep h = rw (lt-ltb 0 d (omega arith), lt-ltb _ _ h.0, keys_pass pairs h.1, pairs_pass (d - 1) pairs (omega arith) h.2) refl

  items_pass : (d : ℕ) (items : Items) → items_depth items ≤ d → ItemsFit items → items_fit d items ≡ true
  items_pass d no_items deep h = refl
  items_pass d (item t ts) deep h = rw (fits_passes d t (omega arith) h.0, items_pass d ts (omega arith) h.1) refl

  pairs_pass : (d : ℕ) (pairs : Pairs) → pairs_depth pairs ≤ d → PairsFit pairs → pairs_fit d pairs ≡ true
  pairs_pass d no_pairs deep h = refl
  pairs_pass d (pair k t ps) deep h = rw (lt-ltb _ _ h.0, fits_passes d t (omega arith) h.1, pairs_pass d ps (omega arith) h.2) refl

pub writable_says : (t : Tree) → fits_within 64 t ≡ true → IsWritable t
writable_says t e = let p = fits_says 64 t e in record { depth_fits = p.0; fits = p.1 }

pub writable_passes : (t : Tree) → IsWritable t → fits_within 64 t ≡ true
writable_passes t h = fits_passes 64 t h.depth_fits h.fits
