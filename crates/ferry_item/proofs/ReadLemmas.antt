-- Reading the fields of an item: the loop over the chunks, and what fits in values.
use Rattle.std.proofs.Common.{◌≡◌, ℕ, zero, suc, ◌+◌, ◌<◌, ◌≤◌, Bool, true, false, List, [], ◌∷◌, ◌++◌, length, drop, get_or, Option, Some, None, option_map}
use Rattle.std.proofs.Common.{option_and_then, refl, sym, ap, subst, ◌∙◌, append_assoc, append-nil, arith, add-one, drop-cons}
use Rattle.std.proofs.lemmas.List.{drop_all}
use Rattle.std.specs.Str.{bytes_eq}
use Rattle.ferry_msgpack.specs.Tree.{Tree, Items, item, Pairs, no_pairs, pair}
use Rattle.ferry_msgpack.specs.View.{value_view, items_view}
use Rattle.ferry_msgpack.specs.Writable.{Fits, ItemsFit, PairsFit}
use Rattle.ferry_msgpack.specs.declared.value.Value.{Value}
use Rattle.ferry_fields.specs.Fields.{value_of}
use Rattle.ferry_fields.proofs.FieldLemmas.{value_of-here, value_of-other, value_of-none}
use Rattle.ferry_item.specs.Item.{chunk_from, chunk_of, chunks_of, three_of}
use Rattle.ferry_item.specs.declared.item.ChunkRef.{ChunkRef}

-- ---- three values

-- fewer values are no chunk
pub too_few : (vs : List Value) → length vs < 3 → None ≡ option_and_then chunk_from (three_of (items_view vs))
too_few [] lt = refl
too_few (a ∷ []) lt = refl
too_few (a ∷ (b ∷ [])) lt = refl
too_few (a ∷ (b ∷ (c ∷ vs))) lt = absurd (omega arith)

-- more values are no chunk
pub too_many : (vs : List Value) → 4 ≤ length vs → None ≡ option_and_then chunk_from (three_of (items_view vs))
too_many [] le = absurd (omega arith)
too_many (a ∷ []) le = absurd (omega arith)
too_many (a ∷ (b ∷ [])) le = absurd (omega arith)
too_many (a ∷ (b ∷ (c ∷ []))) le = absurd (omega arith)
too_many (a ∷ (b ∷ (c ∷ (d ∷ vs)))) le = refl

-- ---- chunks, one by one

pub fits_at : (vs : List Value) (i : ℕ) (v : Value) → ItemsFit (items_view vs) → i < length vs → Fits (value_view (get_or vs i v))
fits_at [] i v fit lt = absurd (omega arith)
fits_at (w ∷ vs) zero v fit lt = fit.0
fits_at (w ∷ vs) (suc i) v fit lt = fits_at vs i v fit.1 (omega arith)

-- these chunks, and those of the values from here on
unfoldable pub chunks_with : List ChunkRef → Items → Option (List ChunkRef)
chunks_with chunks items = option_map (λ others. chunks ++ others) (chunks_of items)

items-drop : (vs : List Value) (place : ℕ) (v : Value) → place < length vs
    → items_view (drop place vs) ≡ item (value_view (get_or vs place v)) (items_view (drop (place + 1) vs))
items-drop vs place v lt = rw (add-one place) (ap items_view (drop-cons vs place v lt))

append_none : (o : Option (List ChunkRef)) → option_map (λ others. [] ++ others) o ≡ o
append_none None = refl
append_none (Some others) = refl

pub chunks_start : (vs : List Value) → chunks_with [] (items_view (drop 0 vs)) ≡ chunks_of (items_view vs)
unfolding chunks_with
chunks_start vs = append_none (chunks_of (items_view vs))

chunks_after : (chunks : List ChunkRef) (chunk : ChunkRef) (o : Option (List ChunkRef))
    → option_map (λ others. chunks ++ others) (option_map (λ others. chunk ∷ others) o) ≡ option_map (λ others. (chunks ++ chunk ∷ []) ++ others) o
chunks_after chunks chunk None = refl
chunks_after chunks chunk (Some others) = ap (λ all. Some all) (sym (append_assoc chunks (chunk ∷ []) others))

pub chunks_more : (chunks : List ChunkRef) (chunk : ChunkRef) (vs : List Value) (place : ℕ) (v : Value) → place < length vs
    → chunk_of (value_view (get_or vs place v)) ≡ Some chunk
    → chunks_with (chunks ++ chunk ∷ []) (items_view (drop (place + 1) vs)) ≡ chunks_with chunks (items_view (drop place vs))
unfolding chunks_with chunks_of
chunks_more chunks chunk vs place v lt is =
    let rest = chunks_of (items_view (drop (place + 1) vs)) in
    let here : chunks_of (items_view (drop place vs)) ≡ option_map (λ others. chunk ∷ others) rest = rw (items-drop vs place v lt, is) refl in
    rw here (sym (chunks_after chunks chunk rest))

-- a value that is no chunk
pub chunks_lost : (chunks : List ChunkRef) (vs : List Value) (place : ℕ) (v : Value) → place < length vs → chunk_of (value_view (get_or vs place v)) ≡ None
    → chunks_with chunks (items_view (drop place vs)) ≡ chunks_of (items_view vs) → chunks_of (items_view vs) ≡ None
unfolding chunks_with chunks_of
chunks_lost chunks vs place v lt is so_far =
    let here : chunks_of (items_view (drop place vs)) ≡ None = rw (items-drop vs place v lt, is) refl in
    let none : chunks_with chunks (items_view (drop place vs)) ≡ None = rw here refl in
    sym so_far ∙ none

pub chunks_done : (chunks : List ChunkRef) (vs : List Value) (place : ℕ) → length vs ≤ place → chunks_with chunks (items_view (drop place vs)) ≡ Some chunks
unfolding chunks_with chunks_of
chunks_done chunks vs place le = rw (drop_all place vs le) (ap (λ all. Some all) (append-nil chunks))

-- ---- the value of a name fits where all do

some_tree : (t u : Tree) → Some t ≡ Some u → t ≡ u
some_tree t u e = cc

no_tree : (t : Tree) (o : Option Tree) → o ≡ None → o ≡ Some t → ⊥
no_tree t o none some = cc

fits_behind : (name key : List ℕ) (t u : Tree) (ps : Pairs) (b : Bool) → bytes_eq key name ≡ b → Fits u → value_of name (pair key u ps) ≡ Some t
    → (value_of name ps ≡ Some t → Fits t) → Fits t
fits_behind name key t u ps true is fits found rest = subst Fits (some_tree u t (sym (value_of-here name key u ps is) ∙ found)) fits
fits_behind name key t u ps false is fits found rest = rest (sym (value_of-other name key u ps is) ∙ found)

pub value_fits : (name : List ℕ) (t : Tree) (ps : Pairs) → PairsFit ps → value_of name ps ≡ Some t → Fits t
value_fits name t no_pairs fits found = absurd (no_tree t (value_of name no_pairs) (value_of-none name) found)
value_fits name t (pair key u ps) fits found = fits_behind name key t u ps (bytes_eq key name) refl fits.1 found (value_fits name t ps fits.2)
