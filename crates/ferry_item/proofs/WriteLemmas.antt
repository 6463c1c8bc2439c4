-- The arrays of chunks, built one after the other.
use Rattle.std.proofs.Common.{◌≡◌, ℕ, ◌+◌, ◌^◌, ◌≤◌, ◌<◌, List, [], ◌∷◌, ◌++◌, length, get_or, take, refl, sym, ap, subst, ◌∙◌}
use Rattle.std.proofs.lemmas.List.{take_more, take_all}
use Rattle.ferry_msgpack.specs.declared.value.Value.{Value}
use Rattle.ferry_msgpack.specs.Tree.{no_items}
use Rattle.ferry_msgpack.specs.View.{value_view, items_view}
use Rattle.ferry_item.specs.Writing.{AreInRange, chunk_tree, chunk_trees}
use Rattle.ferry_item.specs.declared.item.ChunkRef.{ChunkRef}

pub trees_none : no_items ≡ chunk_trees []
unfolding chunk_trees
trees_none = refl

trees_push : (vs : List Value) (v : Value) (chunks : List ChunkRef) (chunk : ChunkRef) → items_view vs ≡ chunk_trees chunks
    → value_view v ≡ chunk_tree chunk → items_view (vs ++ v ∷ []) ≡ chunk_trees (chunks ++ chunk ∷ [])
unfolding chunk_trees
trees_push [] v [] chunk done is = rw is refl
trees_push [] v (c ∷ chunks) chunk done is = absurd cc
trees_push (u ∷ vs) v [] chunk done is = absurd cc
trees_push (u ∷ vs) v (c ∷ chunks) chunk done is =
    let first : value_view u ≡ chunk_tree c = cc in
    let others : items_view vs ≡ chunk_trees chunks = cc in
    rw (first, trees_push vs v chunks chunk others is) refl

pub trees_more : (vs : List Value) (v : Value) (chunks : List ChunkRef) (place : ℕ) (chunk : ChunkRef) → place < length chunks
    → items_view vs ≡ chunk_trees (take place chunks) → value_view v ≡ chunk_tree (get_or chunks place chunk)
    → items_view (vs ++ v ∷ []) ≡ chunk_trees (take (place + 1) chunks)
trees_more vs v chunks place chunk lt done is =
    trees_push vs v (take place chunks) (get_or chunks place chunk) done is ∙ ap chunk_trees (sym (take_more chunks place chunk lt))

pub trees_all : (vs : List Value) (chunks : List ChunkRef) (place : ℕ) → length chunks ≤ place → items_view vs ≡ chunk_trees (take place chunks)
    → items_view vs ≡ chunk_trees chunks
trees_all vs chunks place le done = done ∙ ap chunk_trees (take_all place chunks le)

range_push : (chunks : List ChunkRef) (chunk : ChunkRef) → AreInRange chunks → length chunk.id ≡ 32 → chunk.csize < 2 ^ 64 → AreInRange (chunks ++ chunk ∷ [])
range_push [] chunk range id csize = (id, csize, tt)
range_push (c ∷ chunks) chunk range id csize = (range.0, range.1, range_push chunks chunk range.2 id csize)

pub range_more : (chunks : List ChunkRef) (place : ℕ) (chunk : ChunkRef) → place < length chunks → AreInRange (take place chunks)
    → length (get_or chunks place chunk).id ≡ 32 → (get_or chunks place chunk).csize < 2 ^ 64 → AreInRange (take (place + 1) chunks)
range_more chunks place chunk lt range id csize =
    subst AreInRange (sym (take_more chunks place chunk lt)) (range_push (take place chunks) (get_or chunks place chunk) range id csize)

pub range_all : (chunks : List ChunkRef) (place : ℕ) → length chunks ≤ place → AreInRange (take place chunks) → AreInRange chunks
range_all chunks place le range = subst AreInRange (take_all place chunks le) range
