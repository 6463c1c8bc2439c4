-- What is written is read as the same item.
use Rattle.std.proofs.Common.{◌≡◌, ℕ, ◌+◌, ◌^◌, ◌<◌, ◌≤◌, Bool, true, false, List, [], ◌∷◌, ◌++◌, length, codes, Option, Some, None, is_none, is_some}
use Rattle.std.proofs.Common.{option_map, option_and_then, Result, Ok, Err, OnOk, Ordering, Less, Equal, Greater, nat_cmp, refl, sym, ap, subst, ◌∙◌, arith}
use Rattle.std.specs.List.{AllByRecursion}
use Rattle.std.specs.Ordering.{match_ordering}
use Rattle.std.specs.Cmp.Lexicographic.{slice_cmp}
use Rattle.std.specs.Str.{bytes_eq}
use Rattle.std.proofs.lemmas.Bool.{le-leb, or_parts}
use Rattle.std.proofs.lemmas.Slice.Eq.{bytes_eq-Decides}
use Rattle.ferry_base.specs.Limits.{content_limit}
use Rattle.ferry_msgpack.specs.Tree.{Tree, array, table, items_count, Pairs, no_pairs, pair, pairs_count, put}
use Rattle.ferry_msgpack.specs.Shortest.{shortest}
use Rattle.ferry_msgpack.specs.Writable.{items_depth, Fits, ItemsFit, IsWritable}
use Rattle.ferry_msgpack.proofs.ShortestLemmas.{shortest_spelled}
use Rattle.ferry_msgpack.proofs.SpellingLemmas.{value_again}
use Rattle.ferry_fields.specs.Fields.{value_of, raw_of}
use Rattle.ferry_fields.specs.Others.{is_among, without, has_among}
use Rattle.ferry_fields.proofs.FieldLemmas.{value_of-other, value_of-none}
use Rattle.ferry_fields.proofs.OtherLemmas.{without-apart}
use Rattle.ferry_fields.proofs.PutLemmas.{value_of-put, value_of-put_other, without-put}
use Rattle.ferry_fields.proofs.SizeLemmas.{good_writable, put_good, small_number, writable_good}
use Rattle.ferry_item.specs.Item.{ItemText, chunk_of, chunks_in, chunks_names, chunks_of, chunks_where, is_healed, item_of, lacks_path}
use Rattle.ferry_item.specs.Stream.{an_item, front_item, front_of, front_read}
use Rattle.ferry_item.specs.Writing.{AreInRange, ChunksFit, IsPackable, RangeOf, chunk_tree, chunk_trees, field_pairs, item_pairs, item_text, with_chunks}
use Rattle.ferry_item.specs.declared.fault.ItemFault.{ItemFault}
use Rattle.ferry_item.specs.declared.item.ChunkRef.{ChunkRef}
use Rattle.ferry_item.proofs.FrontLemmas.{item_is}

-- ---- the chunks

chunk_again : (chunk : ChunkRef) → chunk.size ≤ content_limit → length chunk.id ≡ 32 → chunk_of (chunk_tree chunk) ≡ Some chunk
unfolding chunk_of
chunk_again chunk small id = rw (id, le-leb chunk.size content_limit small) refl

chunks_again : (chunks : List ChunkRef) → AllByRecursion (λ chunk. chunk.size ≤ content_limit) chunks → AreInRange chunks
    → chunks_of (chunk_trees chunks) ≡ Some chunks
unfolding chunks_of chunk_trees
chunks_again [] small range = refl
chunks_again (chunk ∷ chunks) small range = rw (chunk_again chunk small.0 range.0, chunks_again chunks small.1 range.2) refl

absent_behind : (names : List (List ℕ)) (k l : List ℕ) (t : Tree) (ps : Pairs) (b : Bool) → bytes_eq l k ≡ b → is_among names l ≡ false
    → is_among names k ≡ true → value_of k ps ≡ None → value_of k (pair l t ps) ≡ None
absent_behind names k l t ps true is apart named rest =
    let same : l ≡ k = (bytes_eq-Decides l k).0 is in
    let named_too : is_among names l ≡ true = ap (is_among names) same ∙ named in
    absurd cc
absent_behind names k l t ps false is apart named rest = value_of-other k l t ps is ∙ rest

-- a name that none of the pairs has is absent
absent : (names : List (List ℕ)) (k : List ℕ) (ps : Pairs) → has_among names ps ≡ false → is_among names k ≡ true → value_of k ps ≡ None
unfolding has_among
absent names k no_pairs apart named = value_of-none k
absent names k (pair l t ps) apart named =
    let both = or_parts (is_among names l) (has_among names ps) apart in
    absent_behind names k l t ps (bytes_eq l k) refl both.0 named (absent names k ps both.1 named)

-- ---- the fields of the map that is written

chunks_are : (chunks : Option (List ChunkRef)) (ps : Pairs) (count : ℕ) → ChunksFit chunks count → RangeOf chunks → has_among chunks_names ps ≡ false
    → chunks_in (with_chunks chunks ps) ≡ Some chunks
chunks_are None ps count fit range apart = ap chunks_where (absent chunks_names (codes "chunks") ps apart refl)
chunks_are (Some chunks) ps count fit range apart =
    ap chunks_where (value_of-put (codes "chunks") (array (chunk_trees chunks)) ps) ∙ ap (option_map Some) (chunks_again chunks fit.0 range)

path_is : (chunks : Option (List ChunkRef)) (ps : Pairs) → lacks_path (with_chunks chunks ps) ≡ lacks_path ps
path_is None ps = refl
path_is (Some chunks) ps =
    ap (λ (o : Option Tree). is_none (option_and_then raw_of o)) (value_of-put_other (codes "path") (codes "chunks") (array (chunk_trees chunks)) ps refl)

healed_is : (chunks : Option (List ChunkRef)) (ps : Pairs) → is_healed (with_chunks chunks ps) ≡ is_healed ps
healed_is None ps = refl
healed_is (Some chunks) ps =
    ap (λ (o : Option Tree). is_some o) (value_of-put_other (codes "chunks_healthy") (codes "chunks") (array (chunk_trees chunks)) ps refl)

fields_are : (chunks : Option (List ChunkRef)) (ps : Pairs) → has_among chunks_names ps ≡ false → without chunks_names (with_chunks chunks ps) ≡ ps
fields_are None ps apart = without-apart chunks_names ps apart
fields_are (Some chunks) ps apart = without-put chunks_names (codes "chunks") (array (chunk_trees chunks)) ps refl ∙ without-apart chunks_names ps apart

item_again : (text : ItemText) → IsPackable text → RangeOf text.chunks → is_healed (field_pairs text) ≡ false → item_of (item_pairs text) ≡ Ok text
item_again text packable range whole =
    let ps = field_pairs text in
    let fields : table (without chunks_names (item_pairs text)) ≡ text.fields = ap table (fields_are text.chunks ps packable.apart) ∙ sym packable.is_table in
    item_is (item_pairs text) text.chunks (path_is text.chunks ps ∙ packable.path) (chunks_are text.chunks ps _ packable.chunks range packable.apart)
    (healed_is text.chunks ps ∙ whole)
    ∙ ap (λ (f : Tree). Ok (record { fields = f; chunks = text.chunks })) fields

-- ---- the map that is written can be written

trees_count : (chunks : List ChunkRef) → items_count (chunk_trees chunks) ≡ length chunks
unfolding chunk_trees
trees_count [] = refl
trees_count (chunk ∷ chunks) = let rest = trees_count chunks in omega arith

trees_depth : (chunks : List ChunkRef) → items_depth (chunk_trees chunks) ≤ 1
unfolding chunk_trees
trees_depth [] = omega arith
trees_depth (chunk ∷ chunks) = let rest = trees_depth chunks in omega arith

tree_fits : (chunk : ChunkRef) → chunk.size ≤ content_limit → length chunk.id ≡ 32 → chunk.csize < 2 ^ 64 → Fits (chunk_tree chunk)
tree_fits chunk small id csize = (omega arith, (omega (arith, id), (small_number chunk.size (omega arith), (small_number chunk.csize csize, tt))))

trees_fit : (chunks : List ChunkRef) → AllByRecursion (λ chunk. chunk.size ≤ content_limit) chunks → AreInRange chunks → ItemsFit (chunk_trees chunks)
unfolding chunk_trees
trees_fit [] small range = tt
trees_fit (chunk ∷ chunks) small range = (tree_fits chunk small.0 range.0 range.1, trees_fit chunks small.1 range.2)

count_at_order : (k : List ℕ) (t : Tree) (l : List ℕ) (u : Tree) (ps : Pairs) (o : Ordering) → pairs_count (put k t ps) ≤ pairs_count ps + 1
    → pairs_count (match_ordering o (pair k t (pair l u ps)) (pair l t ps) (pair l u (put k t ps))) ≤ pairs_count ps + 1 + 1
count_at_order k t l u ps Less rest = omega arith
count_at_order k t l u ps Equal rest = omega arith
count_at_order k t l u ps Greater rest = omega arith

count_put : (k : List ℕ) (t : Tree) (ps : Pairs) → pairs_count (put k t ps) ≤ pairs_count ps + 1
count_put k t no_pairs = omega arith
count_put k t (pair l u ps) = count_at_order k t l u ps (slice_cmp nat_cmp k l) (count_put k t ps)

map_writable : (chunks : Option (List ChunkRef)) (ps : Pairs) → ChunksFit chunks (pairs_count ps) → RangeOf chunks → IsWritable (table ps)
    → IsWritable (table (with_chunks chunks ps))
map_writable None ps fit range writable = writable
map_writable (Some chunks) ps fit range writable =
    let trees = chunk_trees chunks in
    let deep = trees_depth chunks in
    let few : items_count trees < 2 ^ 32 = omega (arith, trees_count chunks, fit.1) in
    let good = put_good (codes "chunks") (array trees) ps (omega arith) (omega (arith, deep)) (few, trees_fit chunks fit.0 range) (writable_good ps writable) in
    good_writable (put (codes "chunks") (array trees) ps) good (omega (arith, count_put (codes "chunks") (array trees) ps, fit.2))

pub item_writable : (text : ItemText) → IsPackable text → RangeOf text.chunks → IsWritable (table (item_pairs text))
item_writable text packable range = map_writable text.chunks (field_pairs text) packable.chunks range (subst IsWritable packable.is_table packable.writable)

-- ---- both

pub written_again : (text : ItemText) (rest : List ℕ) → IsPackable text → RangeOf text.chunks → is_healed (field_pairs text) ≡ false
    → front_item (item_text text ++ rest) ≡ an_item text rest
unfolding front_item item_text
written_again text rest packable range whole =
    let t = table (item_pairs text) in
    ap front_read (value_again 64 t (shortest t) rest (shortest_spelled t (item_writable text packable range)))
    ∙ ap (λ (r : Result ItemText ItemFault). front_of r rest) (item_again text packable range whole)

-- what holds, holds of each result
pub of_any_result : {A B : Type 0} (r : Result A B) (P : Type 0) → P → OnOk r P
of_any_result (Ok x) P holds = holds
of_any_result (Err e) P holds = tt
