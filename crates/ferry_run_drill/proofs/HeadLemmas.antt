-- The texts of items and of records begin with a high byte, and an item of the drill is short.
use Rattle.std.proofs.Common.{◌≡◌, ◌≤◌, ◌+◌, ◌*◌, ◌%◌, ◌^◌, ℕ, Bool, true, false, cond, ltb, List, [], ◌∷◌, ◌++◌, length, get_or, map, ℤ, pos, Some, codes}
use Rattle.std.proofs.Common.{arith}
use Rattle.std.specs.Int.{w16, w32, to_be_bytes}
use Rattle.std.specs.Prelude.{neg_ℤ, int_lt}
use Rattle.std.proofs.lemmas.List.{length-append}
use Rattle.ferry_item.specs.Item.{ItemText}
use Rattle.ferry_item.specs.Writing.{chunk_tree, chunk_trees, item_pairs, item_text}
use Rattle.ferry_item.specs.declared.item.ChunkRef.{ChunkRef}
use Rattle.ferry_mac.specs.declared.keys.Keys.{Keys}
use Rattle.ferry_manifest.specs.Record.Text.{ArchiveText}
use Rattle.ferry_manifest.specs.Record.Writing.{archive_text}
use Rattle.ferry_manifest.specs.Tagged.{packed, tagged_text}
use Rattle.ferry_msgpack.specs.Shortest.{array_head, map_head, raw_head, shortest, shortest_count, shortest_items, shortest_number, shortest_pairs}
use Rattle.ferry_msgpack.specs.Shortest.{shortest_raw}
use Rattle.ferry_msgpack.specs.Tree.{Tree, Items, Pairs, array, item, items_count, no_items, no_pairs, number, pair, pairs_count, raw, table}
use Rattle.ferry_gen.specs.Fields.{item_fields}

-- ---- first bytes

either : (P : List ℕ → Type 0) (b : Bool) (x y : List ℕ) → P x → P y → P (cond b x y)
either P true x y first second = first
either P false x y first second = second

-- what begins with a high byte does so whatever follows
pub high_front : (a b : List ℕ) → 128 ≤ get_or a 0 0 → 128 ≤ get_or (a ++ b) 0 0
high_front [] b high = absurd (let no : ⊥ = omega (arith, high) in no)
high_front (x ∷ xs) b high = high

map_high : (n : ℕ) → 128 ≤ get_or (map_head n) 0 0
unfolding shortest_count
map_high n =
    let P : List ℕ → Type 0 = λ l. 128 ≤ get_or l 0 0 in
    either P (ltb n 0x10) ((0x80 + n) ∷ []) (cond (ltb n (2 ^ 16)) (0xde ∷ to_be_bytes w16 n) (0xdf ∷ to_be_bytes w32 n)) (omega arith)
    (either P (ltb n (2 ^ 16)) (0xde ∷ to_be_bytes w16 n) (0xdf ∷ to_be_bytes w32 n) (omega arith) (omega arith))

table_high : (pairs : Pairs) → 128 ≤ get_or (shortest (table pairs)) 0 0
table_high pairs = high_front (map_head (pairs_count pairs)) (shortest_pairs pairs) (map_high (pairs_count pairs))

pub item_high : (text : ItemText) → 128 ≤ get_or (item_text text) 0 0
unfolding item_text
item_high text = table_high (item_pairs text)

packed_high : (pairs : Pairs) (hmac salt : List ℕ) → 128 ≤ get_or (packed pairs hmac salt) 0 0
unfolding packed
packed_high pairs hmac salt = table_high _

pub record_high : (keys : Keys) (salt : List ℕ) (archive : ArchiveText) → 128 ≤ get_or (archive_text keys salt archive) 0 0
unfolding archive_text tagged_text
record_high keys salt archive = packed_high _ _ salt

-- ---- lengths

number_short : (z : ℤ) → length (shortest_number z) ≤ 9
unfolding shortest_number
number_short z =
    let P : List ℕ → Type 0 = λ l. length l ≤ 9 in
    either P (int_lt z (neg_ℤ (pos 0x80000000))) _ _ (omega arith) (either P (int_lt z (neg_ℤ (pos 0x8000))) _ _ (omega arith)
    (either P (int_lt z (neg_ℤ (pos 0x80))) _ _ (omega arith) (either P (int_lt z (neg_ℤ (pos 0x20))) _ _ (omega arith)
    (either P (int_lt z (pos 0x80)) _ _ (omega arith) (either P (int_lt z (pos 0x100)) _ _ (omega arith)
    (either P (int_lt z (pos 0x10000)) _ _ (omega arith) (either P (int_lt z (pos 0x100000000)) _ _ (omega arith) (omega arith))))))))

count_short : (first small two four n : ℕ) → length (shortest_count first small two four n) ≤ 5
unfolding shortest_count
count_short first small two four n =
    let P : List ℕ → Type 0 = λ l. length l ≤ 5 in either P (ltb n small) _ _ (omega arith) (either P (ltb n (2 ^ 16)) _ _ (omega arith) (omega arith))

raw_short : (content : List ℕ) → length (shortest_raw content) ≤ 5 + length content
raw_short content = omega (arith, length-append (raw_head (length content)) content, count_short 0xa0 0x20 0xda 0xdb (length content))

array_is : (items : Items) → length (shortest (array items)) ≡ length (array_head (items_count items)) + length (shortest_items items)
array_is items = length-append (array_head (items_count items)) (shortest_items items)

array_short : (items : Items) → length (shortest (array items)) ≤ 5 + length (shortest_items items)
array_short items = omega (arith, array_is items, count_short 0x90 0x10 0xdc 0xdd (items_count items))

items_is : (t : Tree) (ts : Items) → length (shortest_items (item t ts)) ≡ length (shortest t) + length (shortest_items ts)
items_is t ts = length-append (shortest t) (shortest_items ts)

pair_short : (k : List ℕ) (t : Tree) (ps : Pairs) → length (shortest_pairs (pair k t ps)) ≤ 5 + length k + (length (shortest t) + length (shortest_pairs ps))
pair_short k t ps =
    omega (arith, length-append (shortest_raw k) (shortest t ++ shortest_pairs ps), length-append (shortest t) (shortest_pairs ps), raw_short k)

table_short : (ps : Pairs) → length (shortest (table ps)) ≤ 5 + length (shortest_pairs ps)
table_short ps = omega (arith, length-append (map_head (pairs_count ps)) (shortest_pairs ps), count_short 0x80 0x10 0xde 0xdf (pairs_count ps))

-- ---- chunks

chunk_short : (chunk : ChunkRef) → length chunk.id ≡ 32 → length (shortest (chunk_tree chunk)) ≤ 60
chunk_short chunk size =
    let last = item (number (pos chunk.csize)) no_items in
    let two = item (number (pos chunk.size)) last in
    let all = item (raw chunk.id) two in
    omega (
      arith,
      array_short all,
      items_is (raw chunk.id) two,
      items_is (number (pos chunk.size)) last,
      items_is (number (pos chunk.csize)) no_items,
      raw_short chunk.id,
      number_short (pos chunk.size),
      number_short (pos chunk.csize),
      size,
    )

-- chunks of so many pieces, each under an id of 32 bytes
pub chunks_short : (f : List ℕ → ChunkRef) → ((piece : List ℕ) → length (f piece).id ≡ 32) → (pieces : List (List ℕ))
    → length (shortest_items (chunk_trees (map f pieces))) ≤ 60 * length pieces
unfolding chunk_trees
chunks_short f each [] = omega arith
chunks_short f each (p ∷ ps) =
    omega (arith, items_is (chunk_tree (f p)) (chunk_trees (map f ps)), chunk_short (f p) (each p), chunks_short f each ps)

-- an item of the drill with such chunks
pub item_short : (file : ℕ) (chunks : List ChunkRef)
    → length (item_text (record { fields = item_fields file; chunks = Some chunks })) ≤ 100 + length (shortest_items (chunk_trees chunks))
unfolding item_text
item_short file chunks =
    let path : Tree = raw (102 ∷ (48 + file % 10) ∷ []) in
    let last : Pairs = pair (codes "path") path no_pairs in
    let two : Pairs = pair (codes "mode") (number (pos 33188)) last in
    let trees = array (chunk_trees chunks) in
    omega (
      arith,
      table_short (pair (codes "chunks") trees two),
      pair_short (codes "chunks") trees two,
      pair_short (codes "mode") (number (pos 33188)) last,
      pair_short (codes "path") path no_pairs,
      array_short (chunk_trees chunks),
      number_short (pos 33188),
      raw_short (102 ∷ (48 + file % 10) ∷ []),
    )

-- ---- least lengths

table_long : (ps : Pairs) → length (shortest_pairs ps) ≤ length (shortest (table ps))
table_long ps = omega (arith, length-append (map_head (pairs_count ps)) (shortest_pairs ps))

pair_long : (k : List ℕ) (t : Tree) (ps : Pairs) → length (shortest t) ≤ length (shortest_pairs (pair k t ps))
pair_long k t ps =
    omega (arith, length-append (shortest_raw k) (shortest t ++ shortest_pairs ps), length-append (shortest t) (shortest_pairs ps))

array_long : (items : Items) → length (shortest_items items) ≤ length (shortest (array items))
array_long items = omega (arith, array_is items)

chunk_long : (chunk : ChunkRef) → length chunk.id ≡ 32 → 32 ≤ length (shortest (chunk_tree chunk))
chunk_long chunk size =
    let two = item (number (pos chunk.size)) (item (number (pos chunk.csize)) no_items) in
    omega (
      arith,
      array_long (item (raw chunk.id) two),
      items_is (raw chunk.id) two,
      length-append (raw_head (length chunk.id)) chunk.id,
      size,
    )

pub chunks_long : (f : List ℕ → ChunkRef) → ((piece : List ℕ) → length (f piece).id ≡ 32) → (pieces : List (List ℕ))
    → 32 * length pieces ≤ length (shortest_items (chunk_trees (map f pieces)))
unfolding chunk_trees
chunks_long f each [] = omega arith
chunks_long f each (p ∷ ps) =
    omega (arith, items_is (chunk_tree (f p)) (chunk_trees (map f ps)), chunk_long (f p) (each p), chunks_long f each ps)

pub item_long : (file : ℕ) (chunks : List ChunkRef)
    → length (shortest_items (chunk_trees chunks)) ≤ length (item_text (record { fields = item_fields file; chunks = Some chunks }))
unfolding item_text
item_long file chunks =
    let path : Tree = raw (102 ∷ (48 + file % 10) ∷ []) in
    let last : Pairs = pair (codes "path") path no_pairs in
    let two : Pairs = pair (codes "mode") (number (pos 33188)) last in
    let trees = array (chunk_trees chunks) in
    omega (arith, table_long (pair (codes "chunks") trees two), pair_long (codes "chunks") trees two, array_long (chunk_trees chunks))
