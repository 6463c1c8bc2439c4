-- How long what is packed is at most.
use Rattle.std.proofs.Common.{◌≡◌, ◌≤◌, ◌+◌, ◌*◌, ◌^◌, ℕ, Bool, true, false, List, [], ◌∷◌, ◌++◌, codes, length, ℤ, pos, neg_ℤ, nat_lt, int_lt}
use Rattle.std.proofs.Common.{if◌then◌else◌}
use Rattle.std.proofs.Common.{Option, Some, sym, ◌∙◌, ap, subst, arith, length-append}
use Rattle.std.specs.Cmp.Lexicographic.{slice_cmp}
use Rattle.std.specs.List.{AllByRecursion}
use Rattle.std.specs.Ordering.{nat_cmp, match_ordering}
use Rattle.std.specs.declared.cmp.Ordering.{Ordering}
use Rattle.std.specs.declared.cmp.Ordering.TheVariants.{Less, Equal, Greater}
use Rattle.ferry_mac.proofs.CallerLemmas.{length-hmac512}
use Rattle.ferry_mac.specs.declared.keys.Keys.{Keys}
use Rattle.ferry_item.specs.Item.{ItemText}
use Rattle.ferry_item.specs.Writing.{chunk_tree, chunk_trees, field_pairs, item_pairs, item_text}
use Rattle.ferry_item.specs.declared.item.ChunkRef.{ChunkRef}
use Rattle.ferry_manifest.specs.Manifest.Text.{ManifestText}
use Rattle.ferry_manifest.specs.Manifest.Writing.{archive_pairs, manifest_text, untagged_pairs, with_timestamp}
use Rattle.ferry_manifest.specs.Record.Text.{ArchiveText}
use Rattle.ferry_manifest.specs.Record.Writing.{archive_text, record_pairs, with_params}
use Rattle.ferry_manifest.specs.Tag.{archive_info, manifest_info}
use Rattle.ferry_manifest.specs.Tagged.{packed, packed_tag, tag_pairs, tagged_pairs, tagged_text}
use Rattle.ferry_manifest.specs.Values.{pairs_of_table, raws}
use Rattle.ferry_msgpack.specs.Shortest.{map_head, array_head, raw_head, shortest, shortest_count, shortest_items, shortest_number, shortest_pairs}
use Rattle.ferry_msgpack.specs.Shortest.{shortest_raw}
use Rattle.ferry_msgpack.specs.Tree.{Tree, Items, Pairs, array, item, items_count, no_items, no_pairs, number, pair, pairs_count, put, raw, table}

if_most : (b : Bool) (xs ys : List ℕ) (n : ℕ) → length xs ≤ n → length ys ≤ n → length (if b then xs else ys) ≤ n
if_most true xs ys n p q = p
if_most false xs ys n p q = q

-- a number has no more than nine bytes
pub number_most : (z : ℤ) → length (shortest_number z) ≤ 9
unfolding shortest_number
number_most z =
    if_most (int_lt z (neg_ℤ (pos 0x80000000))) _ _ 9 (omega arith)
    (if_most (int_lt z (neg_ℤ (pos 0x8000))) _ _ 9 (omega arith)
    (if_most (int_lt z (neg_ℤ (pos 0x80))) _ _ 9 (omega arith)
    (if_most (int_lt z (neg_ℤ (pos 0x20))) _ _ 9 (omega arith)
    (if_most (int_lt z (pos 0x80)) _ _ 9 (omega arith)
    (if_most (int_lt z (pos 0x100)) _ _ 9 (omega arith)
    (if_most (int_lt z (pos 0x10000)) _ _ 9 (omega arith)
    (if_most (int_lt z (pos 0x100000000)) _ _ 9 (omega arith) (omega arith))))))))

-- and a count no more than five
count_most : (first small two four n : ℕ) → length (shortest_count first small two four n) ≤ 5
unfolding shortest_count
count_most first small two four n =
    if_most (nat_lt n small) _ _ 5 (omega arith) (if_most (nat_lt n (2 ^ 16)) _ _ 5 (omega arith) (omega arith))

pub raw_most : (content : List ℕ) → length (shortest (raw content)) ≤ 5 + length content
raw_most content =
    let n = length content in
    omega (arith, length-append (raw_head n) content, count_most 0xa0 0x20 0xda 0xdb n)

pub array_most : (items : Items) → length (shortest (array items)) ≤ 5 + length (shortest_items items)
array_most items =
    let n = items_count items in
    omega (arith, length-append (array_head n) (shortest_items items), count_most 0x90 0x10 0xdc 0xdd n)

pub table_most : (pairs : Pairs) → length (shortest (table pairs)) ≤ 5 + length (shortest_pairs pairs)
table_most pairs =
    let n = pairs_count pairs in
    omega (arith, length-append (map_head n) (shortest_pairs pairs), count_most 0x80 0x10 0xde 0xdf n)

-- pairs with one in front
pair_is : (k : List ℕ) (t : Tree) (ps : Pairs)
    → length (shortest_pairs (pair k t ps)) ≡ length (shortest_raw k) + (length (shortest t) + length (shortest_pairs ps))
pair_is k t ps =
    length-append (shortest_raw k) (shortest t ++ shortest_pairs ps)
    ∙ ap (λ (n : ℕ). length (shortest_raw k) + n) (length-append (shortest t) (shortest_pairs ps))

pub pair_most : (k : List ℕ) (t : Tree) (ps : Pairs)
    → length (shortest_pairs (pair k t ps)) ≤ (5 + length k) + (length (shortest t) + length (shortest_pairs ps))
pair_most k t ps = let r : length (shortest_raw k) ≤ 5 + length k = raw_most k in omega (arith, pair_is k t ps, r)

-- and with one more in its place
put_by : (k l : List ℕ) (t u : Tree) (ps : Pairs) (o : Ordering)
    → length (shortest_pairs (put k t ps)) ≤ (5 + length k) + (length (shortest t) + length (shortest_pairs ps))
    → length (shortest_pairs (match_ordering o (pair k t (pair l u ps)) (pair l t ps) (pair l u (put k t ps))))
    ≤ (5 + length k) + (length (shortest t) + length (shortest_pairs (pair l u ps)))
put_by k l t u ps Less later = pair_most k t (pair l u ps)
put_by k l t u ps Equal later = omega (arith, pair_is l t ps, pair_is l u ps)
put_by k l t u ps Greater later = omega (arith, pair_is l u (put k t ps), pair_is l u ps, later)

pub put_most : (k : List ℕ) (t : Tree) (ps : Pairs)
    → length (shortest_pairs (put k t ps)) ≤ (5 + length k) + (length (shortest t) + length (shortest_pairs ps))
put_most k t no_pairs = pair_most k t no_pairs
put_most k t (pair l u ps) = put_by k l t u ps (slice_cmp nat_cmp k l) (put_most k t ps)

-- ids of 32 bytes
pub ids_most : (ids : List (List ℕ)) → AllByRecursion (λ (id : List ℕ). length id ≡ 32) ids
    → length (shortest_items (raws ids)) ≤ 37 * length ids
unfolding raws
ids_most [] all = omega arith
ids_most (id ∷ ids) all =
    omega (arith, length-append (shortest (raw id)) (shortest_items (raws ids)), raw_most id, all.0, ids_most ids all.1)

-- pairs with a tag
tag_most : (hmac salt : List ℕ) → length hmac ≡ 64 → length salt ≡ 64 → length (shortest_pairs (tag_pairs hmac salt)) ≤ 300
unfolding tag_pairs
tag_most hmac salt size salt_size =
    let kind = put (codes "type") (raw (codes "HKDF_HMAC_SHA512")) no_pairs in
    let text = codes "HKDF_HMAC_SHA512" in
    let a = put_most (codes "type") (raw text) no_pairs in
    let f = raw_most text in
    let b = put_most (codes "salt") (raw salt) kind in
    let c = put_most (codes "hmac") (raw hmac) (put (codes "salt") (raw salt) kind) in
    let d = raw_most hmac in
    let e = raw_most salt in
    omega (arith, a, b, c, d, e, f, size, salt_size)

packed_most : (pairs : Pairs) (hmac salt : List ℕ) → length hmac ≡ 64 → length salt ≡ 64
    → length (packed pairs hmac salt) ≤ 400 + length (shortest_pairs pairs)
unfolding packed tagged_pairs
packed_most pairs hmac salt size salt_size =
    let tag = tag_pairs hmac salt in
    omega (arith, table_most (put (codes "tam") (table tag) pairs), put_most (codes "tam") (table tag) pairs, table_most tag, tag_most hmac salt size salt_size)

pub tagged_most : (info : List ℕ) (keys : Keys) (salt : List ℕ) (pairs : Pairs) → length salt ≡ 64
    → length (tagged_text info keys salt pairs) ≤ 400 + length (shortest_pairs pairs)
unfolding tagged_text packed_tag
tagged_most info keys salt pairs size = packed_most pairs (packed_tag info keys salt pairs) salt (length-hmac512 _ _) size

-- ---- records

pub record_most : (keys : Keys) (salt : List ℕ) (archive : ArchiveText) (params : Tree) → length salt ≡ 64 → archive.params ≡ Some params
    → AllByRecursion (λ (id : List ℕ). length id ≡ 32) archive.items
    → length (archive_text keys salt archive)
    ≤ 500 + (37 * length archive.items + (length (shortest params) + length (shortest_pairs (pairs_of_table archive.fields))))
unfolding archive_text record_pairs
record_most keys salt archive params size is ids =
    let fields = pairs_of_table archive.fields in
    let items = raws archive.items in
    let front : with_params archive.params fields ≡ put (codes "chunker_params") params fields = ap (λ (o : Option Tree). with_params o fields) is in
    let a : length (shortest_pairs (with_params archive.params fields)) ≤ (5 + 14) + (length (shortest params) + length (shortest_pairs fields)) =
    subst (λ (ps : Pairs). length (shortest_pairs ps) ≤ (5 + 14) + (length (shortest params) + length (shortest_pairs fields))) (sym front)
    (put_most (codes "chunker_params") params fields) in
    let b = put_most (codes "items") (array items) (with_params archive.params fields) in
    let c = array_most items in
    let d = ids_most archive.items ids in
    let e = tagged_most archive_info keys salt (put (codes "items") (array items) (with_params archive.params fields)) size in
    omega (arith, a, b, c, d, e)

-- ---- items

chunk_most : (chunk : ChunkRef) → length (shortest (chunk_tree chunk)) ≤ 28 + length chunk.id
chunk_most chunk =
    let two = item (number (pos chunk.csize)) no_items in
    let one = item (number (pos chunk.size)) two in
    let a = length-append (shortest (number (pos chunk.csize))) [] in
    let b = length-append (shortest (number (pos chunk.size))) (shortest_items two) in
    let c = length-append (shortest (raw chunk.id)) (shortest_items one) in
    omega (arith, a, b, c, number_most (pos chunk.csize), number_most (pos chunk.size), raw_most chunk.id, array_most (item (raw chunk.id) one))

chunks_most : (chunks : List ChunkRef) → AllByRecursion (λ (chunk : ChunkRef). length chunk.id ≡ 32) chunks
    → length (shortest_items (chunk_trees chunks)) ≤ 60 * length chunks
unfolding chunk_trees
chunks_most [] all = omega arith
chunks_most (chunk ∷ chunks) all =
    omega (arith, length-append (shortest (chunk_tree chunk)) (shortest_items (chunk_trees chunks)), chunk_most chunk, all.0, chunks_most chunks all.1)

pub item_most : (fields : Tree) (chunks : List ChunkRef) → AllByRecursion (λ (chunk : ChunkRef). length chunk.id ≡ 32) chunks
    → length (item_text (record { fields = fields; chunks = Some chunks }))
    ≤ 50 + (60 * length chunks + length (shortest_pairs (field_pairs (record { fields = fields; chunks = Some chunks }))))
unfolding item_text
item_most fields chunks all =
    let text : ItemText = record { fields = fields; chunks = Some chunks } in
    let trees = chunk_trees chunks in
    omega (arith, table_most (item_pairs text), put_most (codes "chunks") (array trees) (field_pairs text), array_most trees, chunks_most chunks all)

-- ---- manifests

pub manifest_most : (keys : Keys) (salt : List ℕ) (manifest : ManifestText) (time : List ℕ) → length salt ≡ 64 → manifest.timestamp ≡ Some time
    → length (manifest_text keys salt manifest)
    ≤ 600 + (length (shortest_pairs (archive_pairs manifest.archives)) + (length (shortest_items (raws manifest.item_keys))
    + (length (shortest manifest.config) + (length time + length (shortest_pairs (pairs_of_table manifest.more))))))
unfolding manifest_text untagged_pairs
manifest_most keys salt manifest time size is =
    let more = pairs_of_table manifest.more in
    let archives = table (archive_pairs manifest.archives) in
    let names = array (raws manifest.item_keys) in
    let timed = with_timestamp manifest.timestamp more in
    let a : length (shortest_pairs timed) ≤ (5 + 9) + (length (shortest (raw time)) + length (shortest_pairs more)) =
    subst (λ (o : Option (List ℕ)). length (shortest_pairs (with_timestamp o more)) ≤ (5 + 9) + (length (shortest (raw time)) + length (shortest_pairs more)))
    (sym is) (put_most (codes "timestamp") (raw time) more) in
    let first = put (codes "config") manifest.config timed in
    let second = put (codes "item_keys") names first in
    let third = put (codes "archives") archives second in
    let all = put (codes "version") (number (pos 1)) third in
    omega (
      arith,
      a,
      raw_most time,
      put_most (codes "config") manifest.config timed,
      put_most (codes "item_keys") names first,
      array_most (raws manifest.item_keys),
      put_most (codes "archives") archives second,
      table_most (archive_pairs manifest.archives),
      put_most (codes "version") (number (pos 1)) third,
      number_most (pos 1),
      tagged_most manifest_info keys salt all size,
    )
