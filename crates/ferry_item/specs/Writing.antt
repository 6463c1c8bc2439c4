-- The bytes of an item that is written. BorgBackup 1.2 Internals, "Data structures and file formats", Archives. The map is
-- written by its one shortest spelling.
use Rattle.std.specs.Prelude.{◌≡◌, ℕ, ◌^◌, ◌<◌, ◌≤◌, false, List, [], ◌∷◌, length, codes, pos, Option, Some, None, unwrap_or, ⊤}
use Rattle.std.specs.List.{AllByRecursion}
use Rattle.ferry_base.specs.Limits.{content_limit}
use Rattle.ferry_msgpack.specs.Tree.{Tree, number, raw, array, table, Items, no_items, item, Pairs, no_pairs, pairs_count, put}
use Rattle.ferry_msgpack.specs.Shortest.{shortest}
use Rattle.ferry_msgpack.specs.Writable.{IsWritable}
use Rattle.ferry_fields.specs.Fields.{pairs_in}
use Rattle.ferry_fields.specs.Others.{has_among}
use Rattle.ferry_item.specs.Item.{ItemText, chunks_names, lacks_path}
use Rattle.ferry_item.specs.declared.item.ChunkRef.{ChunkRef}

-- the array of a chunk
abbrev pub chunk_tree : ChunkRef → Tree
chunk_tree chunk = array (item (raw chunk.id) (item (number (pos chunk.size)) (item (number (pos chunk.csize)) no_items)))

-- the arrays of chunks
unfoldable pub chunk_trees : List ChunkRef → Items
chunk_trees [] = no_items
chunk_trees (chunk ∷ chunks) = item (chunk_tree chunk) (chunk_trees chunks)

-- the pairs, with the chunks where there are some
abbrev pub with_chunks : Option (List ChunkRef) → Pairs → Pairs
with_chunks None pairs = pairs
with_chunks (Some chunks) pairs = put (codes "chunks") (array (chunk_trees chunks)) pairs

-- the pairs of an item's fields
abbrev pub field_pairs : ItemText → Pairs
field_pairs text = unwrap_or (pairs_in text.fields) no_pairs

-- the pairs of an item
abbrev pub item_pairs : ItemText → Pairs
item_pairs text = with_chunks text.chunks (field_pairs text)

-- the bytes of an item
unfoldable pub item_text : ItemText → List ℕ
item_text text = shortest (table (item_pairs text))

-- chunks that can be packed into an item with so many fields: a size is a content's, and the counts are below 2 ^ 32
abbrev pub ChunksFit : Option (List ChunkRef) → ℕ → Type 0
ChunksFit None count = ⊤
ChunksFit (Some chunks) count = AllByRecursion (λ chunk. chunk.size ≤ content_limit) chunks × (length chunks < 2 ^ 32) × (count < 4294967295)

-- an item that can be packed: its fields are a table that can be written, with a raw `path` and without `chunks`
pub record IsPackable (text : ItemText) : Type 0 where
  pub is_table : text.fields ≡ table (field_pairs text)
  pub writable : IsWritable text.fields
  pub path : lacks_path (field_pairs text) ≡ false
  pub apart : has_among chunks_names (field_pairs text) ≡ false
  pub chunks : ChunksFit text.chunks (pairs_count (field_pairs text))

-- the id of each chunk has 32 bytes and its csize 64 bits, as arrays and numbers of the code have
abbrev pub AreInRange : List ChunkRef → Type 0
AreInRange [] = ⊤
AreInRange (chunk ∷ chunks) = (length chunk.id ≡ 32) × (chunk.csize < 2 ^ 64) × AreInRange chunks

-- the same of the chunks of an item
abbrev pub RangeOf : Option (List ChunkRef) → Type 0
RangeOf None = ⊤
RangeOf (Some chunks) = AreInRange chunks
