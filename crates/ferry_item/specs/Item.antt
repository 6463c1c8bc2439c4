-- What a map of an item stream means. BorgBackup 1.2 Internals, "Data structures and file formats", Archives: an item is
-- a map with the name `path`, and for a file that has content with the name `chunks`; other names are kept.
use Rattle.std.specs.Prelude.{ℕ, Bool, nat_le, if◌then◌else◌, List, [], ◌∷◌, codes, ℤ, pos, negsuc, Option, Some, None, is_some, is_none, unwrap_or}
use Rattle.std.specs.Prelude.{option_and_then, option_map, Result, Ok, Err}
use Rattle.ferry_base.specs.Limits.{content_limit}
use Rattle.ferry_msgpack.specs.Tree.{Tree, nil, flag, number, raw, array, table, Items, no_items, item, Pairs}
use Rattle.ferry_msgpack.specs.View.{value_view}
use Rattle.ferry_fields.specs.Fields.{value_of, number_of, raw_of, of_32, raw_in, pairs_in}
use Rattle.ferry_fields.specs.Others.{without}
use Rattle.ferry_item.specs.declared.item.ChunkRef.{ChunkRef}
use Rattle.ferry_item.specs.declared.item.Item.{Item}
use Rattle.ferry_item.specs.declared.fault.ItemFault.{ItemFault}
use Rattle.ferry_item.specs.declared.fault.ItemFault.TheVariants.{Pack, Path, Chunks, Healed}

-- what an item says: its fields but for `chunks`, and its chunks where it has content
pub record ItemText : Type 0 where
  pub fields : Tree
  pub chunks : Option (List ChunkRef)

-- what an `Item` says, apart from where its values lie in memory
abbrev pub item_view : Item → ItemText
item_view i = record { fields = value_view i.fields; chunks = i.chunks }

-- the values of an array of exactly three
abbrev pub three_of : Items → Option (Tree × Tree × Tree)
three_of no_items = None
three_of (item a no_items) = None
three_of (item a (item b no_items)) = None
three_of (item a (item b (item c no_items))) = Some (a, b, c)
three_of (item a (item b (item c (item d ts)))) = None

-- a number of 0 or above
abbrev pub natural_of : ℤ → Option ℕ
natural_of (pos n) = Some n
natural_of (negsuc n) = None

-- a number that may be a content's length: the most is 20 MiB, less the 41 bytes of a log entry's head and the 43 of a
-- sealed content's
abbrev pub length_of : ℕ → Option ℕ
length_of n = if nat_le n content_limit then Some n else None

-- the 32 bytes that a value is
abbrev pub id_of : Tree → Option (List ℕ)
id_of t = option_and_then of_32 (raw_of t)

-- the size that a value is: a number from 0 to the most bytes of a content
abbrev pub size_of : Tree → Option ℕ
size_of t = option_and_then length_of (option_and_then natural_of (number_of t))

-- the csize that a value is: a number of 0 or above
abbrev pub csize_of : Tree → Option ℕ
csize_of t = option_and_then natural_of (number_of t)

-- a chunk from the three values of its array
abbrev pub chunk_from : Tree × Tree × Tree → Option ChunkRef
chunk_from (id, size, csize) =
    option_and_then (λ i. option_and_then (λ s. option_map (λ c. record { id = i; size = s; csize = c }) (csize_of csize)) (size_of size)) (id_of id)

-- the values of an array
abbrev pub items_in : Tree → Option Items
items_in nil = None
items_in (flag b) = None
items_in (number z) = None
items_in (raw content) = None
items_in (array items) = Some items
items_in (table pairs) = None

-- the chunk that a value is: an array of exactly an id, a size and a csize
unfoldable pub chunk_of : Tree → Option ChunkRef
chunk_of t = option_and_then chunk_from (option_and_then three_of (items_in t))

-- the chunks that these values are, where each is one
unfoldable pub chunks_of : Items → Option (List ChunkRef)
chunks_of no_items = Some []
chunks_of (item t ts) = option_and_then (λ chunk. option_map (λ others. chunk ∷ others) (chunks_of ts)) (chunk_of t)

-- what the value of `chunks` says: nil is no chunks, and an array of chunks is these
abbrev pub chunks_said : Tree → Option (Option (List ChunkRef))
chunks_said nil = Some None
chunks_said (flag b) = None
chunks_said (number z) = None
chunks_said (raw content) = None
chunks_said (array items) = option_map Some (chunks_of items)
chunks_said (table pairs) = None

-- the chunks that are said, where the name may be absent
abbrev pub chunks_where : Option Tree → Option (Option (List ChunkRef))
chunks_where None = Some None
chunks_where (Some t) = chunks_said t

-- the chunks of an item, where `chunks` is absent, nil or an array of chunks
abbrev pub chunks_in : Pairs → Option (Option (List ChunkRef))
chunks_in pairs = chunks_where (value_of (codes "chunks") pairs)

-- whether `path` is missing or isn't raw
abbrev pub lacks_path : Pairs → Bool
lacks_path pairs = is_none (raw_in (codes "path") pairs)

-- whether `chunks_healthy` is there, the chunks before a repair
abbrev pub is_healed : Pairs → Bool
is_healed pairs = is_some (value_of (codes "chunks_healthy") pairs)

-- the one name that isn't among the fields
abbrev pub chunks_names : List (List ℕ)
chunks_names = codes "chunks" ∷ []

-- what a whole item says
abbrev pub text_in : Pairs → ItemText
text_in pairs = record { fields = table (without chunks_names pairs); chunks = unwrap_or (chunks_in pairs) None }

-- what the pairs of a map mean as an item: the first fault, or what is said
unfoldable pub item_of : Pairs → Result ItemText ItemFault
item_of pairs =
    if lacks_path pairs then Err Path
    else if is_none (chunks_in pairs) then Err Chunks
    else if is_healed pairs then Err Healed
    else Ok (text_in pairs)

-- the item of a map's pairs, where a value is a map
abbrev pub item_from : Option Pairs → Result ItemText ItemFault
item_from None = Err Pack
item_from (Some pairs) = item_of pairs

-- what a value means as an item
abbrev pub item_of_value : Tree → Result ItemText ItemFault
item_of_value t = item_from (pairs_in t)
