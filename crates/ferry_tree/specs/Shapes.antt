-- What an item says of its place (BorgBackup 1.2, Internals, "Data structures and file formats", Archives).
use Rattle.std.specs.Prelude.{ℕ, nat_le, if◌then◌else◌, List, [], codes, Option, Some, None, is_some, unwrap_or, option_and_then}
use Rattle.ferry_fields.specs.Fields.{number_in, raw_in, value_of}
use Rattle.ferry_item.specs.Item.{ItemText, natural_of}
use Rattle.ferry_item.specs.Writing.{field_pairs}
use Rattle.ferry_item.specs.declared.item.ChunkRef.{ChunkRef}
use Rattle.ferry_msgpack.specs.Tree.{Tree, nil, flag, number, raw, array, table, Pairs}
use Rattle.ferry_tree.specs.declared.planning.Origin.{Origin}
use Rattle.ferry_tree.specs.declared.planning.Origin.TheVariants.{Absent, Other, Raw}
use Rattle.ferry_tree.specs.declared.planning.Shape.{Shape}

-- the path among these fields
abbrev pub path_in : Pairs → List ℕ
path_in pairs = unwrap_or (raw_in (codes "path") pairs) []

-- a number of at most 16 bits
abbrev pub short_number : ℕ → Option ℕ
short_number n = if nat_le n 65535 then Some n else None

-- the mode among these fields: a number from 0 to 65535
abbrev pub mode_in : Pairs → Option ℕ
mode_in pairs = option_and_then short_number (option_and_then natural_of (number_in (codes "mode") pairs))

-- what the field `source` says
abbrev pub origin_by : Option Tree → Origin
origin_by None = Absent
origin_by (Some nil) = Other
origin_by (Some (flag b)) = Other
origin_by (Some (number z)) = Other
origin_by (Some (raw content)) = Raw content
origin_by (Some (array items)) = Other
origin_by (Some (table pairs)) = Other

-- the shape of an item
abbrev pub shape_of : ItemText → Shape
shape_of item = record {
  path = path_in (field_pairs item);
  mode = mode_in (field_pairs item);
  origin = origin_by (value_of (codes "source") (field_pairs item));
  has_content = is_some item.chunks;
}

-- the chunks of an item, none where it has no content
abbrev pub chunks_of : ItemText → List ChunkRef
chunks_of item = unwrap_or item.chunks []
