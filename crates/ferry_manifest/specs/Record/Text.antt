-- What the packed bytes of an archive's record mean. BorgBackup 1.2 Internals, "Data structures and file formats",
-- Archives: a map with the names `version`, `name`, `items`, `chunker_params` and `tam`; other names are kept.
use Rattle.std.specs.Prelude.{ℕ, ◌||◌, not, Bool, true, if◌then◌else◌, List, [], ◌∷◌, codes, Option, Some, None, is_none, is_some, unwrap_or}
use Rattle.std.specs.Prelude.{option_and_then, option_map, Result, Ok, Err, ⊤}
use Rattle.ferry_mac.specs.declared.keys.Keys.{Keys}
use Rattle.ferry_msgpack.specs.Tree.{Tree, nil, flag, number, raw, array, table, Items, no_items, item, Pairs}
use Rattle.ferry_msgpack.specs.View.{value_view}
use Rattle.ferry_fields.specs.Fields.{map_of, value_of, raw_of, of_32, raw_in, has_version_1}
use Rattle.ferry_fields.specs.Others.{without}
use Rattle.ferry_manifest.specs.Stated.{is_right, tag_in}
use Rattle.ferry_manifest.specs.Tag.{archive_info}
use Rattle.ferry_manifest.specs.declared.record.Archive.{Archive}
use Rattle.ferry_manifest.specs.declared.stated.StatedTag.{StatedTag}
use Rattle.ferry_manifest.specs.declared.fault.MetaFault.{MetaFault}
use Rattle.ferry_manifest.specs.declared.fault.MetaFault.TheVariants.{Pack, Field, TagMissing, Tag, TooLarge, Memory}

-- what an archive's record says
pub record ArchiveText : Type 0 where
  pub name : List ℕ
  pub items : List (List ℕ)
  pub params : Option Tree
  pub fields : Tree
  pub tagged : Bool

-- what an `Archive` says, apart from where its values lie in memory
abbrev pub archive_view : Archive → ArchiveText
archive_view archive = record {
  name = archive.name;
  items = archive.items;
  params = option_map value_view archive.params;
  fields = value_view archive.fields;
  tagged = archive.tagged;
}

-- the same of a record that is tagged
abbrev pub as_tagged : ArchiveText → ArchiveText
as_tagged archive = record {
  name = archive.name;
  items = archive.items;
  params = archive.params;
  fields = archive.fields;
  tagged = true;
}

-- the names of a record that aren't among its fields
abbrev pub apart_names : List (List ℕ)
apart_names = codes "items" ∷ codes "chunker_params" ∷ codes "tam" ∷ []

-- the id that a value is
abbrev pub id_of : Tree → Option (List ℕ)
id_of t = option_and_then of_32 (raw_of t)

-- the id that each of these values is, where all are ids
unfoldable pub ids_in : Items → Option (List (List ℕ))
ids_in no_items = Some []
ids_in (item t ts) = option_and_then (λ id. option_map (λ ids. id ∷ ids) (ids_in ts)) (id_of t)

-- the ids that are the values of an array
abbrev pub ids_of : Tree → Option (List (List ℕ))
ids_of nil = None
ids_of (flag b) = None
ids_of (number z) = None
ids_of (raw content) = None
ids_of (array items) = ids_in items
ids_of (table pairs) = None

-- the ids of the objects with the items, where the name is there and has an array of ids
abbrev pub items_at : Pairs → Option (List (List ℕ))
items_at pairs = option_and_then ids_of (value_of (codes "items") pairs)

-- whether a field of a record is missing or has another kind or length, or the version isn't 1
abbrev pub lacks_record_field : Pairs → Bool
lacks_record_field pairs =
    not (has_version_1 pairs)
    || is_none (raw_in (codes "name") pairs)
    || is_none (items_at pairs)
    || is_none (tag_in pairs)

-- what the fields of a record say; the record is tagged where it has `tam`
abbrev pub record_text : Pairs → ArchiveText
record_text pairs = record {
  name = unwrap_or (raw_in (codes "name") pairs) [];
  items = unwrap_or (items_at pairs) [];
  params = value_of (codes "chunker_params") pairs;
  fields = table (without apart_names pairs);
  tagged = is_some (value_of (codes "tam") pairs);
}

-- what is said, unless a tag is stated that isn't that of the bytes
abbrev pub unless_tag_differs : Keys → List ℕ → ArchiveText → Option StatedTag → Result ArchiveText MetaFault
unless_tag_differs keys bytes archive None = Ok archive
unless_tag_differs keys bytes archive (Some tag) =
    if is_right archive_info keys bytes tag then Ok archive else Err Tag

-- the record of a map, where the bytes spell one
abbrev pub record_from : Keys → List ℕ → Option Pairs → Result ArchiveText MetaFault
record_from keys bytes None = Err Pack
record_from keys bytes (Some pairs) =
    if lacks_record_field pairs then Err Field
    else unless_tag_differs keys bytes (record_text pairs) (unwrap_or (tag_in pairs) None)

-- what the packed bytes of a record mean under these keys: the first fault, or what is said
unfoldable pub archive_of : Keys → List ℕ → Result ArchiveText MetaFault
archive_of keys bytes = record_from keys bytes (map_of bytes)

-- the faults of reading a record
abbrev pub IsRecordFault : MetaFault → Type 0
IsRecordFault Pack = ⊤
IsRecordFault Field = ⊤
IsRecordFault TagMissing = ⊥
IsRecordFault Tag = ⊤
IsRecordFault TooLarge = ⊥
IsRecordFault Memory = ⊤
