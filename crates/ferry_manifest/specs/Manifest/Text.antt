-- What the packed bytes of a manifest mean. BorgBackup 1.2 Internals, "Data structures and file formats", The manifest:
-- a map with the names `version`, `timestamp`, `config`, `item_keys`, `archives` and `tam`; other names are kept.
use Rattle.std.specs.Prelude.{ℕ, ◌||◌, not, Bool, if◌then◌else◌, List, [], ◌∷◌, fold, codes, Option, Some, None, is_none, unwrap_or}
use Rattle.std.specs.Prelude.{option_and_then, option_map, Result, Ok, Err}
use Rattle.std.specs.Ordering.{nat_cmp}
use Rattle.std.specs.Cmp.Lexicographic.{slice_cmp}
use Rattle.std.specs.BTreeSet.{insert_key}
use Rattle.ferry_mac.specs.declared.keys.Keys.{Keys}
use Rattle.ferry_msgpack.specs.Tree.{Tree, nil, flag, number, raw, array, table, Items, no_items, item, Pairs, no_pairs, pair}
use Rattle.ferry_msgpack.specs.View.{value_view}
use Rattle.ferry_fields.specs.Fields.{map_of, value_of, raw_of, raw_in, raw32_in, pairs_in, has_version_1}
use Rattle.ferry_fields.specs.Others.{without}
use Rattle.ferry_manifest.specs.Stated.{is_right, tag_in}
use Rattle.ferry_manifest.specs.Tag.{manifest_info}
use Rattle.ferry_manifest.specs.Values.{where_absent}
use Rattle.ferry_manifest.specs.declared.manifest.ArchiveRef.{ArchiveRef}
use Rattle.ferry_manifest.specs.declared.manifest.Manifest.{Manifest}
use Rattle.ferry_manifest.specs.declared.stated.StatedTag.{StatedTag}
use Rattle.ferry_manifest.specs.declared.fault.MetaFault.{MetaFault}
use Rattle.ferry_manifest.specs.declared.fault.MetaFault.TheVariants.{Pack, Field, TagMissing, Tag}

-- what a manifest says
pub record ManifestText : Type 0 where
  pub timestamp : Option (List ℕ)
  pub config : Tree
  pub item_keys : List (List ℕ)
  pub archives : List ArchiveRef
  pub more : Tree

-- what a `Manifest` says, apart from where its values lie in memory
abbrev pub manifest_view : Manifest → ManifestText
manifest_view manifest = record {
  timestamp = manifest.timestamp;
  config = value_view manifest.config;
  item_keys = manifest.item_keys;
  archives = manifest.archives;
  more = value_view manifest.more;
}

-- the names of the fields of a manifest
abbrev pub field_names : List (List ℕ)
field_names =
    codes "version" ∷ codes "timestamp" ∷ codes "config"
    ∷ codes "item_keys" ∷ codes "archives" ∷ codes "tam" ∷ []

-- the timestamp, where the name is absent or has bytes
abbrev pub timestamp_in : Pairs → Option (Option (List ℕ))
timestamp_in pairs = where_absent None (λ t. option_map Some (raw_of t)) (value_of (codes "timestamp") pairs)

-- a value that is a map
abbrev pub map_tree : Tree → Option Tree
map_tree t = option_map table (pairs_in t)

-- the table `config`, where the name is absent or has a map
abbrev pub config_in : Pairs → Option Tree
config_in pairs = where_absent (table no_pairs) map_tree (value_of (codes "config") pairs)

-- the bytes of each of these values, where all are bytes
unfoldable pub raws_in : Items → Option (List (List ℕ))
raws_in no_items = Some []
raws_in (item t ts) =
    option_and_then (λ content. option_map (λ contents. content ∷ contents) (raws_in ts)) (raw_of t)

-- the bytes that are the values of an array
abbrev pub raws_of : Tree → Option (List (List ℕ))
raws_of nil = None
raws_of (flag b) = None
raws_of (number z) = None
raws_of (raw content) = None
raws_of (array items) = raws_in items
raws_of (table pairs) = None

-- these names in byte order, each once
unfoldable pub in_order : List (List ℕ) → List (List ℕ)
in_order names = fold (insert_key (slice_cmp nat_cmp)) [] names

-- the names that items may have, where the name is absent or has an array of bytes
abbrev pub item_keys_in : Pairs → Option (List (List ℕ))
item_keys_in pairs = where_absent [] (λ t. option_map in_order (raws_of t)) (value_of (codes "item_keys") pairs)

-- the archive of a name, from the pairs of its map
abbrev pub archive_from : List ℕ → Pairs → Option ArchiveRef
archive_from name fields =
    option_and_then
    (λ id. option_map (λ time. record { name = name; id = id; time = time }) (raw_in (codes "time") fields))
    (raw32_in (codes "id") fields)

-- the archives of these names, where each has a map with an id and a time
unfoldable pub archives_of : Pairs → Option (List ArchiveRef)
archives_of no_pairs = Some []
archives_of (pair name t pairs) =
    option_and_then
    (λ archive. option_map (λ others. archive ∷ others) (archives_of pairs))
    (option_and_then (archive_from name) (pairs_in t))

-- the archives, where the name is there and has a map of such maps
abbrev pub archives_in : Pairs → Option (List ArchiveRef)
archives_in pairs = option_and_then archives_of (option_and_then pairs_in (value_of (codes "archives") pairs))

-- whether a field is missing or has another kind or length, or the version isn't 1
abbrev pub lacks_field : Pairs → Bool
lacks_field pairs =
    not (has_version_1 pairs)
    || is_none (timestamp_in pairs)
    || is_none (config_in pairs)
    || is_none (item_keys_in pairs)
    || is_none (archives_in pairs)
    || is_none (tag_in pairs)

-- what the fields say
abbrev pub text_in : Pairs → ManifestText
text_in pairs = record {
  timestamp = unwrap_or (timestamp_in pairs) None;
  config = unwrap_or (config_in pairs) (table no_pairs);
  item_keys = unwrap_or (item_keys_in pairs) [];
  archives = unwrap_or (archives_in pairs) [];
  more = table (without field_names pairs);
}

-- what is said, where the tag is that of the bytes
abbrev pub with_tag : Keys → List ℕ → ManifestText → Option StatedTag → Result ManifestText MetaFault
with_tag keys bytes text None = Err TagMissing
with_tag keys bytes text (Some tag) =
    if is_right manifest_info keys bytes tag then Ok text else Err Tag

-- the manifest of a map, where the bytes spell one
abbrev pub manifest_from : Keys → List ℕ → Option Pairs → Result ManifestText MetaFault
manifest_from keys bytes None = Err Pack
manifest_from keys bytes (Some pairs) =
    if lacks_field pairs then Err Field
    else with_tag keys bytes (text_in pairs) (unwrap_or (tag_in pairs) None)

-- what the packed bytes of a manifest mean under these keys: the first fault, or what is said
unfoldable pub manifest_of : Keys → List ℕ → Result ManifestText MetaFault
manifest_of keys bytes = manifest_from keys bytes (map_of bytes)
