-- What an archive's record says, from its pairs and the ids that were read apart from them.
use Rattle.std.specs.Prelude.{ℕ, ◌||◌, not, Bool, if◌then◌else◌, List, [], codes, None, is_none, is_some, unwrap_or, Result, Err}
use Rattle.ferry_mac.specs.declared.keys.Keys.{Keys}
use Rattle.ferry_msgpack.specs.Tree.{table}
use Rattle.ferry_msgpack.specs.Apart.{Parts}
use Rattle.ferry_fields.specs.Fields.{value_of, raw_in, has_version_1}
use Rattle.ferry_fields.specs.Others.{without}
use Rattle.ferry_manifest.specs.Stated.{tag_in}
use Rattle.ferry_manifest.specs.Record.Text.{ArchiveText, apart_names, unless_tag_differs}
use Rattle.ferry_manifest.specs.declared.fault.MetaFault.{MetaFault}
use Rattle.ferry_manifest.specs.declared.fault.MetaFault.TheVariants.{Field}

-- whether a field is missing or has another kind or length, or the version isn't 1
abbrev pub lacks_apart : Parts → Bool
lacks_apart parts =
    not (has_version_1 parts.0)
    || is_none (raw_in (codes "name") parts.0)
    || is_none parts.1
    || is_none (tag_in parts.0)

-- what the fields say
abbrev pub text_apart : Parts → ArchiveText
text_apart parts = record {
  name = unwrap_or (raw_in (codes "name") parts.0) [];
  items = unwrap_or parts.1 [];
  params = value_of (codes "chunker_params") parts.0;
  fields = table (without apart_names parts.0);
  tagged = is_some (value_of (codes "tam") parts.0);
}

-- the record, or why it isn't read
abbrev pub record_apart : Keys → List ℕ → Parts → Result ArchiveText MetaFault
record_apart keys bytes parts =
    if lacks_apart parts then Err Field
    else unless_tag_differs keys bytes (text_apart parts) (unwrap_or (tag_in parts.0) None)
