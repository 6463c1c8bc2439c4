-- The packed bytes of an archive's record that is written. BorgBackup 1.2 Internals, "Data structures and file formats",
-- Archives. Each map is written by the one shortest spelling.
use Rattle.std.specs.Prelude.{◌≡◌, ℕ, ◌≤◌, true, false, List, [], ◌∷◌, length, codes, Option, Some, None}
use Rattle.std.specs.Prelude.{⊤}
use Rattle.ferry_mac.specs.declared.keys.Keys.{Keys}
use Rattle.ferry_msgpack.specs.Tree.{Tree, array, table, Pairs, put}
use Rattle.ferry_msgpack.specs.Writable.{depth, IsWritable}
use Rattle.ferry_fields.specs.Fields.{raw_in, has_version_1}
use Rattle.ferry_fields.specs.Others.{has_among}
use Rattle.ferry_manifest.specs.Tag.{archive_info}
use Rattle.ferry_manifest.specs.Tagged.{tagged_text}
use Rattle.ferry_manifest.specs.Values.{pairs_of_table, raws}
use Rattle.ferry_manifest.specs.Record.Text.{ArchiveText, apart_names}

-- a value of `chunker_params`, where there is one, that can be written inside a map
abbrev pub AreParams : Option Tree → Type 0
AreParams None = ⊤
AreParams (Some t) = IsWritable t × (depth t ≤ 63)

-- a record that can be packed: its fields are a table that can be written, without the names that aren't among them,
-- in which the version is 1 and the name is that of the archive
pub record IsPackableArchive (archive : ArchiveText) : Type 0 where
  pub fields : archive.fields ≡ table (pairs_of_table archive.fields)
  pub fields_writable : IsWritable archive.fields
  pub apart : has_among apart_names (pairs_of_table archive.fields) ≡ false
  pub version : has_version_1 (pairs_of_table archive.fields) ≡ true
  pub name : raw_in (codes "name") (pairs_of_table archive.fields) ≡ Some archive.name
  pub params : AreParams archive.params

-- each of these ids has 32 bytes, as arrays of the code have
abbrev pub AreIds : List (List ℕ) → Type 0
AreIds [] = ⊤
AreIds (id ∷ ids) = (length id ≡ 32) × AreIds ids

-- the pairs, with `chunker_params` where it is there
abbrev pub with_params : Option Tree → Pairs → Pairs
with_params None pairs = pairs
with_params (Some t) pairs = put (codes "chunker_params") t pairs

-- the pairs of a record but for its tag
unfoldable pub record_pairs : ArchiveText → Pairs
record_pairs archive = put (codes "items") (array (raws archive.items)) (with_params archive.params (pairs_of_table archive.fields))

-- the packed bytes of a record under these keys, which has a tag whether it had one or not
unfoldable pub archive_text : Keys → List ℕ → ArchiveText → List ℕ
archive_text keys salt archive = tagged_text archive_info keys salt (record_pairs archive)
