-- The packed bytes of a manifest that is written. BorgBackup 1.2 Internals, "Data structures and file formats", The
-- manifest. Each map is written by the one shortest spelling.
use Rattle.std.specs.Prelude.{◌≡◌, ℕ, ◌≤◌, List, [], ◌∷◌, length, map, codes, false, pos, Option, Some, None, ⊤}
use Rattle.std.specs.Ordering.{nat_cmp}
use Rattle.std.specs.declared.cmp.Ordering.TheVariants.{Less}
use Rattle.std.specs.Cmp.Lexicographic.{slice_cmp}
use Rattle.ferry_mac.specs.declared.keys.Keys.{Keys}
use Rattle.ferry_msgpack.specs.Tree.{number, raw, array, table, Pairs, no_pairs, pair, put}
use Rattle.ferry_msgpack.specs.Writable.{depth, IsWritable}
use Rattle.ferry_fields.specs.Others.{has_among}
use Rattle.ferry_manifest.specs.Manifest.Text.{ManifestText, field_names}
use Rattle.ferry_manifest.specs.Values.{pairs_of_table, raws}
use Rattle.ferry_manifest.specs.Tag.{manifest_info}
use Rattle.ferry_manifest.specs.Tagged.{tagged_text}
use Rattle.ferry_manifest.specs.declared.manifest.ArchiveRef.{ArchiveRef}

-- the name is below the first of these names, by byte order
abbrev pub IsBelowNames : List ℕ → List (List ℕ) → Type 0
IsBelowNames name [] = ⊤
IsBelowNames name (n ∷ ns) = slice_cmp nat_cmp name n ≡ Less

-- each name is below the next one
abbrev pub AreIncreasing : List (List ℕ) → Type 0
AreIncreasing [] = ⊤
AreIncreasing (n ∷ ns) = IsBelowNames n ns × AreIncreasing ns

-- the names of archives
abbrev pub archive_names : List ArchiveRef → List (List ℕ)
archive_names archives = map (λ archive. archive.name) archives

-- a manifest that can be packed: the names of the archives and of items increase, `config` and the other names are
-- tables that can be written, `config` also inside another map, and none of the other names is a field's
pub record IsPackable (manifest : ManifestText) : Type 0 where
  pub archives : AreIncreasing (archive_names manifest.archives)
  pub item_keys : AreIncreasing manifest.item_keys
  pub config : manifest.config ≡ table (pairs_of_table manifest.config)
  pub config_writable : IsWritable manifest.config
  pub config_depth : depth manifest.config ≤ 63
  pub more : manifest.more ≡ table (pairs_of_table manifest.more)
  pub more_writable : IsWritable manifest.more
  pub apart : has_among field_names (pairs_of_table manifest.more) ≡ false

-- the id of each archive has 32 bytes, as arrays of the code have
abbrev pub HaveIds : List ArchiveRef → Type 0
HaveIds [] = ⊤
HaveIds (archive ∷ archives) = (length archive.id ≡ 32) × HaveIds archives

-- the map of an archive
unfoldable pub archive_fields : ArchiveRef → Pairs
archive_fields archive = put (codes "id") (raw archive.id) (put (codes "time") (raw archive.time) no_pairs)

-- the archives by their names
unfoldable pub archive_pairs : List ArchiveRef → Pairs
archive_pairs [] = no_pairs
archive_pairs (archive ∷ archives) = pair archive.name (table (archive_fields archive)) (archive_pairs archives)

-- the pairs, with the timestamp where there is one
abbrev pub with_timestamp : Option (List ℕ) → Pairs → Pairs
with_timestamp None pairs = pairs
with_timestamp (Some timestamp) pairs = put (codes "timestamp") (raw timestamp) pairs

-- the pairs of a manifest but for its tag
unfoldable pub untagged_pairs : ManifestText → Pairs
untagged_pairs manifest =
    put (codes "version") (number (pos 1))
    (put (codes "archives") (table (archive_pairs manifest.archives))
    (put (codes "item_keys") (array (raws manifest.item_keys))
    (put (codes "config") manifest.config
    (with_timestamp manifest.timestamp (pairs_of_table manifest.more)))))

-- the packed bytes of a manifest under these keys
unfoldable pub manifest_text : Keys → List ℕ → ManifestText → List ℕ
manifest_text keys salt manifest = tagged_text manifest_info keys salt (untagged_pairs manifest)
