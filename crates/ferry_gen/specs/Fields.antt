-- What the records and the items of the drill's archives say (BorgBackup 1.2, Internals, "Data structures and file formats", Archives).
use Rattle.std.specs.Prelude.{◌≡◌, ℕ, codes, pos}
use Rattle.ferry_manifest.specs.Record.Text.{ArchiveText}
use Rattle.ferry_msgpack.specs.Tree.{Tree, number, no_pairs, pair, raw, table}
use Rattle.ferry_gen.specs.Content.{archive_name, archive_time, file_path}

-- the fields of an archive's record
abbrev pub archive_fields : ℕ → Tree
archive_fields archive = table (pair (codes "name") (raw (archive_name archive)) (pair (codes "time") (raw archive_time)
    (pair (codes "version") (number (pos 1)) no_pairs)))

-- the fields of an item: a plain file with the mode 100644 in octal digits
abbrev pub item_fields : ℕ → Tree
item_fields file = table (pair (codes "mode") (number (pos 33188)) (pair (codes "path") (raw (file_path file)) no_pairs))

-- a record with these fields that has no items yet
abbrev pub IsNewRecord : ℕ → ArchiveText → Type 0
IsNewRecord archive text = (text.name ≡ archive_name archive) × (text.fields ≡ archive_fields archive)
