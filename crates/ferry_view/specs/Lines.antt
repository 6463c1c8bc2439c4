-- The lines that show a repository. They are this project's own.
use Rattle.std.specs.Prelude.{ℕ, Bool, true, false, List, [], ◌∷◌, ◌++◌, sum_by, Option, Some, None, is_some, unwrap_or, codes, decimal}
use Rattle.std.specs.List.{flat_map}
use Rattle.hex.specs.Hex.{encode_lower}
use Rattle.ferry_fields.specs.Fields.{raw_in, value_of}
use Rattle.ferry_item.specs.Item.{ItemText}
use Rattle.ferry_item.specs.Writing.{field_pairs}
use Rattle.ferry_item.specs.declared.item.ChunkRef.{ChunkRef}
use Rattle.ferry_manifest.specs.declared.manifest.ArchiveRef.{ArchiveRef}
use Rattle.ferry_text.specs.Text.{escaped}

-- ---- archives

-- the line of an archive: the id of its record in hex digits, its time and its name as printed texts, with spaces between them,
-- and a line feed
unfoldable pub archive_line : ArchiveRef → List ℕ
archive_line archive = encode_lower archive.id ++ (32 ∷ escaped archive.time ++ (32 ∷ escaped archive.name ++ (10 ∷ [])))

-- the lines of archives
unfoldable pub archive_lines : List ArchiveRef → List ℕ
archive_lines archives = flat_map archive_line archives

-- ---- items

-- the path of an item
abbrev pub path_of : ItemText → List ℕ
path_of item = unwrap_or (raw_in (codes "path") (field_pairs item)) []

-- whether an item has the field `source`, as links have
abbrev pub has_source : ItemText → Bool
has_source item = is_some (value_of (codes "source") (field_pairs item))

-- the stated sizes of chunks, added up
abbrev pub sizes : List ChunkRef → ℕ
sizes chunks = sum_by (λ c. c.size) chunks

-- the front of an item's line: `f` and its size where it has content, else `l` where it has `source`, else `-`
abbrev pub item_front : Option (List ChunkRef) → Bool → List ℕ
item_front (Some chunks) linked = codes "f " ++ decimal (sizes chunks)
item_front None true = codes "l 0"
item_front None false = codes "- 0"

-- the line of an item: its kind, its size and its path as a printed text, with spaces between them, and a line feed
unfoldable pub item_line : ItemText → List ℕ
item_line item = item_front item.chunks (has_source item) ++ (32 ∷ escaped (path_of item) ++ (10 ∷ []))

-- the lines of items
unfoldable pub item_lines : List ItemText → List ℕ
item_lines items = flat_map item_line items
