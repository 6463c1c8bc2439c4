-- What an archive is in a target: its items with the chunks of their contents as they are cut there, its stream, and its record.
use Rattle.std.specs.Prelude.{◌≡◌, ◌≤◌, ℕ, true, List, [], ◌∷◌, ◌++◌, length, map, Option, Some, None, option_map, Ok}
use Rattle.std.specs.List.{AllByRecursion, concat, flat_map}
use Rattle.ferry_base.specs.Limits.{content_limit}
use Rattle.ferry_blob.specs.Blob.{content_id}
use Rattle.ferry_item.specs.Item.{ItemText}
use Rattle.ferry_item.specs.Stream.{an_item, front_item}
use Rattle.ferry_item.specs.Writing.{item_text}
use Rattle.ferry_mac.specs.declared.keys.Keys.{Keys}
use Rattle.ferry_carry.specs.Naming.{fixed_params}
use Rattle.ferry_manifest.specs.Record.Text.{ArchiveText, archive_of}
use Rattle.ferry_manifest.specs.Record.Writing.{archive_text}
use Rattle.ferry_msgpack.specs.Tree.{Tree}
use Rattle.ferry_rechunk.specs.Cut.{cut}
use Rattle.ferry_repo.specs.Whole.{WholeItem}
use Rattle.ferry_piece.specs.Gather.{chunks_of}

-- the length of the pieces of an item stream
abbrev pub stream_block : ℕ
stream_block = 131072

-- the pieces of an item's content, none where it has none
abbrev pub pieces_of : ℕ → Option (List ℕ) → List (List ℕ)
pieces_of block None = []
pieces_of block (Some content) = cut block content

-- The content of an item is cut into no more pieces than an item may have.
abbrev pub HasFewPieces : ℕ → WholeItem → Type 0
HasFewPieces block whole = length (pieces_of block whole.content) ≤ 4294967295

-- an item of a source as it is in a target
abbrev pub copied_item : Keys → ℕ → WholeItem → ItemText
copied_item keys block whole =
    record { fields = whole.fields; chunks = option_map (λ (content : List ℕ). chunks_of keys (cut block content)) whole.content }

-- these items' spellings, joined
abbrev pub stream_of : List ItemText → List ℕ
stream_of items = concat (map item_text items)

-- An item's spelling is read as the item, whatever follows.
abbrev pub IsRead : ItemText → Type 0
IsRead item = (rest : List ℕ) → front_item (item_text item ++ rest) ≡ an_item item rest

-- the pieces of the contents of these items
abbrev pub contents_of : ℕ → List WholeItem → List (List ℕ)
contents_of block wholes = flat_map (λ (whole : WholeItem). pieces_of block whole.content) wholes

-- the stream of these items in a target, and its pieces
abbrev pub copied_stream : Keys → ℕ → List WholeItem → List ℕ
copied_stream keys block wholes = stream_of (map (copied_item keys block) wholes)

abbrev pub stream_pieces : Keys → ℕ → List WholeItem → List (List ℕ)
stream_pieces keys block wholes = cut stream_block (copied_stream keys block wholes)

-- all contents that an archive of these items is in a target, whose record has this text
abbrev pub adds_of : Keys → ℕ → List WholeItem → List ℕ → List (List ℕ)
adds_of keys block wholes text = contents_of block wholes ++ (stream_pieces keys block wholes ++ text ∷ [])

-- A text is that of the record of an archive with these fields, whose stream is that of these items, and which was cut into pieces of this length. It is
-- tagged with this salt, and no larger than the content of an object may be, and no item has more pieces than one may have.
pub record IsCopyOf (keys : Keys) (block : ℕ) (wholes : List WholeItem) (fields : Tree) (salt text : List ℕ) : Type 0 where
  pub some : 1 ≤ block
  pub salt_size : length salt ≡ 64
  pub copied : ArchiveText
  pub same : copied.fields ≡ fields
  pub items : copied.items ≡ map (content_id keys) (stream_pieces keys block wholes)
  pub params : copied.params ≡ Some (fixed_params block)
  pub tagged : copied.tagged ≡ true
  pub text_is : text ≡ archive_text keys salt copied
  pub reads : archive_of keys text ≡ Ok copied
  pub small : length text ≤ content_limit
  pub few : AllByRecursion (HasFewPieces block) wholes
  pub spelled : AllByRecursion (λ (whole : WholeItem). IsRead (copied_item keys block whole)) wholes
