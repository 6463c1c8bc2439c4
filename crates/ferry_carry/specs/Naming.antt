-- The record and the entry that an archive has in a target.
use Rattle.std.specs.Prelude.{◌≡◌, ◌≤◌, ◌⊎◌, ℕ, Bool, true, List, [], ◌∷◌, ◌++◌, codes}
use Rattle.std.specs.Prelude.{drop, filter, length, map, pos, Option, Some, option_map, Result, Ok, Err}
use Rattle.std.specs.List.{AllByRecursion}
use Rattle.ferry_base.specs.Limits.{content_limit}
use Rattle.ferry_blob.specs.Blob.{content_id}
use Rattle.ferry_item.specs.declared.item.ChunkRef.{ChunkRef}
use Rattle.ferry_mac.specs.declared.keys.Keys.{Keys}
use Rattle.ferry_manifest.specs.Record.Text.{ArchiveText, archive_of, as_tagged}
use Rattle.ferry_manifest.specs.Record.Writing.{archive_text}
use Rattle.ferry_manifest.specs.declared.manifest.ArchiveRef.{ArchiveRef}
use Rattle.ferry_msgpack.specs.Tree.{Tree, array, item, no_items, number, raw}
use Rattle.ferry_piece.specs.Adding.{IsNoChunk}
use Rattle.ferry_piece.specs.Puts.{Addition, Record, addition, same_kind}
use Rattle.ferry_piece.specs.declared.fault.CarryFault.{CarryFault}

-- the parameters of a chunker that cuts pieces of this length: its name, the length, and that of a header
abbrev pub fixed_params : ℕ → Tree
fixed_params block = array (item (raw (codes "fixed")) (item (number (pos block)) (item (number (pos 0)) no_items)))

-- the record with other pieces of its stream, cut so
abbrev pub copied_archive : ArchiveText → ℕ → List (List ℕ) → ArchiveText
copied_archive archive block ids =
    record { name = archive.name; items = ids; params = Some (fixed_params block); fields = archive.fields; tagged = true }

-- the entry with the id of another record
abbrev pub entry_for : ArchiveRef → List ℕ → ArchiveRef
entry_for named id = record { name = named.name; id = id; time = named.time }

-- ---- what is drawn

-- This salt of 64 bytes was drawn from a source of random bytes.
abbrev pub Draws : List ℕ → Option (List ℕ) → Option (List ℕ) → Type 0
Draws salt before now = (length salt ≡ 64) × (now ≡ option_map (λ (bytes : List ℕ). bytes ++ salt) before)

-- the record of an archive that comes into a target: its text, the salt of its tag, and that of the tag of the manifest which names it
pub record TaggedRecord : Type 0 where
  pub text : List ℕ
  pub salt : List ℕ
  pub manifest_salt : List ℕ

-- the ids of records
abbrev pub record_ids : Keys → List TaggedRecord → List (List ℕ)
record_ids keys records = map (λ (one : TaggedRecord). content_id keys one.text) records

-- Both salts of a record have 64 bytes.
abbrev pub HasSalts : TaggedRecord → Type 0
HasSalts one = (length one.salt ≡ 64) × (length one.manifest_salt ≡ 64)

-- the salts of records, in the order in which they are drawn
abbrev pub salts_of : List TaggedRecord → List ℕ
salts_of [] = []
salts_of (one ∷ rest) = one.salt ++ (one.manifest_salt ++ salts_of rest)

-- The salts of these records, of 64 bytes each, were drawn from a source of random bytes, and nothing else.
pub record DrawsSalts (records : List TaggedRecord) (before now : Option (List ℕ)) : Type 0 where
  pub sizes : AllByRecursion HasSalts records
  pub drawn : now ≡ option_map (λ (bytes : List ℕ). bytes ++ salts_of records) before

-- ---- what was tagged

-- the texts of the records among these
abbrev pub records_in : List Addition → List (List ℕ)
records_in added = map (λ (one : Addition). one.content) (filter (λ (one : Addition). same_kind Record one.kind) added)

-- These are the texts of records that are tagged from these bytes: the salt of each is the next 64 of them, and behind it come 64 for the manifest that
-- names it.
abbrev pub AreTaggedBy : Keys → List ℕ → List (List ℕ) → Type 0
AreTaggedBy keys bytes [] = Unit {0}
AreTaggedBy keys bytes (text ∷ texts) = (salt : List ℕ) × ((length salt ≡ 64) × ((rest : List ℕ) × ((bytes ≡ salt ++ rest)
    × ((archive : ArchiveText) × ((text ≡ archive_text keys salt archive) × AreTaggedBy keys (drop 64 rest) texts)))))

-- The records among these are tagged, one after another, from what was drawn from a source of random bytes.
pub record TagsDrawn (keys : Keys) (added : List Addition) (before now : Option (List ℕ)) : Type 0 where
  pub bytes : List ℕ
  pub drawn : now ≡ option_map (λ (some : List ℕ). some ++ bytes) before
  pub tagged : AreTaggedBy keys bytes (records_in added)

-- ---- what is added

-- A record was added, tagged with this salt.
pub record AddsRecord (keys : Keys) (archive : ArchiveText) (more : List Addition) : Type 0 where
  pub salt : List ℕ
  pub salt_size : length salt ≡ 64
  pub text : List ℕ
  pub text_is : text ≡ archive_text keys salt archive
  pub put : Bool
  pub more_is : more ≡ addition Record text put ∷ []
  pub reads : archive_of keys text ≡ Ok (as_tagged archive)
  pub small : length text ≤ content_limit

-- What was added of a record, as far as it came: nothing, or that.
abbrev pub BeginsRecord : Keys → ArchiveText → List Addition → Type 0
BeginsRecord keys archive more = (more ≡ []) ⊎ AddsRecord keys archive more

-- A record was added whose salt was drawn, and this is its id.
pub record AddsUnder (keys : Keys) (archive : ArchiveText) (more : List Addition) (before now : Option (List ℕ)) (id : List ℕ) : Type 0 where
  pub adds : AddsRecord keys archive more
  pub drew : Draws adds.salt before now
  pub id_is : id ≡ content_id keys adds.text

-- What was added of a record, by what came of it: its salt was drawn; where a live chunk stopped it, it is tagged from what was drawn.
abbrev pub PutsRecord : Keys → ArchiveText → List Addition → Option (List ℕ) → Option (List ℕ) → Result (List ℕ) CarryFault → Type 0
PutsRecord keys archive more before now (Ok id) = AddsUnder keys archive more before now id
PutsRecord keys archive more before now (Err fault) = IsNoChunk fault ⊎ TagsDrawn keys more before now

-- the record of an archive whose stream is in these pieces
abbrev pub copied_in : ArchiveText → ℕ → List ChunkRef → ArchiveText
copied_in archive block pieces = copied_archive archive block (map (λ (chunk : ChunkRef). chunk.id) pieces)
