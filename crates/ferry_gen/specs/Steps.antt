-- The source as it comes to be: contents that are added, and archives that are named.
use Rattle.std.specs.Prelude.{◌≡◌, ◌≤◌, ◌++◌, ◌∷◌, [], ℕ, zero, suc, true, List, length, map, Option, Some, Ok}
use Rattle.std.specs.List.{AllByRecursion}
use Rattle.ferry_base.specs.Limits.{content_limit}
use Rattle.ferry_blob.specs.Blob.{content_id}
use Rattle.ferry_carry.specs.Copied.{adds_of}
use Rattle.ferry_carry.specs.Naming.{fixed_params}
use Rattle.ferry_config.specs.declared.config.Config.{Config}
use Rattle.ferry_disk.specs.Act.{History, files_now}
use Rattle.ferry_disk.specs.Device.{Told}
use Rattle.ferry_disk.specs.Files.{Files}
use Rattle.ferry_disk.specs.Moments.{Between}
use Rattle.ferry_item.specs.declared.item.ChunkRef.{ChunkRef}
use Rattle.ferry_mac.specs.declared.keys.Keys.{Keys}
use Rattle.ferry_manifest.specs.Record.Text.{ArchiveText, archive_of}
use Rattle.ferry_manifest.specs.Record.Writing.{archive_text}
use Rattle.ferry_piece.specs.Gather.{Gathers, HoldsContents, HoldsWithin, IsAmong, NoCollision, chunks_of}
use Rattle.ferry_piece.specs.Puts.{Addition, contents_in}
use Rattle.ferry_piece.specs.declared.piece.PieceWriter.{PieceWriter}
use Rattle.ferry_rechunk.specs.Cut.{cut}
use Rattle.ferry_repo.specs.Opening.{RepoState, repo_view}
use Rattle.ferry_store.specs.Commit.{accepted_in}
use Rattle.ferry_store.specs.Standing.{UnlocksSettings}
use Rattle.ferry_store.specs.declared.store.Store.{Store}
use Rattle.ferry_gen.specs.Archives.{AreRecordsOf, IsRecordOf, contents_from, drill_items, entries_from}
use Rattle.ferry_gen.specs.Fields.{archive_fields}
use Rattle.ferry_gen.specs.Source.{IsPlain, item_names, source_block, source_secret}

-- how many pieces may be put before a commit
abbrev pub most_pending : ℕ
most_pending = 1000000

-- These contents were added.
abbrev pub Puts : List (List ℕ) → Store → Store → Option Told → Option Told → Type 0
Puts contents store store_now before now =
    (more : List Addition) × ((contents_in more ≡ contents) × Between before now (Gathers most_pending store more store_now))

-- A writer has taken all of these bytes: these pieces of them became whole and were added, and the rest is in hand.
pub record IsWritten (keys : Keys) (block : ℕ) (bytes : List ℕ) (store store_now : Store) (before now : Option Told) (writer : PieceWriter) : Type 0 where
  pub full : List (List ℕ)
  pub puts : Puts full store store_now before now
  pub whole : full ++ cut writer.cutter.block writer.cutter.piece ≡ cut block bytes
  pub chunks : writer.chunks.items ≡ chunks_of keys full
  pub block_is : writer.cutter.block ≡ block
  pub within : length writer.cutter.piece ≤ writer.cutter.block

-- Pieces of a stream were added, and behind them the record of an archive whose stream has these chunks. The record has this id.
pub record PutsRecord (archive : ℕ) (keys : Keys) (chunks : List ChunkRef) (pieces : List (List ℕ)) (store store_now : Store) (before now : Option Told)
    (id : List ℕ) : Type 0 where
  pub text : List ℕ
  pub salt : List ℕ
  pub salt_size : length salt ≡ 64
  pub copied : ArchiveText
  pub fields : copied.fields ≡ archive_fields archive
  pub tagged : copied.tagged ≡ true
  pub items : copied.items ≡ map (λ (chunk : ChunkRef). chunk.id) chunks
  pub params : copied.params ≡ Some (fixed_params source_block)
  pub text_is : text ≡ archive_text keys salt copied
  pub reads : archive_of keys text ≡ Ok copied
  pub small : length text ≤ content_limit
  pub id_is : id ≡ content_id keys text
  pub puts : Puts (pieces ++ text ∷ []) store store_now before now

-- All contents of an archive were added, whose record has this id.
pub record PutsArchive (archive : ℕ) (keys : Keys) (store store_now : Store) (before now : Option Told) (id : List ℕ) : Type 0 where
  pub text : List ℕ
  pub is : IsRecordOf keys source_block archive text
  pub id_is : id ≡ content_id keys text
  pub puts : Puts (adds_of keys source_block (drill_items archive) text) store store_now before now

-- Where no contents collide, these are there, and no others.
abbrev pub AreHeld : Files → RepoState → List (List ℕ) → Type 0
AreHeld files repo contents = (scope : List (List ℕ)) → NoCollision repo.keys scope → AllByRecursion (IsAmong scope) contents
    → HoldsWithin scope files repo × HoldsContents files repo contents

-- the names of items' fields behind so many archives
abbrev pub names_behind : ℕ → List (List ℕ)
names_behind zero = []
names_behind (suc count) = item_names

-- So many archives are there, and no others.
pub record HasMade (count : ℕ) (store : Store) (history : History) : Type 0 where
  pub texts : List (List ℕ)
  pub texts_size : length texts ≡ count
  pub config : Config
  pub unlocks : UnlocksSettings source_secret (files_now history).config config (repo_view store.repo).keys
  pub plain : IsPlain (names_behind count) (accepted_in store)
  pub archives : (accepted_in store).archives ≡ entries_from (repo_view store.repo).keys zero texts
  pub records : AreRecordsOf (repo_view store.repo).keys source_block zero texts
  pub held : AreHeld (files_now history) (repo_view store.repo) (contents_from (repo_view store.repo).keys source_block zero texts)
