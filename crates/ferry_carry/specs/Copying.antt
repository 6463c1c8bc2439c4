-- An archive on its way: an item that is taken, its content as it is cut, and its spelling in the stream.
use Rattle.std.specs.Prelude.{◌≡◌, ◌≤◌, ◌<◌, ◌++◌, ◌⊎◌, ℕ, List, [], ◌∷◌, length, Option, Some, None, IfSome}
use Rattle.ferry_disk.specs.Device.{Told, told_files}
use Rattle.ferry_disk.specs.Files.{Files}
use Rattle.ferry_item.specs.Item.{ItemText}
use Rattle.ferry_item.specs.Writing.{item_text}
use Rattle.ferry_item.specs.declared.item.ChunkRef.{ChunkRef}
use Rattle.ferry_mac.specs.declared.keys.Keys.{Keys}
use Rattle.ferry_manifest.specs.Record.Text.{archive_view}
use Rattle.ferry_manifest.specs.Record.Writing.{IsPackableArchive}
use Rattle.ferry_rechunk.specs.Cut.{cut}
use Rattle.ferry_rechunk.specs.Cutting.{Cutting}
use Rattle.ferry_repo.specs.Opening.{RepoState, repo_view}
use Rattle.ferry_repo.specs.Walk.{FitsWalk, LeadsOn, WalkState, begin_walk, walk_view}
use Rattle.ferry_repo.specs.Archives.{HoldsContent, HoldsRecord, ContentsCome, HoldsJoined}
use Rattle.ferry_store.specs.Adding.{IsAnswered, id_under}
use Rattle.ferry_store.specs.declared.store.Store.{Store}
use Rattle.std.specs.List.{AllByRecursion, concat}
use Rattle.ferry_carry.specs.Copied.{stream_block}
use Rattle.ferry_piece.specs.Gather.{chunks_of}
use Rattle.ferry_piece.specs.Piece.{BeginsOn, WritesOn}
use Rattle.ferry_piece.specs.Puts.{IsCheckpoint}
use Rattle.ferry_carry.specs.declared.copy.Copy.{Copy}
use Rattle.ferry_carry.specs.declared.options.Options.{Options}
use Rattle.ferry_piece.specs.declared.piece.PieceWriter.{PieceWriter}

-- A writer with this block size and checkpoint has written nothing.
pub record IsUnused (writer : PieceWriter) (block most : ℕ) : Type 0 where
  pub block_is : writer.cutter.block ≡ block
  pub most_is : writer.checkpoint ≡ most
  pub piece : writer.cutter.piece ≡ []
  pub chunks : writer.chunks.items ≡ []
  pub put : writer.put ≡ 0
  pub bytes : writer.bytes ≡ 0

-- No content is under way, and the block size, the checkpoint and the record are those of an archive that can be written.
pub record IsReady (copy : Copy) : Type 0 where
  pub least : 64 ≤ copy.block
  pub most : copy.block ≤ 8388608
  pub contents_block : copy.contents.cutter.block ≡ copy.block
  pub contents_piece : copy.contents.cutter.piece ≡ []
  pub contents_chunks : copy.contents.chunks.items ≡ []
  pub stream_block_is : copy.stream.cutter.block ≡ stream_block
  pub stream_room : length copy.stream.cutter.piece < copy.stream.cutter.block
  pub checkpoint : IsCheckpoint copy.contents.checkpoint
  pub same : copy.stream.checkpoint ≡ copy.contents.checkpoint
  pub packable : IsPackableArchive (archive_view copy.archive)

-- An archive that is copied can be gone on with: it is ready, and its walk fits the source.
pub record FitsCopy (told : Option Told) (source : RepoState) (copy : Copy) : Type 0 where
  pub ready : IsReady copy
  pub walk_fits : IfSome told (λ t. FitsWalk (told_files t) source.log source.keys (walk_view copy.walk))

-- The archive whose record has an id is begun to be copied, so: its walk is in front of the items, and nothing is written.
pub record BeginsCopy (told : Option Told) (source : RepoState) (id : List ℕ) (options : Options) (copy : Copy) : Type 0 where
  pub ready : IsReady copy
  pub archive : IfSome told (λ t. HoldsRecord (told_files t) source.log source.keys id (archive_view copy.archive))
  pub walk : walk_view copy.walk ≡ begin_walk id (archive_view copy.archive).items
  pub block : copy.block ≡ options.block
  pub checkpoint : copy.contents.checkpoint ≡ options.checkpoint
  pub stream : (copy.stream.cutter.piece ≡ []) × (copy.stream.chunks.items ≡ [])
  pub counted : (copy.contents.put ≡ 0) × ((copy.contents.bytes ≡ 0) × (copy.stream.put ≡ 0))

-- An archive that is copied goes on, with the record, the block size and the checkpoint that it had.
pub record KeepsCopy (told : Option Told) (source : RepoState) (copy copy_now : Copy) : Type 0 where
  pub archive : copy_now.archive ≡ copy.archive
  pub checkpoint : copy_now.contents.checkpoint ≡ copy.contents.checkpoint
  pub block : copy_now.block ≡ copy.block
  pub ready : IsReady copy_now
  pub walk_fits : IfSome told (λ t. FitsWalk (told_files t) source.log source.keys (walk_view copy_now.walk))

-- Of an archive that is copied the writer of contents alone is another, with the same checkpoint.
pub record KeepsContents (copy copy_now : Copy) : Type 0 where
  pub ready : IsReady copy_now
  pub others : copy_now ≡ record copy { contents = copy_now.contents }
  pub checkpoint : copy_now.contents.checkpoint ≡ copy.contents.checkpoint

-- An item of the source's stream was taken.
abbrev pub TakesItem : Files → RepoState → WalkState → ItemText → WalkState → Type 0
TakesItem files source before item after = LeadsOn files source.log source.keys before (item ∷ []) after

-- These pieces are the content of an item with these chunks in the source, cut, and its chunks in the target are theirs.
abbrev pub CopiesContent : Option Told → RepoState → ℕ → Keys → Option (List ChunkRef) → List (List ℕ) → Option (List ChunkRef) → Type 0
CopiesContent told source block keys None more None = more ≡ []
CopiesContent told source block keys None more (Some copied) = ⊥
CopiesContent told source block keys (Some chunks) more None = ⊥
CopiesContent told source block keys (Some chunks) more (Some copied) =
    (content : List ℕ) × ((more ≡ cut block content) × ((copied ≡ chunks_of keys (cut block content)) × ((length copied ≤ 4294967295)
    × IfSome told (λ t. HoldsJoined (told_files t) source.log source.keys (Some chunks) (Some content)))))

-- The content of an item with these chunks is in the source, and a store knows each of the pieces into which it is cut; these are the pieces' chunks.
pub record KnowsContent (told : Option Told) (source : RepoState) (store : Store) (block : ℕ) (chunks copied : List ChunkRef) : Type 0 where
  pub content : List ℕ
  pub copied_are : copied ≡ chunks_of (repo_view store.repo).keys (cut block content)
  pub few : length copied ≤ 4294967295
  pub holds : IfSome told (λ t. HoldsJoined (told_files t) source.log source.keys (Some chunks) (Some content))
  pub answered : AllByRecursion (λ (piece : List ℕ). IsAnswered store (id_under store piece)) (cut block content)

-- The spelling of an item was written into the stream, and is read as the item.
pub record WritesItem (keys : Keys) (cutter : Cutting) (chunks : List ChunkRef) (item : ItemText) (more : List (List ℕ)) (cutter_now : Cutting)
    (chunks_now : List ChunkRef) : Type 0 where
  pub writes : WritesOn keys cutter chunks (item_text item) more cutter_now chunks_now

-- how far a writer of pieces is: what it has in hand, and the chunks of the pieces that became whole
pub record WriterState : Type 0 where
  pub cutter : Cutting
  pub chunks : List ChunkRef

abbrev pub writer_state : Cutting → List ChunkRef → WriterState
writer_state cutter chunks = record { cutter = cutter; chunks = chunks }

-- Of these chunks of the source these are the contents, which were written one behind another: these pieces became whole.
pub record WritesContents (told : Option Told) (source : RepoState) (keys : Keys) (refs : List ChunkRef) (writer : WriterState) (more : List (List ℕ))
    (writer_now : WriterState) : Type 0 where
  pub contents : List (List ℕ)
  pub come : IfSome told (λ t. ContentsCome (told_files t) source.log source.keys refs contents None)
  pub writes : WritesOn keys writer.cutter writer.chunks (concat contents) more writer_now.cutter writer_now.chunks

-- The content of one chunk of the source was written.
pub record WritesContent (told : Option Told) (source : RepoState) (keys : Keys) (ref : ChunkRef) (writer : WriterState) (more : List (List ℕ))
    (writer_now : WriterState) : Type 0 where
  pub content : List ℕ
  pub comes : IfSome told (λ t. HoldsContent (told_files t) source.log source.keys ref content)
  pub writes : WritesOn keys writer.cutter writer.chunks content more writer_now.cutter writer_now.chunks

-- ---- as far as it came

-- Of the content of a chunk of the source, behind what is in hand, these are first pieces, all of a whole block; or there are none.
abbrev pub BeginsChunk : Option Told → RepoState → ChunkRef → Cutting → List (List ℕ) → Type 0
BeginsChunk told source ref cutter more = (more ≡ [])
    ⊎ ((content : List ℕ) × (IfSome told (λ t. HoldsContent (told_files t) source.log source.keys ref content) × BeginsOn cutter content more))

-- Of the contents of the first of these chunks, one behind another, behind what is in hand, these are first pieces, all of a whole block.
pub record BeginsContents (told : Option Told) (source : RepoState) (refs : List ChunkRef) (cutter : Cutting) (more : List (List ℕ)) : Type 0 where
  pub first : List ChunkRef
  pub rest : List ChunkRef
  pub split : refs ≡ first ++ rest
  pub contents : List (List ℕ)
  pub come : IfSome told (λ t. ContentsCome (told_files t) source.log source.keys first contents None)
  pub full : BeginsOn cutter (concat contents) more

-- Of the content of an item with these chunks, these are first pieces, or all.
abbrev pub BeginsContent : Option Told → RepoState → ℕ → Option (List ChunkRef) → List (List ℕ) → Type 0
BeginsContent told source block None more = more ≡ []
BeginsContent told source block (Some refs) more = BeginsContents told source refs (record { block = block; piece = [] }) more
    ⊎ ((content : List ℕ) × ((more ≡ cut block content)
    × IfSome told (λ t. HoldsJoined (told_files t) source.log source.keys (Some refs) (Some content))))
