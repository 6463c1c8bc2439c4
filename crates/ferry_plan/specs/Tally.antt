-- The tally of a plan: which ids it knows, what it counted, and how far it is with what it was given.
use Rattle.std.specs.Prelude.{◌≡◌, ◌≢◌, ◌⊎◌, ◌≤◌, ◌<◌, ◌-◌, ◌^◌, ◌++◌, ℕ, true, List, [], Option, Some, IfSome, length, min}
use Rattle.std.specs.BTreeSet.{BTreeSet, contains}
use Rattle.std.specs.List.{AllByRecursion}
use Rattle.ferry_base.specs.Limits.{zero_id}
use Rattle.ferry_blob.specs.Blob.{content_id}
use Rattle.ferry_carry.specs.Copied.{stream_block}
use Rattle.ferry_disk.specs.Device.{Told, told_files}
use Rattle.ferry_item.specs.declared.item.ChunkRef.{ChunkRef}
use Rattle.ferry_piece.specs.Gather.{IsAmong, chunks_of}
use Rattle.ferry_piece.specs.Puts.{Addition, AreOf, Content, Kind, Stream, put_bytes, put_count}
use Rattle.ferry_log.specs.Live.{key_cmp}
use Rattle.ferry_log.specs.State.{LogState}
use Rattle.ferry_mac.specs.declared.keys.Keys.{Keys}
use Rattle.ferry_plan.specs.Plan.{PutsFresh, ids_of}
use Rattle.ferry_plan.specs.declared.pieces.Pieces.{Pieces}
use Rattle.ferry_plan.specs.declared.tally.Tally.{Tally}
use Rattle.ferry_rechunk.specs.Cut.{cut}
use Rattle.ferry_repo.specs.Archives.{HoldsJoined}
use Rattle.ferry_repo.specs.Objects.{IsMissing}
use Rattle.ferry_repo.specs.Opening.{RepoState}

-- ---- what is known and counted

-- A target lacks a chunk of this id, which isn't the manifest's.
abbrev pub Lacks : LogState → List ℕ → Type 0
Lacks log id = (id ≢ zero_id) × IsMissing log id

-- Each of these is put exactly where it would be, and the known ids are theirs: each that isn't the manifest's and isn't live is known.
pub record Knows (keys : Keys) (log : LogState) (known : BTreeSet (List ℕ)) (added : List Addition) : Type 0 where
  pub fresh : PutsFresh keys log [] added
  pub only : (id : List ℕ) → contains key_cmp known id ≡ true → IsAmong (ids_of keys added) id
  pub all : (id : List ℕ) → IsAmong (ids_of keys added) id → id ≢ zero_id → IsMissing log id → contains key_cmp known id ≡ true

-- These numbers are those of what is put of a kind of these, up to the greatest of their types.
pub record Counts (kind : Kind) (added : List Addition) (put bytes : ℕ) : Type 0 where
  pub put_is : put ≡ min (put_count kind added) (2 ^ 64 - 1)
  pub bytes_are : bytes ≡ min (put_bytes kind added) (2 ^ 128 - 1)

-- The target has a chunk of this id, or would have it by what is known; or the id is the manifest's.
abbrev pub IsHeld : LogState → BTreeSet (List ℕ) → List ℕ → Type 0
IsHeld log known id = (Lacks log id → ⊥) ⊎ (contains key_cmp known id ≡ true)

-- ---- pieces

-- Behind whatever was added, these pieces of a kind were taken.
pub record Takes (kind : Kind) (keys : Keys) (log : LogState) (known : BTreeSet (List ℕ)) (pieces : Pieces) (more : List Addition)
    (known_now : BTreeSet (List ℕ)) (pieces_now : Pieces) : Type 0 where
  pub of : AreOf kind more
  pub knows : (added : List Addition) → Knows keys log known added → Knows keys log known_now (added ++ more)
  pub counts : (added : List Addition) → Counts kind added pieces.put pieces.bytes → Counts kind (added ++ more) pieces_now.put pieces_now.bytes

-- ---- a tally

-- No content is under way, and pieces have the lengths of a plan.
pub record IsReady (tally : Tally) : Type 0 where
  pub least : 64 ≤ tally.block
  pub most : tally.block ≤ 8388608
  pub contents_block : tally.contents.cutter.block ≡ tally.block
  pub contents_piece : tally.contents.cutter.piece ≡ []
  pub contents_chunks : tally.contents.chunks.items ≡ []
  pub stream_block_is : tally.stream.cutter.block ≡ stream_block
  pub stream_room : length tally.stream.cutter.piece < tally.stream.cutter.block

-- The content of an item with these chunks is in the source, and each of the pieces into which it is cut is held; these are their chunks.
pub record HeldContent (told : Option Told) (source target : RepoState) (tally : Tally) (chunks copied : List ChunkRef) : Type 0 where
  pub content : List ℕ
  pub copied_are : copied ≡ chunks_of target.keys (cut tally.block content)
  pub few : length copied ≤ 4294967295
  pub holds : IfSome told (λ t. HoldsJoined (told_files t) source.log source.keys (Some chunks) (Some content))
  pub held : AllByRecursion (λ (piece : List ℕ). IsHeld target.log tally.known (content_id target.keys piece)) (cut tally.block content)

-- A tally knows these, and has counted them.
pub record Tallied (keys : Keys) (log : LogState) (tally : Tally) (added : List Addition) : Type 0 where
  pub knows : Knows keys log tally.known added
  pub contents : Counts Content added tally.contents.put tally.contents.bytes
  pub stream : Counts Stream added tally.stream.put tally.stream.bytes

-- Behind whatever was added, it has tallied these.
abbrev pub TalliesOn : Keys → LogState → Tally → List Addition → Tally → Type 0
TalliesOn keys log tally more tally_now = (added : List Addition) → Tallied keys log tally added → Tallied keys log tally_now (added ++ more)
