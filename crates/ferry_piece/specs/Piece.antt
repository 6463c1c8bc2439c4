-- A writer of pieces: how far it is with what it was given, and whether a store has room for a further one.
use Rattle.std.specs.Prelude.{◌≡◌, ◌<◌, ◌+◌, ◌-◌, ◌^◌, ℕ, Bool, true, Result, Ok, Err, List, All, ◌++◌, length, min}
use Rattle.std.specs.List.{concat}
use Rattle.ferry_piece.specs.Gather.{chunks_of}
use Rattle.ferry_item.specs.declared.item.ChunkRef.{ChunkRef}
use Rattle.ferry_mac.specs.declared.keys.Keys.{Keys}
use Rattle.ferry_rechunk.specs.Cutting.{Cutting, IsFed}
use Rattle.ferry_repo.specs.Opening.{repo_view}
use Rattle.ferry_store.specs.Adding.{id_under}
use Rattle.ferry_store.specs.Content.{IsNew}
use Rattle.ferry_store.specs.declared.content.Added.{Added}
use Rattle.ferry_store.specs.declared.store.Store.{Store}
use Rattle.ferry_piece.specs.Puts.{Addition, IsCheckpoint, Kind, put_bytes, put_count, room_for}
use Rattle.ferry_piece.specs.declared.fault.CarryFault.{CarryFault}
use Rattle.ferry_piece.specs.declared.piece.PieceWriter.{PieceWriter}

-- A writer took bytes: these pieces became whole, and their chunks are behind those that it had.
pub record WritesOn (keys : Keys) (cutter : Cutting) (chunks : List ChunkRef) (bytes : List ℕ) (more : List (List ℕ)) (cutter_now : Cutting)
    (chunks_now : List ChunkRef) : Type 0 where
  pub fed : (fed : List ℕ) (taken : List (List ℕ)) → IsFed cutter.block fed taken cutter.piece
      → IsFed cutter.block (fed ++ bytes) (taken ++ more) cutter_now.piece
  pub chunks_are : chunks_now ≡ chunks ++ chunks_of keys more
  pub room : length cutter_now.piece < cutter_now.block
  pub block : cutter_now.block ≡ cutter.block

-- These are first pieces of a content, each of a whole block.
pub record AreFullOf (block : ℕ) (content : List ℕ) (full : List (List ℕ)) : Type 0 where
  pub rest : List ℕ
  pub joined : concat full ++ rest ≡ content
  pub whole : All (λ one. length one ≡ block) full

-- These became whole of bytes, as far as they were taken, and perhaps not all of them were.
abbrev pub BeginsOn : Cutting → List ℕ → List (List ℕ) → Type 0
BeginsOn cutter bytes full = AreFullOf cutter.block (cutter.piece ++ bytes) full

-- A writer whose counts are in their range has counted what was put of these, up to the greatest numbers.
pub record CountsOn (kind : Kind) (writer : PieceWriter) (more : List Addition) (writer_now : PieceWriter) : Type 0 where
  pub put : writer.put < 2 ^ 64 → writer_now.put ≡ min (writer.put + put_count kind more) (2 ^ 64 - 1)
  pub bytes : writer.bytes < 2 ^ 128 → writer_now.bytes ≡ min (writer.bytes + put_bytes kind more) (2 ^ 128 - 1)

-- Whether a content was put is what the answer says of it; one that was refused counts as put.
abbrev pub IsPutBy : Bool → Result Added CarryFault → Type 0
IsPutBy put (Ok added) = put ≡ added.new
IsPutBy put (Err fault) = put ≡ true

-- Where a content of a kind would be put, fewer are pending than there is room for.
pub record HasRoom (most : ℕ) (kind : Kind) (content : List ℕ) (store : Store) : Type 0 where
  pub checkpoint : IsCheckpoint most
  pub room : IsNew (repo_view store.repo) (id_under store content) → store.pending < room_for most kind
