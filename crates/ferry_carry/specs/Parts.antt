-- The content of an item, written in parts: chunks of the source that are read, and pieces that the target has, of chunks that aren't.
use Rattle.std.specs.Prelude.{◌≡◌, ◌≤◌, ◌-◌, ℕ, List, length, take, drop, Option, Some, IfSome, Result, IfErr, OnOk}
use Rattle.ferry_disk.specs.Device.{Told, told_files}
use Rattle.ferry_item.specs.declared.item.ChunkRef.{ChunkRef}
use Rattle.ferry_piece.specs.Adding.{AddsOn}
use Rattle.ferry_piece.specs.Piece.{BeginsOn, CountsOn, WritesOn}
use Rattle.ferry_piece.specs.Puts.{Addition, AreOf, Content, contents_in}
use Rattle.ferry_piece.specs.declared.fault.CarryFault.{CarryFault}
use Rattle.ferry_piece.specs.declared.piece.PieceWriter.{PieceWriter}
use Rattle.ferry_repo.specs.Archives.{HoldsContent, HoldsJoined}
use Rattle.ferry_repo.specs.Opening.{RepoState, repo_view}
use Rattle.ferry_repo.specs.Shared.{HasPieces, total_size}
use Rattle.ferry_repo.specs.declared.shared.SharedPieces.{SharedPieces}
use Rattle.ferry_carry.specs.Copying.{BeginsContents, WritesContents, writer_state}
use Rattle.ferry_carry.specs.Filling.{FillsChunks, WhereSource}
use Rattle.ferry_carry.specs.States.{TargetState}

-- Bytes were written into pieces, as far as it came.
abbrev pub WritesBytes : {T : Type 0} → ℕ → TargetState → TargetState → List ℕ → PieceWriter → PieceWriter → Result T CarryFault → Type 0
WritesBytes most target target_now bytes writer writer_now result = (more : List Addition) × (AddsOn most target.store more target_now.store target.told
    target_now.told target.faults target_now.faults result × (AreOf Content more × (BeginsOn writer.cutter bytes (contents_in more)
    × OnOk result (WritesOn (repo_view target.store.repo).keys writer.cutter writer.chunks.items bytes (contents_in more) writer_now.cutter
    writer_now.chunks.items × CountsOn Content writer more writer_now))))

-- The contents of these chunks of the source were written so, one after another. Where the source refuses one, all in front of it were.
abbrev pub WritesChunks : {T : Type 0} → ℕ → Option Told → RepoState → TargetState → TargetState → List ChunkRef → PieceWriter → PieceWriter
    → Result T CarryFault → Type 0
WritesChunks most told source target target_now chunks writer writer_now result = (more : List Addition) × (AddsOn most target.store more target_now.store
    target.told target_now.told target.faults target_now.faults result × (AreOf Content more × (BeginsContents told source chunks writer.cutter (contents_in
    more) × ((IfErr result (λ fault. WhereSource told fault (λ there refusal. FillsChunks there source chunks writer.cutter refusal (contents_in more))))
    × OnOk result (WritesContents told source (repo_view target.store.repo).keys chunks (writer_state writer.cutter writer.chunks.items) (contents_in more)
    (writer_state writer_now.cutter writer_now.chunks.items) × CountsOn Content writer more writer_now)))))

-- The contents of these chunks are there, and the pieces stand in them.
pub record HasShared (told : Option Told) (source : RepoState) (key : List ℕ) (block : ℕ) (chunks : List ChunkRef) (shared : SharedPieces) : Type 0 where
  pub some : 1 ≤ length chunks
  pub front : shared.skip ≤ total_size (take 1 chunks)
  pub behind : shared.left ≤ total_size (drop (length chunks - 1) chunks)
  pub content : List ℕ
  pub has : HasPieces key block shared.skip shared.left shared.pieces content
  pub holds : IfSome told (λ t. HoldsJoined (told_files t) source.log source.keys (Some chunks) (Some content))

-- These are so many last bytes of the content of a chunk, where it has one.
abbrev pub StandsBehind : Option Told → RepoState → ChunkRef → ℕ → List ℕ → Type 0
StandsBehind told source chunk left bytes = IfSome told (λ t. (content : List ℕ) → HoldsContent (told_files t) source.log source.keys chunk content
    → bytes ≡ drop (length content - left) content)
