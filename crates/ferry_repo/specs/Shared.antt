-- Pieces of a content that was cut which another content has too.
use Rattle.std.specs.Prelude.{◌≡◌, ◌≤◌, ◌+◌, ◌-◌, ◌*◌, ◌++◌, ℕ, List, All, length, map, sum_by, take, drop, Option, Some, IfSome}
use Rattle.std.specs.List.{AllByRecursion, concat}
use Rattle.ferry_disk.specs.Device.{Told, told_files}
use Rattle.ferry_item.specs.declared.item.ChunkRef.{ChunkRef}
use Rattle.ferry_repo.specs.Archives.{HoldsJoined}
use Rattle.ferry_repo.specs.Noted.{piece_under}
use Rattle.ferry_repo.specs.Opening.{RepoState}
use Rattle.ferry_repo.specs.declared.notes.Note.{Note}
use Rattle.ferry_repo.specs.declared.shared.Cursor.{Cursor}
use Rattle.ferry_repo.specs.declared.shared.SharedPieces.{SharedPieces}

-- the sum of the sizes that chunks state
abbrev pub total_size : List ChunkRef → ℕ
total_size chunks = sum_by (λ (chunk : ChunkRef). chunk.size) chunks

-- the chunks from a place to another
abbrev pub chunks_from : List ChunkRef → ℕ → ℕ → List ChunkRef
chunks_from chunks place end = take (end - place) (drop place chunks)

-- The next chunk of the content that was cut begins at this byte.
abbrev pub IsAt : List ChunkRef → Cursor → Type 0
IsAt chunks cursor = cursor.start ≡ total_size (take cursor.at chunks)

-- The content that was cut has these chunks of the other, from a place of its own on. There the pieces stand, each whole, behind so many bytes of the first
-- chunk, and so many of the last one follow.
pub record IsShared (note : Note) (chunks : List ChunkRef) (shared : SharedPieces) : Type 0 where
  pub at : ℕ
  pub first : ℕ
  pub least : 1 ≤ note.block
  pub many : 1 ≤ length shared.pieces
  pub some : 1 + shared.place ≤ shared.end
  pub within : shared.end ≤ length chunks
  pub same : chunks_from chunks shared.place shared.end ≡ take (shared.end - shared.place) (drop at note.chunks)
  pub pieces : shared.pieces ≡ take (length shared.pieces) (drop first note.pieces)
  pub whole : AllByRecursion (λ piece. piece.size ≡ note.block) shared.pieces
  pub begins : total_size (take at note.chunks) + shared.skip ≡ first * note.block
  pub covers : shared.skip + length shared.pieces * note.block + shared.left ≡ total_size (chunks_from chunks shared.place shared.end)
  pub front : shared.skip ≤ total_size (take 1 (chunks_from chunks shared.place shared.end))
  pub behind : shared.left ≤ total_size (drop (shared.end - shared.place - 1) (chunks_from chunks shared.place shared.end))

-- The contents of these chunks, one behind another, are so many bytes, then the pieces, each of a whole block, and then so many bytes.
pub record HasPieces (key : List ℕ) (block : ℕ) (skip left : ℕ) (pieces : List ChunkRef) (content : List ℕ) : Type 0 where
  pub front : List ℕ
  pub wholes : List (List ℕ)
  pub behind : List ℕ
  pub split : content ≡ front ++ (concat wholes ++ behind)
  pub front_is : length front ≡ skip
  pub behind_is : length behind ≡ left
  pub full : All (λ one. length one ≡ block) wholes
  pub pieces_are : pieces ≡ map (piece_under key) wholes

-- A content with these chunks has some of them, whose contents are there, and the pieces of a target stand in those.
pub record SharesPieces (told : Option Told) (repo : RepoState) (key : List ℕ) (block : ℕ) (chunks : List ChunkRef) (shared : SharedPieces) : Type 0 where
  pub some : 1 + shared.place ≤ shared.end
  pub within : shared.end ≤ length chunks
  pub front : shared.skip ≤ total_size (take 1 (chunks_from chunks shared.place shared.end))
  pub behind : shared.left ≤ total_size (drop (shared.end - shared.place - 1) (chunks_from chunks shared.place shared.end))
  pub content : List ℕ
  pub has : HasPieces key block shared.skip shared.left shared.pieces content
  pub holds : IfSome told (λ t. HoldsJoined (told_files t) repo.log repo.keys (Some (chunks_from chunks shared.place shared.end)) (Some content))
