-- A content that was cut into pieces for a target: what its note says.
use Rattle.std.specs.Prelude.{◌≡◌, ◌+◌, ℕ, List, Some, length, map}
use Rattle.ferry_disk.specs.Files.{Files}
use Rattle.ferry_item.specs.declared.item.ChunkRef.{ChunkRef}
use Rattle.ferry_log.specs.State.{LogState}
use Rattle.ferry_mac.specs.Hmac.{hmac256}
use Rattle.ferry_mac.specs.declared.keys.Keys.{Keys}
use Rattle.ferry_rechunk.specs.Cut.{cut}
use Rattle.ferry_repo.specs.Archives.{HoldsJoined}
use Rattle.ferry_repo.specs.declared.notes.Note.{Note}

-- the chunk of a piece whose id this key makes
abbrev pub piece_under : List ℕ → List ℕ → ChunkRef
piece_under key piece = record { id = hmac256 key piece; size = length piece; csize = 43 + length piece }

-- The note's pieces are those into which a content is cut.
abbrev pub IsCut : Note → Type 0
IsCut note = (content : List ℕ) × (note.pieces ≡ map (piece_under note.key) (cut note.block content))

-- The content of the note's chunks is there, and the pieces are those into which it is cut.
abbrev pub IsNoted : Files → LogState → Keys → Note → Type 0
IsNoted files log keys note = (content : List ℕ) × ((note.pieces ≡ map (piece_under note.key) (cut note.block content))
    × HoldsJoined files log keys (Some note.chunks) (Some content))
