-- The contents of chunks that were taken, one after another.
use Rattle.std.specs.Prelude.{List, ℕ, Option}
use Rattle.std.specs.BTreeSet.{BTreeSet}
use Rattle.ferry_carry.specs.Copying.{WritesContents, writer_state}
use Rattle.ferry_disk.specs.Device.{Told}
use Rattle.ferry_item.specs.declared.item.ChunkRef.{ChunkRef}
use Rattle.ferry_piece.specs.Puts.{Addition, Content, contents_in}
use Rattle.ferry_plan.specs.Tally.{Takes}
use Rattle.ferry_plan.specs.declared.pieces.Pieces.{Pieces}
use Rattle.ferry_repo.specs.Opening.{RepoState}

-- Of the contents of these chunks of the source these pieces became whole, and were taken.
abbrev pub TakesChunks : RepoState → Option Told → RepoState → List ChunkRef → BTreeSet (List ℕ) → Pieces → BTreeSet (List ℕ) → Pieces → Type 0
TakesChunks target told source chunks known pieces known_now pieces_now = (more : List Addition) × (Takes Content target.keys target.log known pieces more
    known_now pieces_now × WritesContents told source target.keys chunks (writer_state pieces.cutter pieces.chunks.items) (contents_in more) (writer_state
    pieces_now.cutter pieces_now.chunks.items))
