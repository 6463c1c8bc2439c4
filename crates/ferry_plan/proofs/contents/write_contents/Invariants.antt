use Rattle.std.proofs.Common.{◌≡◌, ◌<◌, List, IfSome, length, take}
use Rattle.ferry_carry.specs.Copying.{WritesContents, writer_state}
use Rattle.ferry_piece.specs.Puts.{Addition, Content, contents_in}
use Rattle.ferry_disk.specs.Device.{heard, told_files}
use Rattle.ferry_plan.proofs.contents.write_contents.Given as goal
use Rattle.ferry_plan.specs.Tally.{Takes}
use Rattle.ferry_repo.specs.Opening.{FitsRepo, cached_in, repo_view}

-- the contents of the chunks so far were written
abbrev pub invariant-loop-place : goal.invariant-loop-place
invariant-loop-place g l = record {
  room : length l.pieces.cutter.piece < l.pieces.cutter.block;
  block : l.pieces.cutter.block ≡ l.fn.pieces.cutter.block;
  source_fits : IfSome (g.S.Shelf.told l.shelf) (λ t. FitsRepo (told_files t) (repo_view l.source) (cached_in l.source));
  repo : repo_view l.source ≡ repo_view l.fn.source;
  alike : heard (g.S.Shelf.told l.shelf) ≡ heard (g.S.Shelf.told l.fn.shelf);
  faults : g.S.Shelf.faults l.shelf ≡ g.S.Shelf.faults l.fn.shelf;
  written : (more : List Addition)
      × (Takes Content (repo_view l.fn.target).keys (repo_view l.fn.target).log l.fn.known l.fn.pieces more l.known l.pieces
      × WritesContents (g.S.Shelf.told l.fn.shelf) (repo_view l.fn.source) (repo_view l.fn.target).keys (take l.place l.chunks)
      (writer_state l.fn.pieces.cutter l.fn.pieces.chunks.items) (contents_in more) (writer_state l.pieces.cutter l.pieces.chunks.items));
}
