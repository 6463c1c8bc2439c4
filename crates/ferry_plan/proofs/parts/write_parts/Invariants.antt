use Rattle.std.proofs.Common.{◌≡◌, ◌≤◌, ◌<◌, IfSome, length, take}
use Rattle.ferry_disk.specs.Device.{heard, told_files}
use Rattle.ferry_plan.proofs.parts.write_parts.Given as goal
use Rattle.ferry_plan.specs.Parts.{TakesChunks}
use Rattle.ferry_repo.specs.Opening.{FitsRepo, cached_in, repo_view}

-- the contents of the chunks so far were written
abbrev pub invariant-loop-number : goal.invariant-loop-number
invariant-loop-number g l = record {
  within : l.done ≤ length l.chunks;
  room : length l.pieces.cutter.piece < l.pieces.cutter.block;
  block : l.pieces.cutter.block ≡ l.fn.pieces.cutter.block;
  source_fits : IfSome (g.S.Shelf.told l.shelf) (λ t. FitsRepo (told_files t) (repo_view l.source) (cached_in l.source));
  repo : repo_view l.source ≡ repo_view l.fn.source;
  alike : heard (g.S.Shelf.told l.shelf) ≡ heard (g.S.Shelf.told l.fn.shelf);
  faults : g.S.Shelf.faults l.shelf ≡ g.S.Shelf.faults l.fn.shelf;
  written : TakesChunks (repo_view l.fn.target) (g.S.Shelf.told l.fn.shelf) (repo_view l.fn.source) (take l.done l.chunks) l.fn.known l.fn.pieces l.known
      l.pieces;
}
