use Rattle.std.proofs.Common.{◌≡◌, List, IfSome}
use Rattle.ferry_piece.specs.Puts.{Addition}
use Rattle.ferry_disk.specs.Device.{heard, told_files}
use Rattle.ferry_plan.proofs.archive.take_items.Given as goal
use Rattle.ferry_plan.specs.Steps.{GoesOn}
use Rattle.ferry_plan.specs.Tally.{IsReady, TalliesOn}
use Rattle.ferry_repo.specs.Opening.{FitsRepo, cached_in, repo_view}
use Rattle.ferry_repo.specs.Walk.{FitsWalk, walk_view}

-- the items so far were taken
abbrev pub invariant-loop : goal.invariant-loop
invariant-loop g l = record {
  ready : IsReady l.tally;
  block : l.tally.block ≡ l.fn.tally.block;
  source_fits : IfSome (g.S.Shelf.told l.shelf) (λ t. FitsRepo (told_files t) (repo_view l.source) (cached_in l.source));
  walk_fits : IfSome (g.S.Shelf.told l.fn.shelf) (λ t.
      FitsWalk (told_files t) (repo_view l.fn.source).log (repo_view l.fn.source).keys (walk_view l.walk));
  repo : repo_view l.source ≡ repo_view l.fn.source;
  alike : heard (g.S.Shelf.told l.shelf) ≡ heard (g.S.Shelf.told l.fn.shelf);
  faults : g.S.Shelf.faults l.shelf ≡ g.S.Shelf.faults l.fn.shelf;
  taken : (more : List Addition)
      × (TalliesOn (repo_view l.fn.target).keys (repo_view l.fn.target).log l.fn.tally more l.tally × IfSome (g.S.Shelf.told l.fn.shelf) (λ t.
      GoesOn (told_files t) (repo_view l.fn.source) (repo_view l.fn.target).keys l.fn.tally.block (walk_view l.fn.walk) l.fn.tally.stream.cutter.piece
      (walk_view l.walk) more l.tally.stream.cutter.piece));
}
