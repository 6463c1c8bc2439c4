use Rattle.std.proofs.Common.{◌≡◌, IfSome}
use Rattle.ferry_disk.specs.Device.{heard, told_files}
use Rattle.ferry_repo.specs.Opening.{repo_view, cached_in, FitsRepo}
use Rattle.ferry_repo.specs.Walk.{walk_view}
use Rattle.ferry_refs.specs.Refs.{count_in}
use Rattle.ferry_refs.specs.Steps.{GoesOn}
use Rattle.ferry_refs.proofs.archive.count_items.Given as goal

-- the chunks of the items so far are counted
abbrev pub invariant-loop : goal.invariant-loop
invariant-loop g l = record {
  goes : GoesOn (g.S.Shelf.told l.fn.shelf) (repo_view l.fn.repo) (walk_view l.fn.walk) (walk_view l.walk) (count_in l.fn.counts) (count_in l.counts);
  fits : IfSome (g.S.Shelf.told l.shelf) (λ t. FitsRepo (told_files t) (repo_view l.repo) (cached_in l.repo));
  repo : repo_view l.repo ≡ repo_view l.fn.repo;
  same : heard (g.S.Shelf.told l.shelf) ≡ heard (g.S.Shelf.told l.fn.shelf);
  faults : g.S.Shelf.faults l.shelf ≡ g.S.Shelf.faults l.fn.shelf;
}
