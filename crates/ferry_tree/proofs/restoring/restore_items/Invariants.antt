use Rattle.std.proofs.Common.{◌≡◌, IfSome}
use Rattle.ferry_disk.specs.Device.{heard, told_files}
use Rattle.ferry_repo.specs.Opening.{repo_view, cached_in, FitsRepo}
use Rattle.ferry_repo.specs.Walk.{walk_view, FitsWalk}
use Rattle.ferry_tree.proofs.RestoringLemmas.{Restoring}
use Rattle.ferry_tree.proofs.restoring.restore_items.Given as goal

-- the items so far are restored
abbrev pub invariant-loop : goal.invariant-loop
invariant-loop g l = record {
  restoring : Restoring (g.S.Shelf.told l.fn.shelf) (repo_view l.fn.repo) (walk_view l.fn.walk) (walk_view l.walk) (g.T.Tree.told l.tree) l.known l.counts;
  walk_fits : IfSome (g.S.Shelf.told l.shelf) (λ t. FitsWalk (told_files t) (repo_view l.repo).log (repo_view l.repo).keys (walk_view l.walk));
  fits : IfSome (g.S.Shelf.told l.shelf) (λ t. FitsRepo (told_files t) (repo_view l.repo) (cached_in l.repo));
  repo : repo_view l.repo ≡ repo_view l.fn.repo;
  same : heard (g.S.Shelf.told l.shelf) ≡ heard (g.S.Shelf.told l.fn.shelf);
  faults : g.S.Shelf.faults l.shelf ≡ g.S.Shelf.faults l.fn.shelf;
  lost : g.T.Tree.faults l.tree ≡ g.T.Tree.faults l.fn.tree;
}
