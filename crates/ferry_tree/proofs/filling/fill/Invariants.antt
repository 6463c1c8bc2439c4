use Rattle.std.proofs.Common.{◌≡◌, IfSome}
use Rattle.ferry_disk.specs.Device.{heard, told_files}
use Rattle.ferry_repo.specs.Opening.{repo_view, cached_in, FitsRepo}
use Rattle.ferry_tree.proofs.FillingLemmas.{FillsSoFar}
use Rattle.ferry_tree.proofs.filling.fill.Given as goal

-- the contents of the chunks so far were read, and written where they belong to a file
abbrev pub invariant-loop-place : goal.invariant-loop-place
invariant-loop-place g l = record {
  fills : FillsSoFar (g.S.Shelf.told l.fn.shelf) (repo_view l.fn.repo) l.chunks l.place l.takes (g.T.Tree.told l.fn.tree) (g.T.Tree.told l.tree);
  fits : IfSome (g.S.Shelf.told l.shelf) (λ t. FitsRepo (told_files t) (repo_view l.repo) (cached_in l.repo));
  repo : repo_view l.repo ≡ repo_view l.fn.repo;
  same : heard (g.S.Shelf.told l.shelf) ≡ heard (g.S.Shelf.told l.fn.shelf);
  faults : g.S.Shelf.faults l.shelf ≡ g.S.Shelf.faults l.fn.shelf;
  lost : g.T.Tree.faults l.tree ≡ g.T.Tree.faults l.fn.tree;
}
