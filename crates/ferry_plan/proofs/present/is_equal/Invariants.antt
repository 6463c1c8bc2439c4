use Rattle.std.proofs.Common.{◌≡◌, IfSome}
use Rattle.ferry_compare.specs.Compare.{FitsTold, comparison_view, seen}
use Rattle.ferry_disk.specs.Device.{heard, told_files}
use Rattle.ferry_plan.proofs.present.is_equal.Given as goal
use Rattle.ferry_repo.specs.Opening.{FitsRepo, cached_in, repo_view}

-- both archives were compared so far
abbrev pub invariant-loop : goal.invariant-loop
invariant-loop g l = record {
  source_fits : IfSome (g.S.Shelf.told l.shelf) (λ t. FitsRepo (told_files t) (repo_view l.source) (cached_in l.source));
  target_fits : IfSome (g.T.Shelf.told l.other) (λ t. FitsRepo (told_files t) (repo_view l.target) (cached_in l.target));
  fits : FitsTold (g.S.Shelf.told l.shelf) (repo_view l.source) (g.T.Shelf.told l.other) (repo_view l.target)
      (seen (g.T.Shelf.told l.other) (repo_view l.target)) (comparison_view l.comparison);
  name : (comparison_view l.comparison).name ≡ (comparison_view l.fn.comparison).name;
  source_is : repo_view l.source ≡ repo_view l.fn.source;
  target_is : repo_view l.target ≡ repo_view l.fn.target;
  source_alike : heard (g.S.Shelf.told l.shelf) ≡ heard (g.S.Shelf.told l.fn.shelf);
  target_alike : heard (g.T.Shelf.told l.other) ≡ heard (g.T.Shelf.told l.fn.other);
  source_faults : g.S.Shelf.faults l.shelf ≡ g.S.Shelf.faults l.fn.shelf;
  target_faults : g.T.Shelf.faults l.other ≡ g.T.Shelf.faults l.fn.other;
}
