use Rattle.std.proofs.Common.{◌≡◌, ◌+◌, ◌-◌, [], length, IfSome}
use Rattle.ferry_disk.specs.Device.{told_files, heard}
use Rattle.ferry_repo.specs.Opening.{repo_view, cached_in, FitsRepo}
use Rattle.ferry_repo.specs.Walk.{LeadsOn, FitsWalk, walk_view, open_steps}
use Rattle.ferry_repo.proofs.walk.Walk.step.Given as goal

-- what is to come from here comes from where the walk began, and what was read ahead still fits
abbrev pub invariant-loop-self : goal.invariant-loop-self
invariant-loop-self g l = record {
  leads : IfSome (g.S.Shelf.told l.fn.shelf) (λ t.
      LeadsOn (told_files t) (repo_view l.fn.repo).log (repo_view l.fn.repo).keys (walk_view l.fn.self) [] (walk_view l.self));
  fits : IfSome (g.S.Shelf.told l.fn.shelf) (λ t.
      FitsWalk (told_files t) (repo_view l.fn.repo).log (repo_view l.fn.repo).keys (walk_view l.self));
  archive : (l.self.id ≡ l.fn.self.id) × (l.self.ids ≡ l.fn.self.ids);
  repo_fits : IfSome (g.S.Shelf.told l.shelf) (λ t. FitsRepo (told_files t) (repo_view l.repo) (cached_in l.repo));
  repo : repo_view l.repo ≡ repo_view l.fn.repo;
  same : heard (g.S.Shelf.told l.shelf) ≡ heard (g.S.Shelf.told l.fn.shelf);
  faults : g.S.Shelf.faults l.shelf ≡ g.S.Shelf.faults l.fn.shelf;
}

abbrev pub decreases-loop-self : goal.decreases-loop-self
decreases-loop-self g l = (length l.self.ids - l.self.read) + open_steps l.self.ending
