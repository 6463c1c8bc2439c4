use Rattle.std.proofs.Common.{◌≡◌, IfSome, take}
use Rattle.ferry_disk.specs.Device.{heard, told_files}
use Rattle.ferry_repo.specs.Opening.{repo_view, cached_in, FitsRepo}
use Rattle.ferry_refs.specs.Refs.{count_in}
use Rattle.ferry_refs.specs.Steps.{CountsArchives, no_tally}
use Rattle.ferry_refs.proofs.counts.Counts.of.Given as goal

-- what the archives so far use is counted
abbrev pub invariant-loop-place : goal.invariant-loop-place
invariant-loop-place g l = record {
  counts : CountsArchives (g.S.Shelf.told l.fn.shelf) (repo_view l.fn.repo) (take l.place (repo_view l.fn.repo).manifest.archives)
      no_tally (count_in l.counts);
  fits : IfSome (g.S.Shelf.told l.shelf) (λ t. FitsRepo (told_files t) (repo_view l.repo) (cached_in l.repo));
  repo : repo_view l.repo ≡ repo_view l.fn.repo;
  same : heard (g.S.Shelf.told l.shelf) ≡ heard (g.S.Shelf.told l.fn.shelf);
  faults : g.S.Shelf.faults l.shelf ≡ g.S.Shelf.faults l.fn.shelf;
}
