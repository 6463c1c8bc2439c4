use Rattle.std.proofs.Common.{◌≡◌, IfSome, take}
use Rattle.std.specs.List.{AllByRecursion}
use Rattle.ferry_disk.specs.Device.{heard, told_files}
use Rattle.ferry_manifest.specs.Record.Text.{archive_view}
use Rattle.ferry_manifest.specs.Record.Writing.{IsPackableArchive}
use Rattle.ferry_repo.specs.Opening.{repo_view, cached_in, FitsRepo}
use Rattle.ferry_refs.specs.TagSteps.{IsNamedIn, olds_view}
use Rattle.ferry_refs.specs.Tagging.{AreOld}
use Rattle.ferry_refs.proofs.untagged.untagged_archives.Given as goal

-- of the archives so far those are noted whose record has no tag
abbrev pub invariant-loop-place : goal.invariant-loop-place
invariant-loop-place g l = record {
  old : IfSome (g.S.Shelf.told l.fn.shelf) (λ t. AreOld (told_files t) (repo_view l.fn.repo) (take l.place (repo_view l.fn.repo).manifest.archives)
      (olds_view l.untagged.items));
  named : AllByRecursion (λ u. IsNamedIn (repo_view l.fn.repo).manifest u.named) l.untagged.items;
  packable : AllByRecursion (λ u. IsPackableArchive (archive_view u.archive)) l.untagged.items;
  fits : IfSome (g.S.Shelf.told l.shelf) (λ t. FitsRepo (told_files t) (repo_view l.repo) (cached_in l.repo));
  repo : repo_view l.repo ≡ repo_view l.fn.repo;
  same : heard (g.S.Shelf.told l.shelf) ≡ heard (g.S.Shelf.told l.fn.shelf);
  faults : g.S.Shelf.faults l.shelf ≡ g.S.Shelf.faults l.fn.shelf;
}
