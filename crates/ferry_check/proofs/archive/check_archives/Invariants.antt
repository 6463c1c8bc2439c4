use Rattle.std.proofs.Common.{◌≡◌, IfSome, ◌≤◌, take}
use Rattle.std.specs.BTreeMap.{get}
use Rattle.ferry_disk.specs.Device.{heard, told_files}
use Rattle.ferry_log.specs.Live.{key_cmp}
use Rattle.ferry_repo.specs.Opening.{repo_view, cached_in, FitsRepo}
use Rattle.ferry_check.specs.Steps.{ChecksArchives}
use Rattle.ferry_check.proofs.archive.check_archives.Given as goal

-- the archives so far are whole
abbrev pub invariant-loop-place : goal.invariant-loop-place
invariant-loop-place g l = record {
  checks : ChecksArchives (g.S.Shelf.told l.fn.shelf) (repo_view l.fn.repo) (take l.place (repo_view l.fn.repo).manifest.archives)
      (get key_cmp l.fn.chunks) (get key_cmp l.chunks) l.untagged;
  small : l.untagged ≤ l.place;
  fits : IfSome (g.S.Shelf.told l.shelf) (λ t. FitsRepo (told_files t) (repo_view l.repo) (cached_in l.repo));
  repo : repo_view l.repo ≡ repo_view l.fn.repo;
  same : heard (g.S.Shelf.told l.shelf) ≡ heard (g.S.Shelf.told l.fn.shelf);
  faults : g.S.Shelf.faults l.shelf ≡ g.S.Shelf.faults l.fn.shelf;
}
