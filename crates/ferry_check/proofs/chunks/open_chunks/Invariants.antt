use Rattle.std.proofs.Common.{◌≡◌, ◌≤◌, ◌-◌, IfSome, length, take}
use Rattle.std.specs.BTreeMap.{get}
use Rattle.ferry_disk.specs.Device.{heard, told_files}
use Rattle.ferry_log.specs.Live.{key_cmp}
use Rattle.ferry_repo.specs.Opening.{repo_view, cached_in, FitsRepo}
use Rattle.ferry_check.specs.Steps.{OpensSoFar}
use Rattle.ferry_check.proofs.chunks.open_chunks.Given as goal

-- the chunks so far are opened
abbrev pub invariant-loop-place : goal.invariant-loop-place
invariant-loop-place g l = record {
  opens : OpensSoFar (g.S.Shelf.told l.fn.shelf) (repo_view l.fn.repo) (take l.place l.ids) (get key_cmp l.chunks);
  within : l.place ≤ length l.ids;
  fits : IfSome (g.S.Shelf.told l.shelf) (λ t. FitsRepo (told_files t) (repo_view l.repo) (cached_in l.repo));
  same : heard (g.S.Shelf.told l.shelf) ≡ heard (g.S.Shelf.told l.fn.shelf);
  faults : g.S.Shelf.faults l.shelf ≡ g.S.Shelf.faults l.fn.shelf;
}

abbrev pub decreases-loop-place : goal.decreases-loop-place
decreases-loop-place g l = length l.ids - l.place
