use Rattle.std.proofs.Common.{◌≡◌, [], ℕ, List, None, IfSome, take}
use Rattle.ferry_piece.specs.Gather.{IsAmong}
use Rattle.ferry_piece.specs.Puts.{Addition}
use Rattle.ferry_compare.specs.Matched.{AreMatched}
use Rattle.ferry_disk.specs.Device.{heard, told_files}
use Rattle.ferry_plan.proofs.planning.plan_names.Given as goal
use Rattle.ferry_plan.specs.Plan.{PlansAll, WhereBoth}
use Rattle.ferry_plan.specs.Tally.{IsReady, TalliesOn}
use Rattle.ferry_repo.specs.Archives.{archive_named}
use Rattle.ferry_repo.specs.Opening.{FitsRepo, cached_in, repo_view}

-- the names so far are planned
abbrev pub invariant-loop-place : goal.invariant-loop-place
invariant-loop-place g l = record {
  ready : IsReady l.tally;
  begun : l.tally.stream.cutter.piece ≡ [];
  block : l.tally.block ≡ l.fn.tally.block;
  source_fits : IfSome (g.S.Shelf.told l.shelf) (λ t. FitsRepo (told_files t) (repo_view l.source) (cached_in l.source));
  target_fits : IfSome (g.T.Shelf.told l.other) (λ t. FitsRepo (told_files t) (repo_view l.target) (cached_in l.target));
  source_is : repo_view l.source ≡ repo_view l.fn.source;
  target_is : repo_view l.target ≡ repo_view l.fn.target;
  source_alike : heard (g.S.Shelf.told l.shelf) ≡ heard (g.S.Shelf.told l.fn.shelf);
  target_alike : heard (g.T.Shelf.told l.other) ≡ heard (g.T.Shelf.told l.fn.other);
  source_faults : g.S.Shelf.faults l.shelf ≡ g.S.Shelf.faults l.fn.shelf;
  target_faults : g.T.Shelf.faults l.other ≡ g.T.Shelf.faults l.fn.other;
  matched : AreMatched (g.S.Shelf.told l.shelf) (repo_view l.source) (g.T.Shelf.told l.other) (repo_view l.target) l.matches;
  planned : (added : List Addition)
      × (TalliesOn (repo_view l.fn.target).keys (repo_view l.fn.target).log l.fn.tally added l.tally
      × WhereBoth (g.S.Shelf.told l.fn.shelf) (g.T.Shelf.told l.fn.other) (λ there files.
      PlansAll there (repo_view l.fn.source) l.fn.tally.block files (repo_view l.fn.target) (take l.place l.names) added));
  unread : ((name : List ℕ) → IsAmong l.names name → archive_named name (repo_view l.fn.target).manifest.archives ≡ None) → l.other ≡ l.fn.other;
}
