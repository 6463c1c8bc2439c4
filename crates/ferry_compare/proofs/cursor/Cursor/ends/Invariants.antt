use Rattle.std.proofs.Common.{◌≡◌, [], true, IfSome}
use Rattle.ferry_disk.specs.Device.{heard, told_files}
use Rattle.ferry_repo.specs.Opening.{repo_view, cached_in, FitsRepo}
use Rattle.ferry_compare.specs.Steps.{PassesOn, cursor_view}
use Rattle.ferry_compare.proofs.CursorLemmas.{cursor_at}
use Rattle.ferry_compare.proofs.cursor.Cursor.ends.Given as goal

-- the chunks so far behind the cursor have no bytes
abbrev pub invariant-loop-place : goal.invariant-loop-place
invariant-loop-place g l = record {
  passes : PassesOn (g.T.Shelf.told l.fn.other) (repo_view l.fn.target) l.others (cursor_view l.self) [] true (cursor_at l.place [] 0);
  fits : IfSome (g.T.Shelf.told l.other) (λ t. FitsRepo (told_files t) (repo_view l.target) (cached_in l.target));
  repo : repo_view l.target ≡ repo_view l.fn.target;
  same : heard (g.T.Shelf.told l.other) ≡ heard (g.T.Shelf.told l.fn.other);
  faults : g.T.Shelf.faults l.other ≡ g.T.Shelf.faults l.fn.other;
}
