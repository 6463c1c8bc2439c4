use Rattle.std.proofs.Common.{◌≡◌, ◌≤◌, true, IfSome, length, take}
use Rattle.ferry_disk.specs.Device.{heard, told_files}
use Rattle.ferry_repo.specs.Opening.{repo_view, cached_in, FitsRepo}
use Rattle.ferry_compare.specs.Steps.{IsWithin, PassesOn, cursor_view}
use Rattle.ferry_compare.proofs.cursor.Cursor.pass.Given as goal

-- the bytes so far are passed
abbrev pub invariant-loop : goal.invariant-loop
invariant-loop g l = record {
  passes : PassesOn (g.T.Shelf.told l.fn.other) (repo_view l.fn.target) l.others (cursor_view l.fn.self) (take l.taken l.bytes) true (cursor_view l.self);
  taken : l.taken ≤ length l.bytes;
  within : IsWithin l.others (cursor_view l.self);
  fits : IfSome (g.T.Shelf.told l.other) (λ t. FitsRepo (told_files t) (repo_view l.target) (cached_in l.target));
  repo : repo_view l.target ≡ repo_view l.fn.target;
  same : heard (g.T.Shelf.told l.other) ≡ heard (g.T.Shelf.told l.fn.other);
  faults : g.T.Shelf.faults l.other ≡ g.T.Shelf.faults l.fn.other;
}
