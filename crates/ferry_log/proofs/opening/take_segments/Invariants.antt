use Rattle.std.proofs.Common.{◌≡◌, map, take}
use Rattle.ferry_disk.specs.Device.{heard}
use Rattle.ferry_disk.specs.Files.{Files}
use Rattle.ferry_log.specs.Opening.{HasTaken}
use Rattle.ferry_log.specs.Window.{Tells}
use Rattle.ferry_log.proofs.opening.take_segments.Given as goal

-- the segments so far are taken
abbrev pub invariant-loop-number : goal.invariant-loop-number
invariant-loop-number g l = record {
  segments : map (λ e. e.segment) l.extents.items ≡ take l.number-index l.numbers;
  taken : (files : Files) → Tells (g.S.Shelf.told l.fn.shelf) files → HasTaken files (take l.number-index l.numbers) l.live.entries l.extents.items;
  same : heard (g.S.Shelf.told l.shelf) ≡ heard (g.S.Shelf.told l.fn.shelf);
  faults : g.S.Shelf.faults l.shelf ≡ g.S.Shelf.faults l.fn.shelf;
}
