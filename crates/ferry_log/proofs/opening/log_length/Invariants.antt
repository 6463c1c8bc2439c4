use Rattle.std.proofs.Common.{◌≡◌, ◌≤◌, length, drop}
use Rattle.std.specs.List.{AllByRecursion}
use Rattle.ferry_disk.specs.Device.{heard}
use Rattle.ferry_disk.specs.Files.{Files}
use Rattle.ferry_log.specs.Log.{IsOpen}
use Rattle.ferry_log.specs.Window.{Tells}
use Rattle.ferry_log.proofs.opening.log_length.Given as goal

-- no segment so far, from the last one down, is committed
abbrev pub invariant-loop-count : goal.invariant-loop-count
invariant-loop-count g l = record {
  within : l.count ≤ length l.numbers;
  open_above : (files : Files) → Tells (g.S.Shelf.told l.fn.shelf) files → AllByRecursion (IsOpen files) (drop l.count l.numbers);
  same : heard (g.S.Shelf.told l.shelf) ≡ heard (g.S.Shelf.told l.fn.shelf);
  faults : g.S.Shelf.faults l.shelf ≡ g.S.Shelf.faults l.fn.shelf;
}

abbrev pub decreases-loop-count : goal.decreases-loop-count
decreases-loop-count g l = l.count
