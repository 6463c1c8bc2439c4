use Rattle.std.proofs.Common.{◌≡◌}
use Rattle.ferry_disk.specs.Device.{heard}
use Rattle.ferry_disk.specs.Files.{Files}
use Rattle.ferry_log.specs.Window.{Tells}
use Rattle.ferry_blocks.specs.Blocks.{IsEndOf}
use Rattle.ferry_blocks.specs.Passes.{IsCountedBelow}
use Rattle.ferry_blocks.proofs.end.end_in_segments.Given as goal

-- the segments so far are gone over
abbrev pub invariant-loop-number : goal.invariant-loop-number
invariant-loop-number g l = record {
  ended : (files : Files) → Tells (g.S.Shelf.told l.fn.shelf) files → IsEndOf (IsCountedBelow files l.numbers l.number-index) l.end;
  same : heard (g.S.Shelf.told l.shelf) ≡ heard (g.S.Shelf.told l.fn.shelf);
  faults : g.S.Shelf.faults l.shelf ≡ g.S.Shelf.faults l.fn.shelf;
}
