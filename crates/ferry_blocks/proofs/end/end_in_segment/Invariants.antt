use Rattle.std.proofs.Common.{◌≡◌, ◌-◌, ◌≤◌, length}
use Rattle.ferry_disk.specs.Device.{heard}
use Rattle.ferry_disk.specs.Files.{Files, segment_bytes}
use Rattle.ferry_log.specs.Window.{Tells}
use Rattle.ferry_blocks.specs.Passes.{Passes}
use Rattle.ferry_blocks.proofs.end.end_in_segment.Given as goal

-- the entries so far are gone over
abbrev pub invariant-loop-at : goal.invariant-loop-at
invariant-loop-at g l = record {
  least : 82 ≤ l.most;
  greatest : l.most ≤ 65536;
  sized : (files : Files) → Tells (g.S.Shelf.told l.fn.shelf) files → l.size ≡ length (segment_bytes files l.segment);
  passed : (files : Files) → Tells (g.S.Shelf.told l.fn.shelf) files → Passes (segment_bytes files l.segment) 8 l.at l.end;
  same : heard (g.S.Shelf.told l.shelf) ≡ heard (g.S.Shelf.told l.fn.shelf);
  faults : g.S.Shelf.faults l.shelf ≡ g.S.Shelf.faults l.fn.shelf;
}

abbrev pub decreases-loop-at : goal.decreases-loop-at
decreases-loop-at g l = l.size - l.at
