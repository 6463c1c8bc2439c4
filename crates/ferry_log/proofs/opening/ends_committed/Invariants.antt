use Rattle.std.proofs.Common.{◌≡◌, ◌≤◌, ◌-◌}
use Rattle.ferry_segment.specs.Segment.{HasMagic}
use Rattle.ferry_segment.proofs.SegmentLemmas.{Scanned}
use Rattle.ferry_disk.specs.Device.{heard}
use Rattle.ferry_disk.specs.Files.{Files, segment_bytes}
use Rattle.ferry_log.specs.Window.{Tells, IsWindowOf, OnSame}
use Rattle.ferry_log.proofs.opening.ends_committed.Given as goal

-- the entries so far read, and end a transaction or don't
abbrev pub invariant-loop-at : goal.invariant-loop-at
invariant-loop-at g l = record {
  within : l.at ≤ l.size;
  size : l.size ≡ l.fn.window.size;
  segment : OnSame l.fn.window l.window;
  scanned : (files : Files) → Tells (g.S.Shelf.told l.fn.shelf) files → IsWindowOf (segment_bytes files l.fn.window.segment) l.fn.window
      → HasMagic (segment_bytes files l.fn.window.segment)
      → Scanned (segment_bytes files l.fn.window.segment) l.at l.closed × IsWindowOf (segment_bytes files l.fn.window.segment) l.window;
  same : heard (g.S.Shelf.told l.shelf) ≡ heard (g.S.Shelf.told l.fn.shelf);
  faults : g.S.Shelf.faults l.shelf ≡ g.S.Shelf.faults l.fn.shelf;
}

abbrev pub decreases-loop-at : goal.decreases-loop-at
decreases-loop-at g l = l.size - l.at
