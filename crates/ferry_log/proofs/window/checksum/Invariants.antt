use Rattle.std.proofs.Common.{◌≡◌, ◌≤◌, ◌-◌}
use Rattle.ferry_disk.specs.Device.{heard}
use Rattle.ferry_disk.specs.Files.{Files, segment_bytes}
use Rattle.ferry_log.specs.Window.{Tells, IsWindowOf, OnSame, sum_between}
use Rattle.ferry_log.proofs.window.checksum.Given as goal

-- the bytes so far are summed
abbrev pub invariant-loop-at : goal.invariant-loop-at
invariant-loop-at g l = record {
  forward : l.from ≤ l.at;
  inside : l.at ≤ l.to;
  segment : OnSame l.fn.window l.window;
  sum : (files : Files) → Tells (g.S.Shelf.told l.fn.shelf) files → IsWindowOf (segment_bytes files l.fn.window.segment) l.fn.window
      → (l.sum ≡ sum_between (segment_bytes files l.fn.window.segment) l.from l.at) × IsWindowOf (segment_bytes files l.fn.window.segment) l.window;
  same : heard (g.S.Shelf.told l.shelf) ≡ heard (g.S.Shelf.told l.fn.shelf);
  faults : g.S.Shelf.faults l.shelf ≡ g.S.Shelf.faults l.fn.shelf;
}

abbrev pub decreases-loop-at : goal.decreases-loop-at
decreases-loop-at g l = l.to - l.at
