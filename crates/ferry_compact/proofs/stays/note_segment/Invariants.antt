use Rattle.std.proofs.Common.{◌≡◌, ◌-◌, List}
use Rattle.ferry_compact.proofs.StaysLemmas.{NotedUpTo}
use Rattle.ferry_compact.specs.Reading.{HasSegment}
use Rattle.ferry_disk.specs.Device.{heard}
use Rattle.ferry_disk.specs.Files.{Files, segment_bytes}
use Rattle.ferry_log.specs.Window.{Tells}
use Rattle.ferry_segment.specs.Entry.{LogEntry}
use Rattle.ferry_compact.proofs.stays.note_segment.Given as goal

-- the entries so far read, and the notes go on with them
abbrev pub invariant-loop-at : goal.invariant-loop-at
invariant-loop-at g l = record {
  noted : (files : Files) → Tells (g.D.Shelf.told l.fn.depot) files → (entries : List LogEntry) → HasSegment files l.extent entries
      → NotedUpTo l.log l.among l.extent.segment (segment_bytes files l.extent.segment) l.at l.fn.stays.entries l.stays.entries;
  same : heard (g.D.Shelf.told l.depot) ≡ heard (g.D.Shelf.told l.fn.depot);
  faults : g.D.Shelf.faults l.depot ≡ g.D.Shelf.faults l.fn.depot;
}

abbrev pub decreases-loop-at : goal.decreases-loop-at
decreases-loop-at g l = l.size - l.at
