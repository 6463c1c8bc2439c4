use Rattle.std.proofs.Common.{◌≡◌, List, drop}
use Rattle.std.specs.List.Sorted.{IsStrictlyIncreasing}
use Rattle.ferry_compact.proofs.StaysLemmas.{NotedFront}
use Rattle.ferry_compact.specs.Reading.{Covers}
use Rattle.ferry_disk.specs.Device.{heard}
use Rattle.ferry_disk.specs.Files.{Files}
use Rattle.ferry_log.specs.Log.{Located}
use Rattle.ferry_log.specs.Window.{Tells}
use Rattle.ferry_compact.proofs.stays.note_segments.Given as goal

-- the segments so far are taken
abbrev pub invariant-loop-extent : goal.invariant-loop-extent
invariant-loop-extent g l = record {
  noted : (files : Files) → Tells (g.D.Shelf.told l.fn.depot) files → (entries : List Located) → Covers files l.extents entries
      → IsStrictlyIncreasing l.chosen
      → NotedFront l.log l.chosen l.among files (drop l.extent-index l.extents) entries l.fn.stays.entries l.stays.entries;
  same : heard (g.D.Shelf.told l.depot) ≡ heard (g.D.Shelf.told l.fn.depot);
  faults : g.D.Shelf.faults l.depot ≡ g.D.Shelf.faults l.fn.depot;
}
