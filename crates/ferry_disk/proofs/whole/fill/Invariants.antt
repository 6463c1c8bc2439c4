use Rattle.std.proofs.Common.{◌≡◌, ◌≤◌, ◌-◌, IfSome, length}
use Rattle.ferry_disk.specs.Files.{contents_at}
use Rattle.ferry_disk.specs.Device.{heard, told_files}
use Rattle.ferry_disk.proofs.WholeLemmas.{FilledTo}
use Rattle.ferry_disk.proofs.whole.fill.Given as goal

-- what is filled is the file's, and the shelf tells the same files
abbrev pub invariant-loop-filled : goal.invariant-loop-filled
invariant-loop-filled g l = record {
  within : l.filled ≤ length l.into;
  front : IfSome (g.S.Shelf.told l.fn.shelf) (λ t. FilledTo (contents_at (told_files t) l.name) l.at l.into l.filled);
  same : heard (g.S.Shelf.told l.shelf) ≡ heard (g.S.Shelf.told l.fn.shelf);
  faults : g.S.Shelf.faults l.shelf ≡ g.S.Shelf.faults l.fn.shelf;
}

abbrev pub decreases-loop-filled : goal.decreases-loop-filled
decreases-loop-filled g l = length l.into - l.filled
