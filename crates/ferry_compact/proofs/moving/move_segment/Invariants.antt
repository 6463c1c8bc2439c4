use Rattle.std.proofs.Common.{◌≡◌, ◌-◌, false, Ok}
use Rattle.ferry_compact.proofs.MovedLemmas.{FrontOfSegment}
use Rattle.ferry_compact.specs.Steps.{Did, EachOfSegment, RefusesSegment}
use Rattle.ferry_compact.proofs.moving.move_segment.Given as goal

-- the entries so far are passed
abbrev pub invariant-loop-at : goal.invariant-loop-at
invariant-loop-at g l = record {
  did : Did (EachOfSegment l.extent l.fn.session) (FrontOfSegment l.log l.stays.entries l.extent l.at l.fn.session l.session)
      (RefusesSegment l.extent l.fn.session) (g.D.Shelf.told l.fn.depot) (g.D.Shelf.told l.depot) (g.D.Shelf.faults l.fn.depot)
      (g.D.Shelf.faults l.depot) (Ok tt);
  unspent : l.session.spent ≡ false;
}

abbrev pub decreases-loop-at : goal.decreases-loop-at
decreases-loop-at g l = l.size - l.at
