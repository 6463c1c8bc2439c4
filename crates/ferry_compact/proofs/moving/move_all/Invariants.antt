use Rattle.std.proofs.Common.{◌≡◌, false, Ok, drop}
use Rattle.ferry_compact.proofs.MovedLogLemmas.{FrontOfLog}
use Rattle.ferry_compact.specs.Steps.{Did, EachOfLog, RefusesLog}
use Rattle.ferry_compact.proofs.moving.move_all.Given as goal

-- the segments so far are passed
abbrev pub invariant-loop-extent : goal.invariant-loop-extent
invariant-loop-extent g l = record {
  did : Did (EachOfLog l.extents l.chosen l.fn.session)
      (FrontOfLog l.log l.stays.entries l.extents l.chosen (drop l.extent-index l.extents) l.fn.session l.session)
      (RefusesLog l.extents l.chosen l.fn.session) (g.D.Shelf.told l.fn.depot) (g.D.Shelf.told l.depot) (g.D.Shelf.faults l.fn.depot)
      (g.D.Shelf.faults l.depot) (Ok tt);
  unspent : l.session.spent ≡ false;
}
