use Rattle.ferry_write.specs.Room.{behind}
use Rattle.ferry_write.proofs.ScriptLemmas.{RemovesUpTo}
use Rattle.ferry_write.proofs.script.remove_above.Given as goal

-- the segments before the place are removed, where they are above
abbrev pub invariant-loop-number : goal.invariant-loop-number
invariant-loop-number g l =
    RemovesUpTo (behind l.after) l.numbers l.number-index (g.D.Shelf.told l.fn.depot) (g.D.Shelf.told l.depot) (g.D.Shelf.faults l.fn.depot)
    (g.D.Shelf.faults l.depot)
