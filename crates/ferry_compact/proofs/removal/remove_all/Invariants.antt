use Rattle.ferry_write.proofs.ScriptLemmas.{RemovesUpTo}
use Rattle.ferry_compact.proofs.removal.remove_all.Given as goal

-- the segments before the place are removed
abbrev pub invariant-loop-number : goal.invariant-loop-number
invariant-loop-number g l =
    RemovesUpTo 0 l.numbers l.number-index (g.D.Shelf.told l.fn.depot) (g.D.Shelf.told l.depot) (g.D.Shelf.faults l.fn.depot) (g.D.Shelf.faults l.depot)
