use Rattle.ferry_item.specs.Progress.{IsAhead}
use Rattle.ferry_item.proofs.progress.gone_on.Given as goal

abbrev pub invariant-steps : goal.invariant-steps
invariant-steps l = IsAhead l.bytes l.seen l.levels.items
