use Rattle.std.proofs.Common.{◌≡◌, take}
use Rattle.ferry_compact.specs.Choice.{chosen_in}
use Rattle.ferry_compact.proofs.choice.choose.Given as goal

-- those of the first ones are chosen
abbrev pub invariant-loop-extent : goal.invariant-loop-extent
invariant-loop-extent l = l.chosen.items ≡ chosen_in l.threshold (take l.extent-index l.extents)
