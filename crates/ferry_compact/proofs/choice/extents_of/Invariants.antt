use Rattle.std.proofs.Common.{◌≡◌, ◌≤◌, ◌-◌, length, take}
use Rattle.ferry_compact.proofs.choice.extents_of.Given as goal

-- the first ones are taken
abbrev pub invariant-loop-extent : goal.invariant-loop-extent
invariant-loop-extent l = record {
  within : length l.extents.items ≤ length l.log.extents;
  taken : l.extents.items ≡ take (length l.extents.items) l.log.extents;
}

abbrev pub decreases-loop-extent : goal.decreases-loop-extent
decreases-loop-extent l = length l.log.extents - length l.extents.items
