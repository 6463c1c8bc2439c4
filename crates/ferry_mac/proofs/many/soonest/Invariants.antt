use Rattle.std.proofs.Common.{ℕ, ◌<◌, ◌≤◌, slice_index}
use Rattle.ferry_mac.proofs.many.soonest.Given as goal

abbrev pub invariant-loop-l : goal.invariant-loop-l
invariant-loop-l g l = (l.soonest < g.row.N) × ((j : ℕ) → j < l.l → slice_index l.lefts l.soonest ≤ slice_index l.lefts j)
