use Rattle.std.proofs.Common.{ℕ, ◌<◌}
use Rattle.ferry_mac.specs.Lanes.{HasRows, HasWords}
use Rattle.ferry_mac.proofs.four.keyed.Given as goal

abbrev pub invariant-loop-l : goal.invariant-loop-l
invariant-loop-l l = (HasRows l.w 4) × ((j : ℕ) → j < l.l → HasWords l.w j l.block)
