use Rattle.std.proofs.Common.{◌≡◌, ℕ, ◌*◌, ◌<◌, get_or}
use Rattle.ferry_lanes.proofs.kernels.zero_vectors.Given as goal

abbrev pub invariant-loop-number : goal.invariant-loop-number
invariant-loop-number l = (k : ℕ) → k < 32 * l.number → get_or l.bytes k 0 ≡ 0
