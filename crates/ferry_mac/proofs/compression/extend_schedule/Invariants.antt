use Rattle.std.proofs.Common.{◌≡◌, ℕ, ◌<◌, List, length}
use Rattle.ferry_mac.specs.Lanes.{HasRows, HasWords, IsScheduled}
use Rattle.ferry_mac.proofs.compression.extend_schedule.Given as goal

abbrev pub invariant-loop-t : goal.invariant-loop-t
invariant-loop-t g l =
    (length l.w ≡ 64) × (HasRows l.w g.row.N)
    × ((k : ℕ) (block : List ℕ) → k < g.row.N → HasWords l.fn.w k block → IsScheduled l.w l.t k block)
