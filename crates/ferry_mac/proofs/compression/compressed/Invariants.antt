use Rattle.std.proofs.Common.{◌≡◌, ℕ, ◌<◌, ◌*◌, List}
use Rattle.sha2.specs.Sha256.{rounds, schedule}
use Rattle.ferry_mac.specs.Lanes.{HasWords, lane}
use Rattle.ferry_mac.proofs.compression.compressed.Given as goal

abbrev pub invariant-loop-turn : goal.invariant-loop-turn
invariant-loop-turn g l =
    (k : ℕ) (block : List ℕ) → k < g.row.N → HasWords l.fn.w k block → lane l.v k ≡ rounds (lane l.state k) (schedule block 48) (4 * l.turn)
