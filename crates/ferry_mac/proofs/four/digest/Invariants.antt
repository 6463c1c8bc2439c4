use Rattle.std.proofs.Common.{◌≡◌, ◌*◌, length, take}
use Rattle.sha2.specs.Sha256.{digest_bytes}
use Rattle.ferry_mac.specs.Lanes.{lane}
use Rattle.ferry_mac.proofs.four.digest.Given as goal

abbrev pub invariant-loop-i : goal.invariant-loop-i
invariant-loop-i g l = (length l.out ≡ 32) × (take (4 * l.i) l.out ≡ digest_bytes (lane l.state l.place) l.i)
