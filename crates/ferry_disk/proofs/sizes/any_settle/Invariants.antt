use Rattle.std.proofs.Common.{◌≡◌, drop}
use Rattle.ferry_disk.specs.Acts.{acts_of}
use Rattle.ferry_disk.specs.Image.{settled}
use Rattle.ferry_disk.proofs.sizes.any_settle.Given as goal

-- no Settle is done so far
abbrev pub invariant-loop-i : goal.invariant-loop-i
invariant-loop-i l = settled (acts_of l.acts) ≡ settled (acts_of (drop l.i l.acts))
