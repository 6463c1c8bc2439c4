use Rattle.std.proofs.Common.{◌≡◌, List, ℕ, Option, option_map, take}
use Rattle.ferry_disk.specs.Acts.{acts_of}
use Rattle.ferry_disk.specs.Image.{plain_of}
use Rattle.ferry_disk.proofs.stop.perhaps_put.Given as goal

-- what the acts so far leave in doubt
abbrev pub invariant-loop-i : goal.invariant-loop-i
invariant-loop-i l = (file : Option (List ℕ)) → option_map (λ v. v.now.items) l.perhaps ≡ (plain_of file (acts_of (take l.i l.moment)) l.name).perhaps
