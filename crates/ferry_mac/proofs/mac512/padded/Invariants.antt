use Rattle.std.proofs.Common.{◌≡◌, ◌++◌, take, drop}
use Rattle.ferry_mac.specs.Hmac.{xored_with}
use Rattle.ferry_mac.proofs.mac512.padded.Given as goal

abbrev pub invariant-loop-place : goal.invariant-loop-place
invariant-loop-place l = l.out ≡ xored_with l.pad (take l.place l.fn.block) ++ drop l.place l.fn.block
