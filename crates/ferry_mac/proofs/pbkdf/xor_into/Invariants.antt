use Rattle.std.proofs.Common.{◌≡◌, ◌++◌, take, drop}
use Rattle.ferry_mac.specs.Pbkdf2.{xor_of}
use Rattle.ferry_mac.proofs.pbkdf.xor_into.Given as goal

abbrev pub invariant-loop-place : goal.invariant-loop-place
invariant-loop-place l = l.sum ≡ xor_of (take l.place l.fn.sum) (take l.place l.other) ++ drop l.place l.fn.sum
