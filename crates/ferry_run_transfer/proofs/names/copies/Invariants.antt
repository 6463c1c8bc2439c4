use Rattle.std.proofs.Common.{◌≡◌, take}
use Rattle.ferry_run_transfer.proofs.names.copies.Given as goal

abbrev pub invariant-loop-place : goal.invariant-loop-place
invariant-loop-place l = l.chosen.items ≡ take l.place l.names
