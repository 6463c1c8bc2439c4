use Rattle.std.proofs.Common.{◌≡◌, ◌≤◌, ◌*◌, ◌-◌, ◌^◌, take}
use Rattle.ferry_view.specs.Lines.{sizes}
use Rattle.ferry_view.proofs.line.sizes.Given as goal

-- the sum of the sizes so far
abbrev pub invariant-loop-place : goal.invariant-loop-place
invariant-loop-place l = record { sum : l.sum ≡ sizes (take l.place l.chunks); small : l.sum ≤ l.place * (2 ^ 64 - 1) }
