use Rattle.std.proofs.Common.{take}
use Rattle.ferry_piece.specs.Gather.{IsAmong}
use Rattle.ferry_plan.proofs.present.is_among.Given as goal

-- the name isn't one of those before the place
abbrev pub invariant-loop-place : goal.invariant-loop-place
invariant-loop-place l = IsAmong (take l.place l.names) l.name → ⊥
