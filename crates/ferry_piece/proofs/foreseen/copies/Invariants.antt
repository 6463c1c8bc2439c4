use Rattle.std.proofs.Common.{◌≡◌, ℕ, Vec, Global, map, take}
use Rattle.ferry_piece.proofs.foreseen.copies.Given as goal
use Rattle.ferry_piece.specs.Foreseen.{pieces_in}

-- the pieces of the buffers so far
abbrev pub invariant-loop-place : goal.invariant-loop-place
invariant-loop-place l = map (λ (piece : Vec ℕ Global). piece.items) l.pieces.items ≡ pieces_in (take l.place l.buffers)
