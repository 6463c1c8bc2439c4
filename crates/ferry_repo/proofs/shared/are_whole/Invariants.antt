use Rattle.std.proofs.Common.{◌≡◌, length}
use Rattle.std.specs.List.{AllByRecursion}
use Rattle.ferry_repo.proofs.shared.are_whole.Given as goal

-- what holds of the pieces that are left holds of all
abbrev pub invariant-loop-rest : goal.invariant-loop-rest
invariant-loop-rest l = AllByRecursion (λ piece. piece.size ≡ l.block) l.rest → AllByRecursion (λ piece. piece.size ≡ l.block) l.pieces

abbrev pub decreases-loop-rest : goal.decreases-loop-rest
decreases-loop-rest l = length l.rest
