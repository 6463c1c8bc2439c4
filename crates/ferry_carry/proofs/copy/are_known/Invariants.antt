use Rattle.std.proofs.Common.{length}
use Rattle.std.specs.List.{AllByRecursion}
use Rattle.ferry_store.specs.Adding.{IsAnswered}
use Rattle.ferry_carry.proofs.copy.are_known.Given as goal

-- what holds of the pieces that are left holds of all
abbrev pub invariant-loop-rest : goal.invariant-loop-rest
invariant-loop-rest l = AllByRecursion (λ piece. IsAnswered l.store piece.id) l.rest → AllByRecursion (λ piece. IsAnswered l.store piece.id) l.pieces

abbrev pub decreases-loop-rest : goal.decreases-loop-rest
decreases-loop-rest l = length l.rest
