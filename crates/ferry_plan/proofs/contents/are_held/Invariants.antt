use Rattle.std.proofs.Common.{length}
use Rattle.std.specs.List.{AllByRecursion}
use Rattle.ferry_plan.proofs.contents.are_held.Given as goal
use Rattle.ferry_plan.specs.Tally.{IsHeld}
use Rattle.ferry_repo.specs.Opening.{repo_view}

-- what holds of the pieces that are left holds of all
abbrev pub invariant-loop-rest : goal.invariant-loop-rest
invariant-loop-rest l =
    AllByRecursion (λ piece. IsHeld (repo_view l.target).log l.known piece.id) l.rest
    → AllByRecursion (λ piece. IsHeld (repo_view l.target).log l.known piece.id) l.pieces

abbrev pub decreases-loop-rest : goal.decreases-loop-rest
decreases-loop-rest l = length l.rest
