use Rattle.std.proofs.Common.{refl}
use Rattle.ferry_repo.proofs.SharedLemmas.{all_behind}
use Rattle.ferry_plan.proofs.contents.are_held.Goals as goal
use Rattle.ferry_plan.specs.Tally.{IsHeld}
use Rattle.ferry_repo.specs.Opening.{repo_view}

pub loop-rest-preserved : goal.loop-rest-preserved
loop-rest-preserved c = λ behind.
    c.loop-rest.invariant (all_behind (λ piece. IsHeld (repo_view c.args.target.now).log c.args.known.now piece.id) c.loop-rest.rest.now _
    c.in-len1-up.len_at_least (c.if-not-is_held.ensures.held refl) behind)
