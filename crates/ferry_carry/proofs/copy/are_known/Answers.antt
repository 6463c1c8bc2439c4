use Rattle.std.proofs.Common.{refl}
use Rattle.ferry_repo.proofs.SharedLemmas.{all_behind}
use Rattle.ferry_carry.proofs.copy.are_known.Goals as goal
use Rattle.ferry_store.specs.Adding.{IsAnswered}

pub loop-rest-preserved : goal.loop-rest-preserved
loop-rest-preserved c = λ behind.
    c.loop-rest.invariant (all_behind (λ piece. IsAnswered c.args.store.now piece.id) c.loop-rest.rest.now _ c.in-len1-up.len_at_least
    (c.if-not-knows.ensures.answered refl) behind)
