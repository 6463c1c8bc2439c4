use Rattle.std.proofs.Common.{◌≡◌}
use Rattle.ferry_repo.proofs.SharedLemmas.{all_behind}
use Rattle.ferry_repo.proofs.shared.are_whole.Goals as goal

pub loop-rest-preserved : goal.loop-rest-preserved
loop-rest-preserved c = λ behind.
    c.loop-rest.invariant (all_behind (λ piece. piece.size ≡ c.args.block) c.loop-rest.rest.now _ c.in-len1-up.len_at_least c.if-piece-block.false behind)
