use Rattle.std.proofs.Common.{refl}
use Rattle.ferry_segment.proofs.FoldingLemmas.{front_folded}
use Rattle.ferry_segment.proofs.folding.fold_front.Goals as goal

pub returns-clause-left : goal.returns-clause-left
returns-clause-left c =
    let parts = c.split_at_mut-front in
    front_folded c.args.bytes.now parts.result.0.now parts.result.1.now c.add_to_first.new.behind _ parts.ensures.value parts.ensures.front_len refl
    c.add_to_first.ensures.sum
