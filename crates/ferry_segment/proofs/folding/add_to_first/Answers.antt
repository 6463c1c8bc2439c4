use Rattle.std.proofs.Common.{refl}
use Rattle.ferry_segment.proofs.FoldingLemmas.{sums_first}
use Rattle.ferry_segment.proofs.folding.add_to_first.Goals as goal

pub returns-clause-sum : goal.returns-clause-sum
returns-clause-sum c = sums_first c.args.front.now c.args.behind.now c.add_behind.new.behind _ refl c.add_behind.ensures.sum
