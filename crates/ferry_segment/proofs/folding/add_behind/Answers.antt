use Rattle.ferry_segment.proofs.FoldingLemmas.{sums_behind}
use Rattle.ferry_segment.proofs.folding.add_behind.Goals as goal

pub returns-clause-sum : goal.returns-clause-sum
returns-clause-sum c =
    sums_behind c.args.front.now c.args.behind.now c.add_at.new.bytes c.add_at-2.new.bytes c.add_at-3.new.bytes c.add_at-4.new.bytes c.requires.front
    c.requires.behind c.add_at.ensures.length c.add_at-2.ensures.length c.add_at-3.ensures.length c.add_at.ensures.sum c.add_at-2.ensures.sum
    c.add_at-3.ensures.sum c.add_at-4.ensures.sum
