use Rattle.ferry_plan.proofs.TallyLemmas.{counts_more}
use Rattle.ferry_plan.proofs.pieces.Pieces.push.Goals as goal

pub returns-clause-counted : goal.returns-clause-counted
returns-clause-counted c kind content added is counts =
    counts_more kind added content c.args.noted.new c.args.self.now.put c.args.self.now.bytes c.count.new.self.put c.count.new.self.bytes c.args.size is
    c.count.ensures.put c.count.ensures.bytes counts
