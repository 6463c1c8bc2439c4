use Rattle.ferry_write.proofs.ScriptLemmas.{unsized_ran, unwritten_ran}
use Rattle.ferry_write.proofs.script.sync_current.Goals as goal

pub returns-in_default-clause-ran : goal.returns-in_default-clause-ran
returns-in_default-clause-ran g c =
    unsized_ran c.args.last c.args.size (g.D.Shelf.told c.args.depot.now) (g.D.Shelf.faults c.args.depot.now) tt c.in_default.is-1

pub returns-in_default-2-clause-ran : goal.returns-in_default-2-clause-ran
returns-in_default-2-clause-ran g c =
    unwritten_ran c.args.last c.args.size (g.D.Shelf.told c.args.depot.now) (g.D.Shelf.faults c.args.depot.now) tt c.in_default.is-0
