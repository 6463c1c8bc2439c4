use Rattle.ferry_run_plan.proofs.PlanCauseLemmas.{made_before, refused_before}
use Rattle.ferry_run_transfer.proofs.SourceLemmas.{source_fits, source_opens}
use Rattle.ferry_run_plan.proofs.command.count.Goals as goal

pub count_from-requires-clause-source_fits : goal.count_from-requires-clause-source_fits
count_from-requires-clause-source_fits g c =
    source_fits (g.S.Shelf.told c.open.new.shelf) c.in-Ok.repo c.args.secrets.now.source
    (source_opens (g.S.Shelf.told c.args.source.now) (g.S.Shelf.told c.open.new.shelf) c.in-Ok.repo c.args.secrets.now.source
    c.in-Ok.ensures.repository c.in-Ok.ensures.same) c.in-Ok.ensures.cached

pub returns-clause-planned : goal.returns-clause-planned
returns-clause-planned g c =
    made_before c.args.secrets.now c.args.block c.args.names.now (g.S.Shelf.told c.args.source.now) (g.S.Shelf.told c.open.new.shelf)
    (g.T.Shelf.told c.args.target.now) c.count_from.result c.in-Ok.ensures.same c.count_from.ensures.planned

pub returns-clause-refused : goal.returns-clause-refused
returns-clause-refused g c =
    refused_before c.args.secrets.now c.args.block c.args.names.now (g.S.Shelf.told c.args.source.now) (g.S.Shelf.told c.open.new.shelf)
    (g.T.Shelf.told c.args.target.now) c.count_from.result c.in-Ok.ensures.same c.count_from.ensures.refused
