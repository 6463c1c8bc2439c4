use Rattle.std.proofs.Common.{Ok, ap, subst}
use Rattle.ferry_compare.specs.Compare.{comparison_view, seen}
use Rattle.ferry_compare.specs.Steps.{RefusesSource}
use Rattle.ferry_plan.proofs.PresentLemmas.{differ_first, differ_now, equal_first, source_first}
use Rattle.ferry_plan.proofs.present.is_equal.Goals as goal
use Rattle.ferry_repo.proofs.FaultLemmas.{gives_err}
use Rattle.ferry_repo.specs.Opening.{repo_view}
use Rattle.std.proofs.Common.{sym}

pub returns-in_err-compared-clause-refused_source : goal.returns-in_err-compared-clause-refused_source
returns-in_err-compared-clause-refused_source g c =
    let invariant = c.loop.invariant in
    let told = g.S.Shelf.told c.args.shelf.now in
    let source = repo_view c.args.source.now in
    let name = (comparison_view c.args.comparison.now).name in
    gives_err c.from_residual.result _ _ c.from_residual.ensures.1
    (λ fault is. subst (RefusesSource told source name) (sym is)
    (source_first told (g.S.Shelf.told c.loop.shelf) source (repo_view c.loop.source) name (comparison_view c.loop.comparison).name
    c.in_err-compared.field-0.0 invariant.source_alike invariant.source_is invariant.name c.in_err-compared.ensures.refused_source))

pub returns-in-Equal-clause-equal : goal.returns-in-Equal-clause-equal
returns-in-Equal-clause-equal g c equal =
    let invariant = c.loop.invariant in
    equal_first (g.S.Shelf.told c.args.shelf.now) (g.S.Shelf.told c.loop.shelf) (repo_view c.args.source.now) (repo_view c.loop.source)
    (g.T.Shelf.told c.args.other.now) (g.T.Shelf.told c.loop.other) (repo_view c.args.target.now) (repo_view c.loop.target)
    (comparison_view c.args.comparison.now).name (comparison_view c.loop.comparison).name invariant.source_alike invariant.source_is
    invariant.target_alike invariant.target_is invariant.name (c.in_ok-compared.ensures.equal (ap Ok c.in-Equal.is))

pub returns-in-Differs-clause-differs : goal.returns-in-Differs-clause-differs
returns-in-Differs-clause-differs g c differs =
    let invariant = c.loop.invariant in
    differ_first (g.S.Shelf.told c.args.shelf.now) (g.S.Shelf.told c.loop.shelf) (repo_view c.args.source.now) (repo_view c.loop.source)
    (g.T.Shelf.told c.args.other.now) (g.T.Shelf.told c.loop.other) (repo_view c.args.target.now) (repo_view c.loop.target)
    (comparison_view c.args.comparison.now).name (comparison_view c.loop.comparison).name invariant.source_alike invariant.source_is
    invariant.target_alike invariant.target_is invariant.name
    (differ_now _ _ _ _ _ (comparison_view c.loop.comparison).other
    (c.in_ok-compared.ensures.differs (seen (g.T.Shelf.told c.loop.other) (repo_view c.loop.target)) invariant.fits (ap Ok c.in-Differs.is)))

pub step-requires-clause-fits : goal.step-requires-clause-fits
step-requires-clause-fits g c = (seen (g.T.Shelf.told c.loop.other) (repo_view c.loop.target), c.loop.invariant.fits)
