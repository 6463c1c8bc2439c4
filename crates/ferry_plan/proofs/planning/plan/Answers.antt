use Rattle.std.proofs.Common.{ℕ, [], refl, sym, subst}
use Rattle.ferry_plan.proofs.NamesLemmas.{err_of, missing_answered, not_missing, plan_made, plan_missing, plan_refused}
use Rattle.ferry_plan.proofs.planning.plan.Goals as goal
use Rattle.ferry_plan.specs.Plan.{PlansAll, RefusesBehind, RefusesPlan, WhereBoth}
use Rattle.ferry_repo.proofs.FaultLemmas.{gives_err}
use Rattle.ferry_repo.specs.Opening.{repo_view}

pub returns-in_err-find_names-clause-refused : goal.returns-in_err-find_names-clause-refused
returns-in_err-find_names-clause-refused g c =
    let told = g.S.Shelf.told c.args.shelf.now in
    let other = g.T.Shelf.told c.args.other.now in
    let source = repo_view c.args.source.now in
    let target = repo_view c.args.target.now in
    let names = c.args.names.now in
    let block = c.args.block in
    gives_err c.from_residual.result _ _ c.from_residual.ensures.1
    (λ fault is. subst (RefusesPlan told source block other target names) (sym is)
    (plan_missing told source block other target names c.in_err-find_names.field-0.0 c.in_err-find_names.ensures.missing))

pub returns-in_err-find_names-clause-missing : goal.returns-in_err-find_names-clause-missing
returns-in_err-find_names-clause-missing g c place missing = (
  refl,
  (
    refl,
    missing_answered (repo_view c.args.source.now).manifest c.args.names.now c.from_residual.result c.in_err-find_names.field-0.0
        (err_of c.from_residual.result c.in_err-find_names.field-0.0 c.from_residual.ensures.1) c.in_err-find_names.ensures.missing,
  ),
)

pub returns-in_err-tally-clause-missing : goal.returns-in_err-tally-clause-missing
returns-in_err-tally-clause-missing g c place missing =
    absurd (not_missing (repo_view c.args.source.now).manifest c.args.names.now c.in_ok-find_names.ensures.found place missing)

pub returns-in_err-plan_names-clause-missing : goal.returns-in_err-plan_names-clause-missing
returns-in_err-plan_names-clause-missing g c place missing =
    absurd (not_missing (repo_view c.args.source.now).manifest c.args.names.now c.in_ok-find_names.ensures.found place missing)

pub returns-clause-missing : goal.returns-clause-missing
returns-clause-missing g c place missing =
    absurd (not_missing (repo_view c.args.source.now).manifest c.args.names.now c.in_ok-find_names.ensures.found place missing)

pub returns-in_err-plan_names-clause-refused : goal.returns-in_err-plan_names-clause-refused
returns-in_err-plan_names-clause-refused g c =
    let told = g.S.Shelf.told c.args.shelf.now in
    let other = g.T.Shelf.told c.args.other.now in
    let source = repo_view c.args.source.now in
    let target = repo_view c.args.target.now in
    let names = c.args.names.now in
    let block = c.args.block in
    let fault = c.in_err-plan_names.field-0.0 in
    gives_err c.from_residual-in_err-plan_names.result _ _ c.from_residual-in_err-plan_names.ensures.1
    (λ f is. subst (RefusesPlan told source block other target names) (sym is)
    (plan_refused told source block other target names fault
    (subst (λ (b : ℕ). RefusesBehind told source b other target names fault) c.in_ok-tally.ensures.block c.in_err-plan_names.ensures.refused)))

pub returns-clause-planned : goal.returns-clause-planned
returns-clause-planned g c =
    let told = g.S.Shelf.told c.args.shelf.now in
    let other = g.T.Shelf.told c.args.other.now in
    let source = repo_view c.args.source.now in
    let target = repo_view c.args.target.now in
    let names = c.args.names.now in
    let planned = c.in_ok-plan_names.ensures.planned in
    let tallied = planned.1.0 [] (c.in_ok-tally.ensures.nothing target.keys target.log) in
    plan_made told source c.args.block other target names planned.0 c.planned.result tallied.knows.fresh
    (c.planned.ensures.counts target.keys target.log planned.0 tallied)
    (subst (λ (b : ℕ). WhereBoth told other (λ f h. PlansAll f source b h target names planned.0)) c.in_ok-tally.ensures.block planned.1.1)
