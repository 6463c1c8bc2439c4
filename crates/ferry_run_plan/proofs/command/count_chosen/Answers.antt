use Rattle.std.proofs.Common.{rules, sym, subst, IfSome}
use Rattle.ferry_disk.specs.Device.{RoseWhere}
use Rattle.ferry_repo.specs.Opening.{repo_view}
use Rattle.ferry_status.specs.Status.{source_failed}
use Rattle.ferry_status.specs.declared.status.Status.{Status}
use Rattle.ferry_run_plan.proofs.PlanLemmas.{chosen_made, chosen_refused, plan_found, source_of_plan, unfound_refused, unopened_target}
use Rattle.ferry_run_transfer.proofs.SourceLemmas.{source_fits, source_opens}
use Rattle.ferry_run_plan.proofs.command.count_chosen.Goals as goal
use Rattle.ferry_run_plan.specs.Planning.{RefusesPlanning, planned_for}

pub returns-in-Err-clause-refused : goal.returns-in-Err-clause-refused
returns-in-Err-clause-refused g c = λ names is.
    let told = g.S.Shelf.told c.args.source.now in
    let target = g.T.Shelf.told c.args.target.now in
    let request = planned_for c.args.secrets.now c.args.block names told in
    subst (λ (status : Status). IfSome told (λ s. IfSome target (λ t. RefusesPlanning request s t status))) (sym c.of_carry.ensures)
    (unfound_refused c.args.secrets.now c.args.block names (repo_view c.args.repo.now) told target c.args.chosen.now c.in-Err.fault c.requires.source_opens
    c.in-Err.ensures.refused is)

pub returns-in-Err-open-clause-refused : goal.returns-in-Err-open-clause-refused
returns-in-Err-open-clause-refused g c = λ names is.
    let told = g.S.Shelf.told c.args.source.now in
    let target = g.T.Shelf.told c.args.target.now in
    let request = planned_for c.args.secrets.now c.args.block names told in
    subst (λ (status : Status). IfSome told (λ s. IfSome target (λ t. RefusesPlanning request s t status))) (sym c.of_store.ensures)
    (unopened_target request told target c.in-Err-open.fault
    (plan_found c.args.secrets.now c.args.block names (repo_view c.args.repo.now) told c.args.chosen.now c.requires.source_opens is
    (search rules)) c.in-Err-open.ensures.refused)

pub plan-requires-clause-target_fits : goal.plan-requires-clause-target_fits
plan-requires-clause-target_fits g c =
    source_fits (g.T.Shelf.told c.open.new.shelf) c.in-Ok.other c.args.secrets.now.target
    (source_opens (g.T.Shelf.told c.args.target.now) (g.T.Shelf.told c.open.new.shelf) c.in-Ok.other c.args.secrets.now.target
    c.in-Ok.ensures.repository c.in-Ok.ensures.same) c.in-Ok.ensures.cached

pub returns-in-Ok-plan_archives-clause-planned : goal.returns-in-Ok-plan_archives-clause-planned
returns-in-Ok-plan_archives-clause-planned g c = λ names is.
    chosen_made c.args.secrets.now c.args.block names (repo_view c.args.repo.now) (repo_view c.in-Ok.other) (g.S.Shelf.told c.args.source.now)
    (g.T.Shelf.told c.args.target.now) (g.T.Shelf.told c.open.new.shelf) c.args.chosen.now c.in-Ok-plan_archives.planned c.requires.source_opens
    c.in-Ok.ensures.repository c.in-Ok.ensures.same c.in-Ok-plan_archives.ensures.planned is

pub returns-clause-refused : goal.returns-clause-refused
returns-clause-refused g c = λ names is.
    let told = g.S.Shelf.told c.args.source.now in
    let target = g.T.Shelf.told c.args.target.now in
    let request = planned_for c.args.secrets.now c.args.block names told in
    subst (λ (status : Status). IfSome told (λ s. IfSome target (λ t. RefusesPlanning request s t status))) (sym c.of_plan.ensures)
    (chosen_refused c.args.secrets.now c.args.block names (repo_view c.args.repo.now) (repo_view c.in-Ok.other) told target
    (g.T.Shelf.told c.open.new.shelf) c.args.chosen.now c.in-Err-plan_archives.fault c.requires.source_opens c.in-Ok.ensures.repository
    c.in-Ok.ensures.same c.in-Err-plan_archives.ensures.refused is)

pub returns-clause-cause : goal.returns-clause-cause
returns-clause-cause g c =
    let a = g.S.Shelf.faults c.args.source.now in
    let b = g.S.Shelf.faults c.plan.new.shelf in
    subst (λ (s : Status). RoseWhere (source_failed s) a b) (sym c.of_plan.ensures)
    (subst (λ failed. RoseWhere failed a b) (sym (source_of_plan c.in-Err-plan_archives.fault)) c.in-Err-plan_archives.ensures.cause)
