use Rattle.std.proofs.Common.{IfErr, IfSome, Option, Result, rules}
use Rattle.ferry_repo.specs.Opening.{repo_view}
use Rattle.ferry_run_drill.proofs.VerifyLemmas.{verified}
use Rattle.ferry_run_transfer.proofs.SourceLemmas.{source_fits, source_opens}
use Rattle.ferry_disk.specs.Device.{HasCause, KeepsTold, told_files}
use Rattle.ferry_repo.specs.declared.fault.RepoFault.{RepoFault}
use Rattle.ferry_status.specs.Status.{store_status}
use Rattle.ferry_store.proofs.StepLemmas.{err_is}
use Rattle.ferry_store.specs.Fault.{depot_failed, repo_refusal}
use Rattle.ferry_store.specs.declared.fault.StoreRefusal.{StoreRefusal}
use Rattle.ferry_run_drill.proofs.CheckLemmas.{anyway_finished, check_finished, opened_finished}
use Rattle.ferry_run_drill.specs.Complete.{IsFinished}
use Rattle.ferry_run_drill.specs.Drill.{OpensAll}
use Rattle.ferry_run_drill.proofs.command.verify.Goals as goal
use Rattle.ferry_status.specs.declared.status.Status.TheVariants as Statuses
use Rattle.ferry_store.specs.declared.fault.StoreRefusal.TheVariants as Stores

pub check-requires : goal.check-requires
check-requires g c = record {
  fits = source_fits (g.D.Shelf.told c.open.new.shelf) c.in_ok-repo.repo c.in_ok-secret.secret
      (source_opens (g.D.Shelf.told c.args.target.now) (g.D.Shelf.told c.open.new.shelf) c.in_ok-repo.repo c.in_ok-secret.secret
      c.in_ok-repo.ensures.repository c.in_ok-repo.ensures.same) c.in_ok-repo.ensures.cached;
}

pub returns-clause-checked : goal.returns-clause-checked
returns-clause-checked g c =
    verified (g.D.Shelf.told c.args.target.now) (g.D.Shelf.told c.open.new.shelf) c.in_ok-secret.secret (repo_view c.in_ok-repo.repo) c.in_ok-report.report
    c.in_ok-secret.ensures.secret c.in_ok-repo.ensures.same c.in_ok-repo.ensures.repository c.in_ok-report.ensures.report

pub returns-in_err-secret-clause-finished : goal.returns-in_err-secret-clause-finished
returns-in_err-secret-clause-finished g c =
    let a = g.D.Shelf.told c.args.target.now in
    err_is c.from_residual.result Stores.Memory
    (λ (r : Result (Option RepoFault) StoreRefusal). IfErr r (λ refusal. IfSome a (λ t. OpensAll (told_files t) → IsFinished (store_status refusal))))
    c.from_residual.ensures.1 (anyway_finished a Statuses.Memory tt)

pub returns-in_err-repo-clause-finished : goal.returns-in_err-repo-clause-finished
returns-in_err-repo-clause-finished g c =
    let a = g.D.Shelf.told c.args.target.now in
    let fault = c.in_err-repo.field-0.0 in
    err_is c.from_residual-in_err-repo.result (repo_refusal fault)
    (λ (r : Result (Option RepoFault) StoreRefusal). IfErr r (λ refusal. IfSome a (λ t. OpensAll (told_files t) → IsFinished (store_status refusal))))
    c.from_residual-in_err-repo.ensures.1 (opened_finished a c.in_ok-secret.secret fault c.in_ok-secret.ensures.secret c.in_err-repo.ensures.refused)

pub returns-in_err-report-clause-finished : goal.returns-in_err-report-clause-finished
returns-in_err-report-clause-finished g c =
    let a = g.D.Shelf.told c.args.target.now in
    let fault = c.in_err-report.field-0.0 in
    err_is c.from_residual-in_err-report.result (repo_refusal fault)
    (λ (r : Result (Option RepoFault) StoreRefusal). IfErr r (λ refusal. IfSome a (λ t. OpensAll (told_files t) → IsFinished (store_status refusal))))
    c.from_residual-in_err-report.ensures.1
    (anyway_finished a (store_status (repo_refusal fault)) (check_finished fault c.in_err-report.ensures.refused))

pub returns-in_err-report-clause-same : goal.returns-in_err-report-clause-same
returns-in_err-report-clause-same g c =
    err_is c.from_residual-in_err-report.result (repo_refusal c.in_err-report.field-0.0)
    (λ (r : Result (Option RepoFault) StoreRefusal). KeepsTold depot_failed (g.D.Shelf.told c.args.target.now) (g.D.Shelf.told c.check.new.shelf) r)
    c.from_residual-in_err-report.ensures.1 (search rules)

pub returns-in_err-report-clause-cause : goal.returns-in_err-report-clause-cause
returns-in_err-report-clause-cause g c =
    err_is c.from_residual-in_err-report.result (repo_refusal c.in_err-report.field-0.0)
    (λ (r : Result (Option RepoFault) StoreRefusal). HasCause depot_failed (g.D.Shelf.faults c.args.target.now) (g.D.Shelf.faults c.check.new.shelf) r)
    c.from_residual-in_err-report.ensures.1 (search rules)
