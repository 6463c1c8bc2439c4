use Rattle.std.proofs.Common.{◌≡◌, [], Some, Result, IfErr, IfSome, OnOk, refl, ap, subst}
use Rattle.ferry_disk.specs.Device.{Heard, heard_of, told_files}
use Rattle.ferry_disk.specs.Files.{Files}
use Rattle.ferry_disk.specs.Disk.{disk_told}
use Rattle.ferry_carry.specs.declared.options.Carried.{Carried}
use Rattle.ferry_disk.specs.Act.{History, files_now}
use Rattle.ferry_gen.specs.Source.{source_secret}
use Rattle.ferry_piece.proofs.FaultLemmas.{source_still}
use Rattle.ferry_piece.proofs.WorkLemmas.{err_is, works_nothing}
use Rattle.ferry_piece.specs.Work.{Works}
use Rattle.ferry_piece.specs.Fault.{source_fault}
use Rattle.ferry_piece.specs.declared.fault.CarryFault.{CarryFault}
use Rattle.ferry_piece.specs.declared.fault.CarryFault.TheVariants as Carry
use Rattle.ferry_repo.specs.Opening.{OpensFilesTo, RefusesRepo, repo_view}
use Rattle.ferry_repo.specs.declared.secret.Secret.{Secret}
use Rattle.ferry_repo.specs.Fault.{repo_failed}
use Rattle.ferry_repo.specs.declared.fault.RepoFault.{RepoFault}
use Rattle.ferry_repo.specs.declared.repo.Repo.{Repo}
use Rattle.ferry_run_transfer.proofs.SourceLemmas.{files_kept, source_fits, source_opens}
use Rattle.ferry_run_transfer.specs.Transfer.{chosen_of}
use Rattle.ferry_status.specs.Status.{carry_status}
use Rattle.ferry_store.proofs.CallLemmas.{first_here}
use Rattle.ferry_store.proofs.StepLemmas.{here_each}
use Rattle.ferry_store.specs.Store.{InitLeaves}
use Rattle.ferry_write.specs.Session.{SettlesFirst}
use Rattle.ferry_run_drill.proofs.DoneLemmas.{source_copied}
use Rattle.ferry_run_drill.proofs.UnmadeLemmas.{ends_from_anyway, opened_ends}
use Rattle.ferry_run_drill.proofs.WorkLemmas.{leaves_here, ok_all, opened_tells, opens_apart, still}
use Rattle.ferry_run_drill.proofs.fill.copy_source.Goals as goal
use Rattle.ferry_run_drill.specs.Complete.{EndsFrom}
use Rattle.ferry_run_drill.specs.Drill.{TellsStart}
use Rattle.ferry_run_drill.specs.Steps.{CopiesNames}

pub returns-in_err-secret-clause-completes : goal.returns-in_err-secret-clause-completes
returns-in_err-secret-clause-completes g c =
    let a = g.D.Shelf.told c.args.target.now in
    let files = files_now c.args.source.now.history in
    err_is c.from_residual.result Carry.Memory (λ (r : Result Carried CarryFault). IfErr r (EndsFrom files a a)) c.from_residual.ensures.1
    (ends_from_anyway files a a Carry.Memory (λ start image. tt))

pub returns-in_err-repo-clause-completes : goal.returns-in_err-repo-clause-completes
returns-in_err-repo-clause-completes g c =
    let a = g.D.Shelf.told c.args.target.now in
    let files = files_now c.args.source.now.history in
    let fault = c.in_err-repo.field-0.0 in
    err_is c.from_residual-in_err-repo.result (source_fault fault) (λ (r : Result Carried CarryFault). IfErr r (EndsFrom files a a))
    c.from_residual-in_err-repo.ensures.1
    (opened_ends files a a c.requires.opens.0 fault c.requires.opens.1 (still _ c.in_err-repo.ensures.cause)
    (λ of_files. subst (λ (s : Secret). RefusesRepo files s fault) c.in_ok-secret.ensures.secret c.in_err-repo.ensures.refused))

pub returns-clause-completes : goal.returns-clause-completes
returns-clause-completes g c =
    source_copied c.copy_all.result (files_now c.args.source.now.history) (files_now c.open.new.shelf.history) c.in_ok-secret.secret
    (repo_view c.in_ok-repo.repo) (g.D.Shelf.told c.args.target.now) (g.D.Shelf.told c.copy_all.new.target)
    (let e : heard_of (disk_told c.open.new.shelf) ≡ heard_of (disk_told c.args.source.now) = (let same = c.in_ok-repo.ensures.same in cc) in
    ap (λ (h : Heard). files_now h.history) e) c.in_ok-secret.ensures.secret
    c.in_ok-repo.ensures.repository c.copy_all.ensures.completes

pub returns-in_err-secret-clause-works : goal.returns-in_err-secret-clause-works
returns-in_err-secret-clause-works g c =
    let files = files_now c.args.source.now.history in
    let repo = c.requires.opens.0 in
    let a = g.D.Shelf.told c.args.target.now in
    let n = g.D.Shelf.faults c.args.target.now in
    let Ends : Carried → History → History → Type 0 = λ carried. CopiesNames files repo (chosen_of [] repo.manifest) carried in (
      repo,
      err_is c.from_residual.result Carry.Memory
          (λ (r : Result Carried CarryFault). OnOk r (OpensFilesTo files source_secret repo) × Works SettlesFirst Ends a a n n r) c.from_residual.ensures.1
          (tt, works_nothing {T = Carried} SettlesFirst Ends a n Carry.Memory refl first_here),
    )

pub returns-in_err-repo-clause-works : goal.returns-in_err-repo-clause-works
returns-in_err-repo-clause-works g c =
    let files = files_now c.args.source.now.history in
    let repo = c.requires.opens.0 in
    let a = g.D.Shelf.told c.args.target.now in
    let n = g.D.Shelf.faults c.args.target.now in
    let fault = c.in_err-repo.field-0.0 in
    let Ends : Carried → History → History → Type 0 = λ carried. CopiesNames files repo (chosen_of [] repo.manifest) carried in (
      repo,
      err_is c.from_residual-in_err-repo.result (source_fault fault)
          (λ (r : Result Carried CarryFault). OnOk r (OpensFilesTo files source_secret repo) × Works SettlesFirst Ends a a n n r)
          c.from_residual-in_err-repo.ensures.1
          (tt, works_nothing {T = Carried} SettlesFirst Ends a n (source_fault fault) (source_still fault) first_here),
    )

pub returns-in_err-repo-clause-start : goal.returns-in_err-repo-clause-start
returns-in_err-repo-clause-start g c =
    let a = g.D.Shelf.told c.args.target.now in
    let fault = c.in_err-repo.field-0.0 in
    err_is c.from_residual-in_err-repo.result (source_fault fault)
    (λ (r : Result Carried CarryFault). IfErr r (λ (f : CarryFault). IfSome a (λ t. TellsStart (told_files t) (carry_status f))))
    c.from_residual-in_err-repo.ensures.1
    (opened_tells a fault (opens_apart (files_now c.args.source.now.history) c.in_ok-secret.secret c.requires.opens.0 fault c.in_ok-secret.ensures.secret
    c.requires.opens.1 c.in_err-repo.ensures.refused) c.in_err-repo.ensures.cause)

pub copy_all-requires-clause-fits : goal.copy_all-requires-clause-fits
copy_all-requires-clause-fits g c =
    let a = Some (disk_told c.args.source.now) in
    let b = Some (disk_told c.open.new.shelf) in
    source_fits b c.in_ok-repo.repo c.in_ok-secret.secret
    (source_opens a b c.in_ok-repo.repo c.in_ok-secret.secret c.in_ok-repo.ensures.repository c.in_ok-repo.ensures.same) c.in_ok-repo.ensures.cached

pub returns-clause-works : goal.returns-clause-works
returns-clause-works g c =
    let before = files_now c.args.source.now.history in
    let after = files_now c.open.new.shelf.history in
    let repo = repo_view c.in_ok-repo.repo in
    let same : after ≡ before =
    (let e = files_kept {T = Repo} {F = RepoFault} repo_failed (Some (disk_told c.args.source.now)) (Some (disk_told c.open.new.shelf)) c.in_ok-repo.repo
    c.in_ok-repo.ensures.same in cc) in (
      repo,
      (
        ok_all c.copy_all.result (OpensFilesTo before source_secret repo)
            (subst (λ (secret : Secret). OpensFilesTo before secret repo) c.in_ok-secret.ensures.secret c.in_ok-repo.ensures.repository),
        subst (λ (files : Files). Works SettlesFirst (λ carried. CopiesNames files repo (chosen_of [] repo.manifest) carried)
            (g.D.Shelf.told c.args.target.now) (g.D.Shelf.told c.copy_all.new.target) (g.D.Shelf.faults c.args.target.now)
            (g.D.Shelf.faults c.copy_all.new.target) c.copy_all.result) same c.copy_all.ensures.works,
      ),
    )

pub returns-in_err-secret-clause-kept : goal.returns-in_err-secret-clause-kept
returns-in_err-secret-clause-kept g c = here_each InitLeaves (g.D.Shelf.told c.args.target.now) leaves_here

pub returns-in_err-repo-clause-kept : goal.returns-in_err-repo-clause-kept
returns-in_err-repo-clause-kept g c = here_each InitLeaves (g.D.Shelf.told c.args.target.now) leaves_here
