use Rattle.std.proofs.Common.{List, [], ℕ, Result, IfErr, IfSome, refl, subst, ◌∙◌}
use Rattle.ferry_carry.specs.declared.options.Carried.{Carried}
use Rattle.ferry_disk.specs.Act.{History, files_now}
use Rattle.ferry_disk.specs.Device.{told_files}
use Rattle.ferry_piece.proofs.WorkLemmas.{err_is, works_nothing}
use Rattle.ferry_piece.specs.Work.{Works}
use Rattle.ferry_piece.specs.declared.fault.CarryFault.{CarryFault}
use Rattle.ferry_repo.specs.Opening.{repo_view, OpensFilesTo}
use Rattle.ferry_run_transfer.specs.Transfer.{chosen_of}
use Rattle.ferry_status.specs.Status.{carry_status}
use Rattle.ferry_store.proofs.CallLemmas.{first_here}
use Rattle.ferry_store.proofs.StepLemmas.{here_each}
use Rattle.ferry_store.specs.Store.{InitLeaves}
use Rattle.ferry_write.specs.Session.{SettlesFirst}
use Rattle.ferry_run_drill.proofs.WorkLemmas.{leaves_here, says_all}
use Rattle.ferry_run_drill.specs.Drill.{TellsStart}
use Rattle.ferry_run_drill.specs.Steps.{CopiesNames}
use Rattle.ferry_gen.specs.Source.{source_secret}
use Rattle.ferry_run_drill.proofs.DoneLemmas.{chosen_ends}
use Rattle.ferry_run_drill.proofs.UnmadeLemmas.{ends_from_anyway}
use Rattle.ferry_run_drill.specs.Complete.{EndsFrom}
use Rattle.ferry_piece.specs.declared.fault.CarryFault.TheVariants as Carry
use Rattle.ferry_run_drill.proofs.fill.copy_all.Goals as goal

pub returns-in_err-names-clause-works : goal.returns-in_err-names-clause-works
returns-in_err-names-clause-works g c =
    let a = g.D.Shelf.told c.args.target.now in
    let n = g.D.Shelf.faults c.args.target.now in
    let repo = repo_view c.args.repo.now in
    let Ends : Carried → History → History → Type 0 =
    λ carried. CopiesNames (files_now c.args.source.now.history) repo (chosen_of [] repo.manifest) carried in
    err_is c.from_residual.result Carry.Memory (λ (r : Result Carried CarryFault). Works SettlesFirst Ends a a n n r) c.from_residual.ensures.1
    (works_nothing {T = Carried} SettlesFirst Ends a n Carry.Memory refl first_here)

pub returns-in_err-names-clause-start : goal.returns-in_err-names-clause-start
returns-in_err-names-clause-start g c =
    let a = g.D.Shelf.told c.args.target.now in
    err_is c.from_residual.result Carry.Memory
    (λ (r : Result Carried CarryFault). IfErr r (λ (f : CarryFault). IfSome a (λ t. TellsStart (told_files t) (carry_status f)))) c.from_residual.ensures.1
    (says_all a _ (λ t. tt))

pub returns-clause-works : goal.returns-clause-works
returns-clause-works g c =
    let repo = repo_view c.args.repo.now in
    subst (λ (names : List (List ℕ)). Works SettlesFirst (λ carried. CopiesNames (files_now c.args.source.now.history) repo names carried)
    (g.D.Shelf.told c.args.target.now) (g.D.Shelf.told c.copy_names.new.target) (g.D.Shelf.faults c.args.target.now)
    (g.D.Shelf.faults c.copy_names.new.target) c.copy_names.result) (c.deref.ensures.value ∙ c.in_ok-names.ensures.chosen) c.copy_names.ensures.works

pub returns-in_err-names-clause-completes : goal.returns-in_err-names-clause-completes
returns-in_err-names-clause-completes g c =
    let a = g.D.Shelf.told c.args.target.now in
    let files = files_now c.args.source.now.history in
    let repo = repo_view c.args.repo.now in
    err_is c.from_residual.result Carry.Memory
    (λ (r : Result Carried CarryFault). IfErr r (λ (f : CarryFault). OpensFilesTo files source_secret repo → EndsFrom files a a f)) c.from_residual.ensures.1
    (λ opens. ends_from_anyway files a a Carry.Memory (λ start image. tt))

pub returns-clause-completes : goal.returns-clause-completes
returns-clause-completes g c =
    chosen_ends c.copy_names.result (files_now c.args.source.now.history) (repo_view c.args.repo.now) c.deref.result.now
    (g.D.Shelf.told c.args.target.now) (g.D.Shelf.told c.copy_names.new.target) (c.deref.ensures.value ∙ c.in_ok-names.ensures.chosen)
    c.copy_names.ensures.completes

pub returns-in_err-names-clause-kept : goal.returns-in_err-names-clause-kept
returns-in_err-names-clause-kept g c = here_each InitLeaves (g.D.Shelf.told c.args.target.now) leaves_here
