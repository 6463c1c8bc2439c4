use Rattle.std.proofs.Common.{ℕ, List, Option, Result, IfErr, IfSome, subst}
use Rattle.std.proofs.lemmas.Result.{IfErr-weaker}
use Rattle.ferry_disk.specs.Device.{told_files}
use Rattle.ferry_disk.specs.Moments.{Between}
use Rattle.ferry_piece.proofs.WorkLemmas.{err_is}
use Rattle.ferry_piece.specs.Fault.{IsOfReading, IsOfWork, target_fault}
use Rattle.ferry_piece.specs.Work.{Works}
use Rattle.ferry_piece.specs.declared.fault.CarryFault.{CarryFault}
use Rattle.ferry_refs.specs.Deleting.{Deletes, DeletesSound, RefusesDelete, time_of}
use Rattle.ferry_repo.specs.Opening.{repo_view}
use Rattle.ferry_run_delete.proofs.CauseLemmas.{undeleted_refused}
use Rattle.ferry_run_delete.proofs.EndLemmas.{archived_works, named_then, undeleted_left, unopened_left, unopened_works}
use Rattle.ferry_run_delete.proofs.command.delete_archive.Goals as goal
use Rattle.ferry_run_delete.specs.Delete.{LeavesOthers}
use Rattle.ferry_run_delete.specs.Steps.{GoesAway}
use Rattle.ferry_run_delete.proofs.ShowLemmas.{DeleteEach, deletion}
use Rattle.ferry_status.proofs.OpenedLemmas.{opened_then, has_number, unopened_number}
use Rattle.ferry_status.specs.Opened.{LeavesAll, NeedsNumber}
use Rattle.ferry_store.proofs.StepLemmas.{before_same}
use Rattle.ferry_store.proofs.UseLemmas.{fits_opened}
use Rattle.ferry_store.specs.Store.{OpenEach, OpenFits}
use Rattle.ferry_write.specs.Front.{OnlyRemoves}

pub returns-in_err-store-clause-works : goal.returns-in_err-store-clause-works
returns-in_err-store-clause-works g c =
    let asked = deletion c.args.secret.now c.args.name.now c.args.timestamp.now in
    let a = g.D.Shelf.told c.args.target.now in
    let b = g.D.Shelf.told c.open.new.depot in
    let n = g.D.Shelf.faults c.args.target.now in
    let m = g.D.Shelf.faults c.open.new.depot in
    let refusal = c.in_err-store.field-0.0 in
    err_is c.from_residual.result (target_fault refusal)
    (λ (r : Result ℕ CarryFault). Works (DeleteEach asked) (GoesAway asked.secret asked.name asked.timestamp) a b n m r) c.from_residual.ensures.1
    (unopened_works asked OpenFits a b n m refusal c.in_err-store.ensures.untold c.in_err-store.ensures.did)

pub returns-in_err-store-clause-kept : goal.returns-in_err-store-clause-kept
returns-in_err-store-clause-kept g c =
    let asked = deletion c.args.secret.now c.args.name.now c.args.timestamp.now in
    let a = g.D.Shelf.told c.args.target.now in
    let b = g.D.Shelf.told c.open.new.depot in
    err_is c.from_residual.result (target_fault c.in_err-store.field-0.0)
    (λ (r : Result ℕ CarryFault). IfErr r (λ (f : CarryFault). IsOfWork f → Between a b
    (LeavesAll asked.secret (LeavesOthers asked.secret asked.name asked.timestamp))))
    c.from_residual.ensures.1
    (λ work. unopened_left asked a b c.in_err-store.ensures.untold c.in_err-store.ensures.did.each)

pub delete-requires-clause-fits : goal.delete-requires-clause-fits
delete-requires-clause-fits g c =
    fits_opened OpenEach c.in_ok-store.store (g.D.Shelf.told c.args.target.now) (g.D.Shelf.told c.open.new.depot) (g.D.Shelf.faults c.args.target.now)
    (g.D.Shelf.faults c.open.new.depot) c.requires.begun c.in_ok-store.ensures.did

pub returns-clause-works : goal.returns-clause-works
returns-clause-works g c =
    let asked = deletion c.args.secret.now c.args.name.now c.args.timestamp.now in
    let store = c.in_ok-store.store in
    let now = c.delete.new.store in
    let manifest = (repo_view store.repo).manifest in
    let b = g.D.Shelf.told c.open.new.depot in
    let d = g.D.Shelf.told c.delete.new.depot in
    let m = g.D.Shelf.faults c.open.new.depot in
    let k = g.D.Shelf.faults c.delete.new.depot in
    archived_works asked store now (g.D.Shelf.told c.args.target.now) b d (g.D.Shelf.faults c.args.target.now) m k c.delete.result
    (named_then (repo_view store.repo) asked.name c.delete.result c.delete.ensures.nothing) c.in_ok-store.ensures.opened c.in_ok-store.ensures.untold
    c.in_ok-store.ensures.did c.delete.ensures.untold
    (subst (λ (t : Option (List ℕ)). Works (DeletesSound asked.name (time_of t manifest) store) (Deletes asked.name (time_of t manifest) store now) b d m k
    c.delete.result) c.time_of-time.ensures c.delete.ensures.works)

pub returns-clause-refused : goal.returns-clause-refused
returns-clause-refused g c =
    let asked = deletion c.args.secret.now c.args.name.now c.args.timestamp.now in
    let store = c.in_ok-store.store in
    let repo = repo_view store.repo in
    let a = g.D.Shelf.told c.args.target.now in
    let b = g.D.Shelf.told c.open.new.depot in
    let d = g.D.Shelf.told c.delete.new.depot in
    IfErr-weaker c.delete.result _ _
    (λ fault refused. undeleted_refused asked store a b d fault c.in_ok-store.ensures.opened c.in_ok-store.ensures.did.end
    (subst (λ (t : Option (List ℕ)). IfSome b (λ u. RefusesDelete (told_files u) repo asked.name (time_of t repo.manifest) d fault)) c.time_of-time.ensures
    refused))
    c.delete.ensures.refused

pub returns-clause-kept : goal.returns-clause-kept
returns-clause-kept g c =
    let asked = deletion c.args.secret.now c.args.name.now c.args.timestamp.now in
    let store = c.in_ok-store.store in
    let now = c.delete.new.store in
    let manifest = (repo_view store.repo).manifest in
    let a = g.D.Shelf.told c.args.target.now in
    let b = g.D.Shelf.told c.open.new.depot in
    let d = g.D.Shelf.told c.delete.new.depot in
    let n = g.D.Shelf.faults c.args.target.now in
    let m = g.D.Shelf.faults c.open.new.depot in
    let k = g.D.Shelf.faults c.delete.new.depot in
    let works = archived_works asked store now a b d n m k c.delete.result
    (named_then (repo_view store.repo) asked.name c.delete.result c.delete.ensures.nothing) c.in_ok-store.ensures.opened c.in_ok-store.ensures.untold
    c.in_ok-store.ensures.did c.delete.ensures.untold
    (subst (λ (t : Option (List ℕ)). Works (DeletesSound asked.name (time_of t manifest) store) (Deletes asked.name (time_of t manifest) store now) b d m k
    c.delete.result) c.time_of-time.ensures c.delete.ensures.works) in
    IfErr-weaker c.delete.result _ _
    (λ fault keeps work. undeleted_left asked store a b d n m c.in_ok-store.ensures.opened c.in_ok-store.ensures.untold c.in_ok-store.ensures.did
    c.delete.ensures.untold (keeps work) works.each)
    c.delete.ensures.keeps

pub returns-in_err-store-clause-shut : goal.returns-in_err-store-clause-shut
returns-in_err-store-clause-shut g c = c.open.ensures.kept

pub returns-clause-shut : goal.returns-clause-shut
returns-clause-shut g c =
    opened_then c.args.secret.now (repo_view c.in_ok-store.store.repo) (g.D.Shelf.told c.args.target.now) (g.D.Shelf.told c.open.new.depot)
    (g.D.Shelf.told c.delete.new.depot) _ _ c.in_ok-store.ensures.opened c.in_ok-store.ensures.numbered c.in_ok-store.ensures.did.each
    c.delete.ensures.works.each

pub returns-in_err-store-clause-number : goal.returns-in_err-store-clause-number
returns-in_err-store-clause-number g c =
    let refusal = c.in_err-store.field-0.0 in
    err_is c.from_residual.result (target_fault refusal)
    (λ (r : Result ℕ CarryFault). NeedsNumber (λ fault. ⊥) c.args.secret.now (g.D.Shelf.told c.args.target.now) r)
    c.from_residual.ensures.1
    (unopened_number ℕ (λ fault. ⊥) c.args.secret.now (g.D.Shelf.told c.args.target.now) refusal c.in_err-store.ensures.refused)

pub returns-clause-number : goal.returns-clause-number
returns-clause-number g c =
    has_number {T = ℕ} (λ fault. ⊥) c.args.secret.now (g.D.Shelf.told c.args.target.now) _ c.in_ok-store.ensures.numbered

pub returns-in_err-store-clause-unwritten : goal.returns-in_err-store-clause-unwritten
returns-in_err-store-clause-unwritten g c =
    let a = g.D.Shelf.told c.args.target.now in
    let b = g.D.Shelf.told c.open.new.depot in
    err_is c.from_residual.result (target_fault c.in_err-store.field-0.0)
    (λ (r : Result ℕ CarryFault). IfErr r (λ (f : CarryFault). IsOfReading f → Between a b OnlyRemoves)) c.from_residual.ensures.1
    (λ of. c.in_err-store.ensures.removes)

pub returns-clause-unwritten : goal.returns-clause-unwritten
returns-clause-unwritten g c =
    IfErr-weaker c.delete.result _ _
    (λ fault unwritten of. before_same OnlyRemoves (g.D.Shelf.told c.args.target.now) (g.D.Shelf.told c.open.new.depot) (g.D.Shelf.told c.delete.new.depot)
    c.in_ok-store.ensures.removes (unwritten of))
    c.delete.ensures.unwritten
