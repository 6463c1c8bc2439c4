use Rattle.std.proofs.Common.{rules, ◌≡◌, ℕ, length, List, Result, Ok, Err, IfErr, IfSome, refl, sym, ◌∙◌, ap, subst}
use Rattle.std.specs.Option.{option_copied}
use Rattle.ferry_disk.specs.Moments.{Between}
use Rattle.ferry_piece.proofs.WorkLemmas.{err_is}
use Rattle.ferry_piece.specs.Fault.{IsOfReading, IsOfWork, target_fault}
use Rattle.ferry_piece.specs.Work.{Works}
use Rattle.ferry_piece.specs.declared.fault.CarryFault.{CarryFault}
use Rattle.ferry_piece.specs.declared.fault.CarryFault.TheVariants as Carry
use Rattle.ferry_refs.proofs.DeleteLemmas.{all_read, delete_refused, did_at, keeps_behind, works_done, works_here, works_memory, works_undone, works_unread}
use Rattle.ferry_refs.proofs.DeleteLemmas.{told_never, writing_never}
use Rattle.ferry_refs.proofs.DropLemmas.{leaves_here, untold_then}
use Rattle.ferry_refs.proofs.deleting.delete.Goals as goal
use Rattle.ferry_check.specs.Verify.{IsNamed}
use Rattle.ferry_disk.specs.Device.{told_files}
use Rattle.ferry_refs.specs.DeleteSteps.{RefusesWith}
use Rattle.ferry_refs.specs.Deleting.{Deletes, DeletesSound, LeavesCommitted, RefusesDelete, time_of}
use Rattle.ferry_store.specs.Causes.{StopsAt}
use Rattle.ferry_repo.specs.Opening.{RepoState, repo_view}
use Rattle.ferry_stops.specs.Tells.{TellsNothing}
use Rattle.ferry_store.proofs.StepLemmas.{here_each}

pub returns-in_err-from_slice-clause-works : goal.returns-in_err-from_slice-clause-works
returns-in_err-from_slice-clause-works g c =
    let store = c.args.store.now in
    let name = c.args.name.now in
    let time = time_of (option_copied c.args.timestamp) (repo_view store.repo).manifest in
    let a = g.D.Shelf.told c.args.depot.now in
    let n = g.D.Shelf.faults c.args.depot.now in
    err_is c.from_residual.result Carry.Memory
    (λ (r : Result ℕ CarryFault). Works (DeletesSound name time store) (λ count. Deletes name time store store count) a a n n r) c.from_residual.ensures.1
    (works_here name time store (λ (count : ℕ). Deletes name time store store count) a n Carry.Memory refl)

pub returns-in_err-from_slice-clause-untold : goal.returns-in_err-from_slice-clause-untold
returns-in_err-from_slice-clause-untold g c = here_each TellsNothing (g.D.Shelf.told c.args.depot.now) (λ h. refl)

pub returns-then-not-has-clause-works : goal.returns-then-not-has-clause-works
returns-then-not-has-clause-works g c =
    let store = c.args.store.now in
    let name = c.args.name.now in
    let time = time_of (option_copied c.args.timestamp) (repo_view store.repo).manifest in
    works_here name time store (λ (count : ℕ). Deletes name time store store count) (g.D.Shelf.told c.args.depot.now) (g.D.Shelf.faults c.args.depot.now)
    (Carry.NotFound c.new-missing.result) refl

pub returns-then-not-has-clause-untold : goal.returns-then-not-has-clause-untold
returns-then-not-has-clause-untold g c = here_each TellsNothing (g.D.Shelf.told c.args.depot.now) (λ h. refl)

pub returns-then-not-has-clause-keeps : goal.returns-then-not-has-clause-keeps
returns-then-not-has-clause-keeps g c work =
    here_each (LeavesCommitted c.args.store.now) (g.D.Shelf.told c.args.depot.now) (leaves_here c.args.store.now)

pub returns-in_err-going-clause-works : goal.returns-in_err-going-clause-works
returns-in_err-going-clause-works g c =
    let store = c.args.store.now in
    let read = c.read_going.new.store in
    let name = c.args.name.now in
    let time = time_of (option_copied c.args.timestamp) (repo_view store.repo).manifest in
    let a = g.D.Shelf.told c.args.depot.now in
    let b = g.D.Shelf.told c.read_going.new.depot in
    let n = g.D.Shelf.faults c.args.depot.now in
    let m = g.D.Shelf.faults c.read_going.new.depot in
    let refusal = c.in_err-going.field-0.0 in
    err_is c.from_residual-in_err-going.result (target_fault refusal)
    (λ (r : Result ℕ CarryFault). Works (DeletesSound name time store) (λ count. Deletes name time store read count) a b n m r)
    c.from_residual-in_err-going.ensures.1
    (works_unread name time store _ (λ (count : ℕ). Deletes name time store read count) a b n m refusal c.in_err-going.ensures.untold
    c.in_err-going.ensures.did)

pub returns-in_err-time-clause-works : goal.returns-in_err-time-clause-works
returns-in_err-time-clause-works g c =
    let store = c.args.store.now in
    let read = c.read_going.new.store in
    let name = c.args.name.now in
    let time = time_of (option_copied c.args.timestamp) (repo_view store.repo).manifest in
    let a = g.D.Shelf.told c.args.depot.now in
    let b = g.D.Shelf.told c.read_going.new.depot in
    let n = g.D.Shelf.faults c.args.depot.now in
    let m = g.D.Shelf.faults c.read_going.new.depot in
    err_is c.from_residual-in_err-time.result Carry.Memory
    (λ (r : Result ℕ CarryFault). Works (DeletesSound name time store) (λ count. Deletes name time store read count) a b n m r)
    c.from_residual-in_err-time.ensures.1
    (works_memory name time store _ (λ (count : ℕ). Deletes name time store read count) a b n m c.in_ok-going.going c.in_ok-going.ensures.did)

pub returns-in_err-delete_with-clause-works : goal.returns-in_err-delete_with-clause-works
returns-in_err-delete_with-clause-works g c =
    let store = c.args.store.now in
    let read = c.read_going.new.store in
    let last = c.delete_with.new.store in
    let name = c.args.name.now in
    let time = time_of (option_copied c.args.timestamp) (repo_view store.repo).manifest in
    let ids = c.deref-2.result.now in
    let a = g.D.Shelf.told c.args.depot.now in
    let b = g.D.Shelf.told c.read_going.new.depot in
    let d = g.D.Shelf.told c.delete_with.new.depot in
    let n = g.D.Shelf.faults c.args.depot.now in
    let m = g.D.Shelf.faults c.read_going.new.depot in
    let k = g.D.Shelf.faults c.delete_with.new.depot in
    let refusal = c.in_err-delete_with.field-0.0 in
    let same = c.in_ok-going.ensures.read.repo in
    let time_is : c.deref.result.now ≡ time =
    c.deref.ensures.value ∙ (c.in_ok-time.ensures.time ∙ ap (λ (r : RepoState). time_of (option_copied c.args.timestamp) r.manifest) same) in
    let read_ids = did_at name (λ v. v.items) ids store read a b n m c.in_ok-going.going c.deref-2.ensures.value c.in_ok-going.ensures.did in
    err_is c.from_residual-in_err-delete_with.result (target_fault refusal)
    (λ (r : Result ℕ CarryFault). Works (DeletesSound name time store) (λ count. Deletes name time store last count) a d n k r)
    c.from_residual-in_err-delete_with.ensures.1
    (subst (λ (t : List ℕ). Works (DeletesSound name t store) (λ count. Deletes name t store last count) a d n k (Err (target_fault refusal))) time_is
    (works_undone name c.deref.result.now store read last ids same a b d n m k c.in_ok-going.going refusal
    (untold_then a b d c.in_ok-going.ensures.untold c.delete_with.ensures.untold) read_ids c.in_err-delete_with.ensures.did))

pub returns-in_err-delete_with-clause-untold : goal.returns-in_err-delete_with-clause-untold
returns-in_err-delete_with-clause-untold g c =
    untold_then (g.D.Shelf.told c.args.depot.now) (g.D.Shelf.told c.read_going.new.depot) (g.D.Shelf.told c.delete_with.new.depot)
    c.in_ok-going.ensures.untold c.delete_with.ensures.untold

pub returns-in_err-delete_with-clause-keeps : goal.returns-in_err-delete_with-clause-keeps
returns-in_err-delete_with-clause-keeps g c =
    let store = c.args.store.now in
    let read = c.read_going.new.store in
    let last = c.delete_with.new.store in
    let name = c.args.name.now in
    let ids = c.deref-2.result.now in
    let a = g.D.Shelf.told c.args.depot.now in
    let b = g.D.Shelf.told c.read_going.new.depot in
    let d = g.D.Shelf.told c.delete_with.new.depot in
    let n = g.D.Shelf.faults c.args.depot.now in
    let m = g.D.Shelf.faults c.read_going.new.depot in
    let refusal = c.in_err-delete_with.field-0.0 in
    let read_ids = did_at name (λ v. v.items) ids store read a b n m c.in_ok-going.going c.deref-2.ensures.value c.in_ok-going.ensures.did in
    err_is c.from_residual-in_err-delete_with.result (target_fault refusal)
    (λ (r : Result ℕ CarryFault). IfErr r (λ (fault : CarryFault). IsOfWork fault → Between a d (LeavesCommitted store)))
    c.from_residual-in_err-delete_with.ensures.1
    (λ work.
    keeps_behind name c.deref.result.now store read last ids c.in_ok-going.ensures.read.repo a b d n m c.in_ok-going.going refusal read_ids
    c.in_err-delete_with.ensures.keeps work)

pub returns-clause-works : goal.returns-clause-works
returns-clause-works g c =
    let store = c.args.store.now in
    let read = c.read_going.new.store in
    let last = c.delete_with.new.store in
    let name = c.args.name.now in
    let time = time_of (option_copied c.args.timestamp) (repo_view store.repo).manifest in
    let ids = c.deref-2.result.now in
    let a = g.D.Shelf.told c.args.depot.now in
    let b = g.D.Shelf.told c.read_going.new.depot in
    let d = g.D.Shelf.told c.delete_with.new.depot in
    let n = g.D.Shelf.faults c.args.depot.now in
    let m = g.D.Shelf.faults c.read_going.new.depot in
    let k = g.D.Shelf.faults c.delete_with.new.depot in
    let same = c.in_ok-going.ensures.read.repo in
    let time_is : c.deref.result.now ≡ time =
    c.deref.ensures.value ∙ (c.in_ok-time.ensures.time ∙ ap (λ (r : RepoState). time_of (option_copied c.args.timestamp) r.manifest) same) in
    let read_ids = did_at name (λ v. v.items) ids store read a b n m c.in_ok-going.going c.deref-2.ensures.value c.in_ok-going.ensures.did in
    let count_is : c.len.result ≡ length c.in_ok-going.going.items = search rules in
    subst (λ (t : List ℕ). Works (DeletesSound name t store) (λ count. Deletes name t store last count) a d n k (Ok c.len.result)) time_is
    (works_done name c.deref.result.now store read last ids same a b d n m k c.in_ok-going.going tt c.len.result
    (count_is ∙ ap (λ (l : List (List ℕ)). length l) (sym c.deref-2.ensures.value))
    (untold_then a b d c.in_ok-going.ensures.untold c.in_ok-delete_with.ensures.untold) read_ids c.in_ok-delete_with.ensures.did)

pub returns-clause-untold : goal.returns-clause-untold
returns-clause-untold g c =
    untold_then (g.D.Shelf.told c.args.depot.now) (g.D.Shelf.told c.read_going.new.depot) (g.D.Shelf.told c.delete_with.new.depot)
    c.in_ok-going.ensures.untold c.in_ok-delete_with.ensures.untold

pub returns-in_err-delete_with-clause-refused : goal.returns-in_err-delete_with-clause-refused
returns-in_err-delete_with-clause-refused g c =
    let store = c.args.store.now in
    let read = c.read_going.new.store in
    let name = c.args.name.now in
    let repo = repo_view store.repo in
    let time = time_of (option_copied c.args.timestamp) repo.manifest in
    let ids = c.deref-2.result.now in
    let a = g.D.Shelf.told c.args.depot.now in
    let b = g.D.Shelf.told c.read_going.new.depot in
    let d = g.D.Shelf.told c.delete_with.new.depot in
    let n = g.D.Shelf.faults c.args.depot.now in
    let m = g.D.Shelf.faults c.read_going.new.depot in
    let refusal = c.in_err-delete_with.field-0.0 in
    let same = c.in_ok-going.ensures.read.repo in
    let time_is : c.deref.result.now ≡ time =
    c.deref.ensures.value ∙ (c.in_ok-time.ensures.time ∙ ap (λ (r : RepoState). time_of (option_copied c.args.timestamp) r.manifest) same) in
    let read_ids = did_at name (λ v. v.items) ids store read a b n m c.in_ok-going.going c.deref-2.ensures.value c.in_ok-going.ensures.did in
    let named : IsNamed repo name = search rules in
    let refused : RefusesWith repo name time d refusal = subst (λ (t : List ℕ). RefusesWith repo name t d refusal) time_is
    (subst (λ (r : RepoState). RefusesWith r name c.deref.result.now d refusal) same c.in_err-delete_with.ensures.refused) in
    let stops : IfSome d (λ t. StopsAt t.history.start (told_files t) repo.keys refusal) =
    subst (λ (r : RepoState). IfSome d (λ t. StopsAt t.history.start (told_files t) r.keys refusal)) same c.in_err-delete_with.ensures.stops in
    err_is c.from_residual-in_err-delete_with.result (target_fault refusal)
    (λ (r : Result ℕ CarryFault). IfErr r (λ (f : CarryFault). IfSome a (λ t. RefusesDelete (told_files t) repo name time d f)))
    c.from_residual-in_err-delete_with.ensures.1
    (delete_refused a d repo name time named refusal (all_read store read name ids a b read_ids.end) refused stops)

pub returns-in_err-from_slice-clause-unwritten : goal.returns-in_err-from_slice-clause-unwritten
returns-in_err-from_slice-clause-unwritten g c =
    let a = g.D.Shelf.told c.args.depot.now in
    err_is c.from_residual.result Carry.Memory (λ (r : Result ℕ CarryFault). IfErr r (λ (f : CarryFault). IsOfReading f → Between a a (λ h g. g ≡ h)))
    c.from_residual.ensures.1 (λ of. absurd of)

pub returns-then-not-has-clause-unwritten : goal.returns-then-not-has-clause-unwritten
returns-then-not-has-clause-unwritten g c of = here_each (λ h g. g ≡ h) (g.D.Shelf.told c.args.depot.now) (λ h. refl)

pub returns-in_err-going-clause-unwritten : goal.returns-in_err-going-clause-unwritten
returns-in_err-going-clause-unwritten g c =
    let a = g.D.Shelf.told c.args.depot.now in
    let b = g.D.Shelf.told c.read_going.new.depot in
    err_is c.from_residual-in_err-going.result (target_fault c.in_err-going.field-0.0)
    (λ (r : Result ℕ CarryFault). IfErr r (λ (f : CarryFault). IsOfReading f → Between a b (λ h g. g ≡ h)))
    c.from_residual-in_err-going.ensures.1 (λ of. c.in_err-going.ensures.same)

pub returns-in_err-time-clause-unwritten : goal.returns-in_err-time-clause-unwritten
returns-in_err-time-clause-unwritten g c =
    let a = g.D.Shelf.told c.args.depot.now in
    let b = g.D.Shelf.told c.read_going.new.depot in
    err_is c.from_residual-in_err-time.result Carry.Memory
    (λ (r : Result ℕ CarryFault). IfErr r (λ (f : CarryFault). IsOfReading f → Between a b (λ h g. g ≡ h)))
    c.from_residual-in_err-time.ensures.1 (λ of. absurd of)

pub returns-in_err-delete_with-clause-unwritten : goal.returns-in_err-delete_with-clause-unwritten
returns-in_err-delete_with-clause-unwritten g c =
    let a = g.D.Shelf.told c.args.depot.now in
    let b = g.D.Shelf.told c.read_going.new.depot in
    let d = g.D.Shelf.told c.delete_with.new.depot in
    let read = c.read_going.new.store in
    let refusal = c.in_err-delete_with.field-0.0 in
    err_is c.from_residual-in_err-delete_with.result (target_fault refusal)
    (λ (r : Result ℕ CarryFault). IfErr r (λ (f : CarryFault). IsOfReading f → Between a d (λ h g. g ≡ h)))
    c.from_residual-in_err-delete_with.ensures.1
    (λ of. told_never TellsNothing (λ h g. g ≡ h) a b d c.in_ok-going.ensures.untold c.in_err-delete_with.ensures.untold
    (writing_never (repo_view read.repo) c.args.name.now c.deref.result.now (repo_view read.repo).keys d refusal c.in_err-delete_with.ensures.refused
    c.in_err-delete_with.ensures.stops of))
