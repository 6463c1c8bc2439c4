use Rattle.ferry_repo.specs.Fault.{repo_failed}
use Rattle.std.proofs.Common.{Global, List, Result, Vec, ℕ, ◌∙◌, ap, subst, IfErr, IfSome}
use Rattle.ferry_disk.specs.Device.{told_files}
use Rattle.ferry_repo.specs.Opening.{RepoState, repo_view}
use Rattle.ferry_store.proofs.StepLemmas.{err_is, same_told}
use Rattle.ferry_store.specs.Fault.{repo_refusal}
use Rattle.ferry_store.specs.State.{Did}
use Rattle.ferry_store.specs.declared.fault.StoreRefusal.{StoreRefusal}
use Rattle.ferry_store.specs.declared.store.Store.{Store}
use Rattle.ferry_refs.specs.DeleteSteps.{ReadsGoing, RefusesGoing}
use Rattle.ferry_refs.specs.Deleting.{AreGoing, LeavesCommitted}
use Rattle.ferry_refs.specs.Refs.{RefusesRefs}
use Rattle.ferry_refs.proofs.ReadLemmas.{did_read, did_unread, fits_then, refuses_going, untold_read}
use Rattle.ferry_refs.proofs.deleting.read_going.Goals as goal

pub returns-in_err-going-clause-did : goal.returns-in_err-going-clause-did
returns-in_err-going-clause-did g c =
    let store = c.args.store.now in
    let now : Store = record store { repo = c.going_ids.new.repo } in
    let a = g.D.Shelf.told c.args.depot.now in
    let b = g.D.Shelf.told c.going_ids.new.shelf in
    let n = g.D.Shelf.faults c.args.depot.now in
    let m = g.D.Shelf.faults c.going_ids.new.shelf in
    let fault = c.in_err-going.field-0.0 in
    err_is c.from_residual.result (repo_refusal fault)
    (λ (r : Result (Vec (List ℕ) Global) StoreRefusal). Did (LeavesCommitted store) (λ ids. ReadsGoing c.args.name.now ids.items store now) a b n m r)
    c.from_residual.ensures.1
    (did_unread {U = Vec (List ℕ) Global} (Vec (List ℕ) Global) (λ ids. ReadsGoing c.args.name.now ids.items store now) store a b n m fault
    c.in_err-going.ensures.same c.in_err-going.ensures.cause)

pub returns-in_err-going-clause-untold : goal.returns-in_err-going-clause-untold
returns-in_err-going-clause-untold g c =
    untold_read {T = Vec (List ℕ) Global} (g.D.Shelf.told c.args.depot.now) (g.D.Shelf.told c.going_ids.new.shelf) c.going_ids.result
    c.going_ids.ensures.same

pub returns-in_err-going-clause-refused : goal.returns-in_err-going-clause-refused
returns-in_err-going-clause-refused g c =
    let told = g.D.Shelf.told c.args.depot.now in
    let repo = repo_view c.args.store.now.repo in
    let fault = c.in_err-going.field-0.0 in
    err_is c.from_residual.result (repo_refusal fault)
    (λ (r : Result (Vec (List ℕ) Global) StoreRefusal). IfErr r (RefusesGoing told repo)) c.from_residual.ensures.1
    (refuses_going told repo fault (λ of.
    subst (λ (s : RepoState). IfSome told (λ t. RefusesRefs (told_files t) s fault)) (ap repo_view c.repo.ensures.repo)
    (c.in_err-going.ensures.refused of)))

pub returns-clause-did : goal.returns-clause-did
returns-clause-did g c =
    let store = c.args.store.now in
    let a = g.D.Shelf.told c.args.depot.now in
    did_read {T = Vec (List ℕ) Global} c.args.name.now (λ ids. ids.items) store c.going_ids.new.repo a (g.D.Shelf.told c.going_ids.new.shelf)
    (g.D.Shelf.faults c.args.depot.now) (g.D.Shelf.faults c.going_ids.new.shelf) c.in_ok-going.going
    (c.going_ids.ensures.kept ∙ ap repo_view c.repo.ensures.repo) c.in_ok-going.ensures.same c.in_ok-going.ensures.cause c.going_ids.ensures.fits
    (subst (λ (r : RepoState). IfSome a (λ t. AreGoing (told_files t) r c.args.name.now c.in_ok-going.going.items)) (ap repo_view c.repo.ensures.repo)
    c.in_ok-going.ensures.going)

pub returns-clause-untold : goal.returns-clause-untold
returns-clause-untold g c =
    untold_read {T = Vec (List ℕ) Global} (g.D.Shelf.told c.args.depot.now) (g.D.Shelf.told c.going_ids.new.shelf) c.going_ids.result
    c.going_ids.ensures.same

pub returns-clause-fits : goal.returns-clause-fits
returns-clause-fits g c =
    fits_then {T = Vec (List ℕ) Global} c.args.store.now c.going_ids.new.repo (g.D.Shelf.told c.args.depot.now) (g.D.Shelf.told c.going_ids.new.shelf)
    c.going_ids.result (c.going_ids.ensures.kept ∙ ap repo_view c.repo.ensures.repo) c.going_ids.ensures.same c.going_ids.ensures.fits c.requires.fits

pub returns-in_err-going-clause-same : goal.returns-in_err-going-clause-same
returns-in_err-going-clause-same g c =
    same_told {T = Vec (List ℕ) Global} repo_failed (g.D.Shelf.told c.args.depot.now) (g.D.Shelf.told c.going_ids.new.shelf) c.going_ids.result
    c.going_ids.ensures.same

pub returns-clause-same : goal.returns-clause-same
returns-clause-same g c =
    same_told {T = Vec (List ℕ) Global} repo_failed (g.D.Shelf.told c.args.depot.now) (g.D.Shelf.told c.going_ids.new.shelf) c.going_ids.result
    c.going_ids.ensures.same
