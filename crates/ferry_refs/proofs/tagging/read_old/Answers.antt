use Rattle.ferry_repo.specs.Fault.{repo_failed}
use Rattle.std.proofs.Common.{Result, IfErr, IfSome, ◌∙◌, ap, subst}
use Rattle.ferry_disk.specs.Device.{told_files}
use Rattle.ferry_repo.specs.Opening.{RepoState, repo_view}
use Rattle.ferry_store.proofs.StepLemmas.{err_is, same_told}
use Rattle.ferry_store.specs.Fault.{repo_refusal}
use Rattle.ferry_store.specs.State.{Did}
use Rattle.ferry_store.specs.declared.fault.StoreRefusal.{StoreRefusal}
use Rattle.ferry_store.specs.declared.store.Store.{Store}
use Rattle.ferry_refs.proofs.ReadLemmas.{did_unread, fits_then, refuses_going, untold_read}
use Rattle.ferry_refs.proofs.TaggingLemmas.{did_old}
use Rattle.ferry_refs.proofs.tagging.read_old.Goals as goal
use Rattle.ferry_refs.specs.DeleteSteps.{RefusesGoing}
use Rattle.ferry_refs.specs.Deleting.{LeavesCommitted}
use Rattle.ferry_refs.specs.Refs.{RefusesRefs}
use Rattle.ferry_refs.specs.TagSteps.{ReadsOld, olds_view}
use Rattle.ferry_refs.specs.Tagging.{AreFreed, AreOld}
use Rattle.ferry_refs.specs.declared.untagged.OldRecords.{OldRecords}

pub returns-in_err-old-clause-did : goal.returns-in_err-old-clause-did
returns-in_err-old-clause-did g c =
    let store = c.args.store.now in
    let now : Store = record store { repo = c.old_records.new.repo } in
    let a = g.D.Shelf.told c.args.depot.now in
    let b = g.D.Shelf.told c.old_records.new.shelf in
    let n = g.D.Shelf.faults c.args.depot.now in
    let m = g.D.Shelf.faults c.old_records.new.shelf in
    let fault = c.in_err-old.field-0.0 in
    err_is c.from_residual.result (repo_refusal fault)
    (λ (r : Result OldRecords StoreRefusal). Did (LeavesCommitted store) (λ old. ReadsOld (olds_view old.untagged.items) old.freed.items store now) a b n m r)
    c.from_residual.ensures.1
    (did_unread {U = OldRecords} OldRecords (λ old. ReadsOld (olds_view old.untagged.items) old.freed.items store now) store a b n m fault
    c.in_err-old.ensures.same c.in_err-old.ensures.cause)

pub returns-in_err-old-clause-untold : goal.returns-in_err-old-clause-untold
returns-in_err-old-clause-untold g c =
    untold_read {T = OldRecords} (g.D.Shelf.told c.args.depot.now) (g.D.Shelf.told c.old_records.new.shelf) c.old_records.result c.old_records.ensures.same

pub returns-in_err-old-clause-refused : goal.returns-in_err-old-clause-refused
returns-in_err-old-clause-refused g c =
    let told = g.D.Shelf.told c.args.depot.now in
    let repo = repo_view c.args.store.now.repo in
    let fault = c.in_err-old.field-0.0 in
    err_is c.from_residual.result (repo_refusal fault) (λ (r : Result OldRecords StoreRefusal). IfErr r (RefusesGoing told repo)) c.from_residual.ensures.1
    (refuses_going told repo fault (λ of.
    subst (λ (s : RepoState). IfSome told (λ t. RefusesRefs (told_files t) s fault)) (ap repo_view c.repo.ensures.repo)
    (c.in_err-old.ensures.refused of)))

pub returns-clause-did : goal.returns-clause-did
returns-clause-did g c =
    let store = c.args.store.now in
    let a = g.D.Shelf.told c.args.depot.now in
    let old = c.in_ok-old.old in
    let same = ap repo_view c.repo.ensures.repo in
    did_old {T = OldRecords} (λ old. olds_view old.untagged.items) (λ old. old.freed.items) store c.old_records.new.repo a
    (g.D.Shelf.told c.old_records.new.shelf) (g.D.Shelf.faults c.args.depot.now) (g.D.Shelf.faults c.old_records.new.shelf) old
    (c.old_records.ensures.kept ∙ same) c.in_ok-old.ensures.same c.in_ok-old.ensures.cause c.old_records.ensures.fits
    (subst (λ (r : RepoState). IfSome a (λ t. AreOld (told_files t) r r.manifest.archives (olds_view old.untagged.items))) same c.in_ok-old.ensures.old)
    (subst (λ (r : RepoState). IfSome a (λ t. AreFreed (told_files t) r old.freed.items)) same c.in_ok-old.ensures.freed)

pub returns-clause-untold : goal.returns-clause-untold
returns-clause-untold g c =
    untold_read {T = OldRecords} (g.D.Shelf.told c.args.depot.now) (g.D.Shelf.told c.old_records.new.shelf) c.old_records.result c.old_records.ensures.same

pub returns-clause-fits : goal.returns-clause-fits
returns-clause-fits g c =
    fits_then {T = OldRecords} c.args.store.now c.old_records.new.repo (g.D.Shelf.told c.args.depot.now) (g.D.Shelf.told c.old_records.new.shelf)
    c.old_records.result (c.old_records.ensures.kept ∙ ap repo_view c.repo.ensures.repo) c.old_records.ensures.same c.old_records.ensures.fits c.requires.fits

pub returns-in_err-old-clause-same : goal.returns-in_err-old-clause-same
returns-in_err-old-clause-same g c =
    same_told {T = OldRecords} repo_failed (g.D.Shelf.told c.args.depot.now) (g.D.Shelf.told c.old_records.new.shelf) c.old_records.result
    c.old_records.ensures.same

pub returns-clause-same : goal.returns-clause-same
returns-clause-same g c =
    same_told {T = OldRecords} repo_failed (g.D.Shelf.told c.args.depot.now) (g.D.Shelf.told c.old_records.new.shelf) c.old_records.result
    c.old_records.ensures.same
