use Rattle.std.proofs.Common.{◌≡◌, ℕ, List, [], ◌∷◌, Result, IfErr, IfOk, IfSome, refl, sym, subst}
use Rattle.ferry_blob.specs.Blob.{content_id}
use Rattle.ferry_disk.proofs.DeviceLemmas.{told_any}
use Rattle.ferry_mac.specs.declared.keys.Keys.{Keys}
use Rattle.ferry_manifest.specs.Record.Text.{archive_view}
use Rattle.ferry_piece.proofs.AddedLemmas.{AddedSo}
use Rattle.ferry_piece.proofs.WorkLemmas.{err_is, works_err, works_nothing, works_ok}
use Rattle.ferry_piece.specs.Fault.{target_fault}
use Rattle.ferry_piece.specs.Work.{Works}
use Rattle.ferry_piece.specs.declared.fault.CarryFault.{CarryFault}
use Rattle.ferry_repo.specs.Opening.{repo_view}
use Rattle.ferry_stops.specs.Tells.{TellsNothing}
use Rattle.ferry_store.proofs.StepLemmas.{here_each}
use Rattle.ferry_store.proofs.UseLemmas.{fits_added}
use Rattle.ferry_store.specs.Adding.{Adds}
use Rattle.ferry_store.specs.State.{KeepsSound}
use Rattle.ferry_store.specs.declared.content.Added.{Added}
use Rattle.ferry_refs.proofs.AddLemmas.{keeps_leaves, new_refused, renewal_refused, renewal_still}
use Rattle.ferry_refs.proofs.DropLemmas.{leaves_here}
use Rattle.ferry_refs.proofs.RenewLemmas.{added_repo, text_adds}
use Rattle.ferry_refs.proofs.renewing.add_record.Goals as goal
use Rattle.ferry_refs.specs.Deleting.{LeavesCommitted}
use Rattle.ferry_refs.specs.TagSteps.{AddsTexts, RefusesNewRecord}
use Rattle.ferry_refs.specs.Tagging.{DrawsRenewal}

pub returns-in_err-text-clause-added : goal.returns-in_err-text-clause-added
returns-in_err-text-clause-added g c =
    let store = c.args.store.now in
    let keys = (repo_view store.repo).keys in
    let a = g.D.Shelf.told c.args.depot.now in
    let n = g.D.Shelf.faults c.args.depot.now in
    let fault = c.in_err-text.field-0.0 in (
      [],
      (
        err_is c.from_residual.result fault
            (λ (r : Result (List ℕ) CarryFault). Works (LeavesCommitted store) (λ _. AddsTexts ([] ∷ []) store store) a a n n r)
            c.from_residual.ensures.1
            (works_nothing (LeavesCommitted store) (λ (_ : List ℕ). AddsTexts ([] ∷ []) store store) a n fault
            (renewal_still c.keys.result.now (archive_view c.args.archive.now) fault c.in_err-text.ensures.refused) (leaves_here store)),
        err_is c.from_residual.result fault
            (λ (r : Result (List ℕ) CarryFault). IfOk r (λ id. DrawsRenewal keys (archive_view c.args.archive.now) [] (g.E.Entropy.drawn c.args.entropy.now)
            (g.E.Entropy.drawn c.tagged_text.new.entropy) × (id ≡ content_id keys [])))
            c.from_residual.ensures.1 tt,
      ),
    )

pub returns-in_err-text-clause-untold : goal.returns-in_err-text-clause-untold
returns-in_err-text-clause-untold g c = here_each TellsNothing (g.D.Shelf.told c.args.depot.now) (λ h. refl)

pub returns-in_err-text-clause-refused : goal.returns-in_err-text-clause-refused
returns-in_err-text-clause-refused g c =
    let a = g.D.Shelf.told c.args.depot.now in
    let keys = (repo_view c.args.store.now.repo).keys in
    let archive = archive_view c.args.archive.now in
    let drawn = g.E.Entropy.drawn c.args.entropy.now in
    let drawn_now = g.E.Entropy.drawn c.tagged_text.new.entropy in
    let fault = c.in_err-text.field-0.0 in
    err_is c.from_residual.result fault
    (λ (r : Result (List ℕ) CarryFault). IfErr r (λ (f : CarryFault). IfSome a (λ _. RefusesNewRecord keys archive drawn drawn_now a f)))
    c.from_residual.ensures.1
    (told_any a (λ f. RefusesNewRecord keys archive drawn drawn_now a fault)
    (λ f. subst (λ (k : Keys). RefusesNewRecord k archive drawn drawn_now a fault) c.keys.ensures.keys
    (renewal_refused c.keys.result.now archive drawn drawn_now a fault c.in_err-text.ensures.refused)))

pub returns-in_err-added-clause-added : goal.returns-in_err-added-clause-added
returns-in_err-added-clause-added g c =
    let store = c.args.store.now in
    let now = c.add.new.self in
    let keys = (repo_view store.repo).keys in
    let text = c.deref.result.now in
    let a = g.D.Shelf.told c.args.depot.now in
    let b = g.D.Shelf.told c.add.new.depot in
    let n = g.D.Shelf.faults c.args.depot.now in
    let m = g.D.Shelf.faults c.add.new.depot in
    let refusal = c.in_err-added.field-0.0 in (
      text,
      (
        err_is c.from_residual-in_err-added.result (target_fault refusal)
            (λ (r : Result (List ℕ) CarryFault). Works (LeavesCommitted store) (λ _. AddsTexts (text ∷ []) store now) a b n m r)
            c.from_residual-in_err-added.ensures.1
            (works_err {T = Added} (KeepsSound store.session store.counter) (Adds store text now) (LeavesCommitted store)
            (λ (_ : List ℕ). AddsTexts (text ∷ []) store now)
            a b n m refusal (λ h k _ keeps. keeps_leaves store h k keeps) c.add.ensures.untold
            c.in_err-added.ensures.did),
        err_is c.from_residual-in_err-added.result (target_fault refusal)
            (λ (r : Result (List ℕ) CarryFault). IfOk r (λ id. DrawsRenewal keys (archive_view c.args.archive.now) text (g.E.Entropy.drawn c.args.entropy.now)
            (g.E.Entropy.drawn c.tagged_text.new.entropy) × (id ≡ content_id keys text)))
            c.from_residual-in_err-added.ensures.1 tt,
      ),
    )

pub returns-in_err-added-clause-refused : goal.returns-in_err-added-clause-refused
returns-in_err-added-clause-refused g c =
    let store = c.args.store.now in
    let keys = (repo_view store.repo).keys in
    let archive = archive_view c.args.archive.now in
    let text = c.deref.result.now in
    let a = g.D.Shelf.told c.args.depot.now in
    let b = g.D.Shelf.told c.add.new.depot in
    let refusal = c.in_err-added.field-0.0 in
    let drawn = g.E.Entropy.drawn c.args.entropy.now in
    let drawn_now = g.E.Entropy.drawn c.tagged_text.new.entropy in
    let renewal : DrawsRenewal keys archive text drawn drawn_now =
    subst (λ (k : Keys). DrawsRenewal k archive text drawn drawn_now) c.keys.ensures.keys
    (subst (λ (t : List ℕ). DrawsRenewal c.keys.result.now archive t drawn drawn_now) (sym c.deref.ensures.value) c.in_ok-text.ensures.renewal) in
    err_is c.from_residual-in_err-added.result (target_fault refusal)
    (λ (r : Result (List ℕ) CarryFault). IfErr r (λ (f : CarryFault). IfSome a (λ _. RefusesNewRecord keys archive drawn drawn_now b f)))
    c.from_residual-in_err-added.ensures.1
    (new_refused store archive text drawn drawn_now b renewal a refusal c.in_err-added.ensures.refused c.in_err-added.ensures.stops)

pub returns-clause-added : goal.returns-clause-added
returns-clause-added g c =
    let store = c.args.store.now in
    let now = c.add.new.self in
    let keys = (repo_view store.repo).keys in
    let archive = archive_view c.args.archive.now in
    let text = c.deref.result.now in
    let a = g.D.Shelf.told c.args.depot.now in
    let b = g.D.Shelf.told c.add.new.depot in
    let n = g.D.Shelf.faults c.args.depot.now in
    let m = g.D.Shelf.faults c.add.new.depot in
    let added = c.in_ok-added.added in
    let so : AddedSo store text now added = record {
      id = c.in_ok-added.ensures.id;
      new = c.in_ok-added.ensures.new;
      known = c.in_ok-added.ensures.known;
      repo = c.in_ok-added.ensures.repo;
      opens = c.in_ok-added.ensures.opens;
      accepted = c.add.ensures.accepted;
    } in
    let drawn = g.E.Entropy.drawn c.args.entropy.now in
    let drawn_now = g.E.Entropy.drawn c.tagged_text.new.entropy in
    let renewal : DrawsRenewal keys archive text drawn drawn_now =
    subst (λ (k : Keys). DrawsRenewal k archive text drawn drawn_now) c.keys.ensures.keys
    (subst (λ (t : List ℕ). DrawsRenewal c.keys.result.now archive t drawn drawn_now) (sym c.deref.ensures.value) c.in_ok-text.ensures.renewal) in (
      text,
      (
        works_ok (KeepsSound store.session store.counter) (Adds store text now) (LeavesCommitted store) (λ (_ : List ℕ). AddsTexts (text ∷ []) store now)
            a b n m
            added added.id (λ h k _ keeps. keeps_leaves store h k keeps) (λ h k adds. text_adds store now text added h k so adds) c.add.ensures.untold
            c.in_ok-added.ensures.did,
        (renewal, c.in_ok-added.ensures.id),
      ),
    )

pub returns-clause-repo : goal.returns-clause-repo
returns-clause-repo g c = added_repo c.args.store.now c.add.new.self c.in_ok-added.added c.in_ok-added.ensures.repo

pub returns-clause-fits : goal.returns-clause-fits
returns-clause-fits g c =
    fits_added c.args.store.now c.add.new.self c.deref.result.now c.in_ok-added.added (g.D.Shelf.told c.args.depot.now) (g.D.Shelf.told c.add.new.depot)
    (g.D.Shelf.faults c.args.depot.now) (g.D.Shelf.faults c.add.new.depot) c.requires.fits c.in_ok-added.ensures.did
