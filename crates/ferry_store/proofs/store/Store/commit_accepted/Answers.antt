use Rattle.ferry_store.proofs.TypeLemmas.{writing_mode}
use Rattle.std.proofs.Common.{◌≡◌, ◌++◌, ℕ, List, Ok, Err, Result, replicate, length, IfErr, OnOk, option_map, refl, sym, ap, subst, arith, [], ◌∷◌}
use Rattle.ferry_disk.specs.Act.{History}
use Rattle.ferry_disk.specs.Moments.{Between}
use Rattle.ferry_manifest.specs.Manifest.Text.{ManifestText}
use Rattle.ferry_manifest.specs.Manifest.Writing.{manifest_text}
use Rattle.ferry_manifest.specs.declared.manifest.Manifest.{Manifest}
use Rattle.ferry_next.specs.Next.{written_at}
use Rattle.ferry_repo.specs.Opening.{repo_view}
use Rattle.ferry_stops.proofs.TellLemmas.{told_none}
use Rattle.ferry_stops.specs.Tells.{TellsNothing}
use Rattle.ferry_store.proofs.CauseLemmas.{memory_stops}
use Rattle.ferry_store.proofs.LimitLemmas.{manifest_err_as, manifest_memory, manifest_ok_as}
use Rattle.ferry_store.proofs.RenewLemmas.{nothing_committed}
use Rattle.ferry_store.proofs.StepLemmas.{did_as, did_front, err_is}
use Rattle.ferry_store.proofs.store.Store.commit_accepted.Goals as goal
use Rattle.ferry_store.specs.Causes.{Stops}
use Rattle.ferry_store.specs.Commit.{CommitsEntry, HasCommitted, RefusesManifestOf, accepted_in, manifest_entry}
use Rattle.ferry_store.specs.Fault.{depot_failed}
use Rattle.ferry_store.specs.Limits.{LimitsManifest, BeginsFew}
use Rattle.ferry_store.specs.Standing.{with_manifest}
use Rattle.ferry_store.specs.State.{Did}
use Rattle.ferry_store.specs.declared.fault.StoreRefusal.{StoreRefusal}
use Rattle.ferry_store.specs.declared.fault.StoreRefusal.TheVariants.{Memory}
use Rattle.ferry_store.proofs.FewLemmas.{IsUsedUp, few_answered, few_memory, few_same}
use Rattle.ferry_store.proofs.WritingLemmas.{none_writes}
use Rattle.ferry_base.specs.Limits.{zero_id}
use Rattle.ferry_segment.specs.Entry.{PutEntry, CommitEntry}

pub returns-in_err-manifest-clause-committed : goal.returns-in_err-manifest-clause-committed
returns-in_err-manifest-clause-committed g c =
    let a = g.D.Shelf.told c.args.depot.now in
    let n = g.D.Shelf.faults c.args.depot.now in
    let store = c.args.self.now in
    let salt = replicate 64 0 in
    let f = c.in_err-manifest.field-0.0 in
    let repo = repo_view store.repo in
    let manifest = written_at (accepted_in store) c.args.timestamp.now in
    let entry = manifest_entry repo store.counter manifest salt in
    let size = length (manifest_text repo.keys salt manifest) in
    let next = with_manifest repo manifest in
    let E = CommitsEntry next store.session store.counter entry in
    let R : Manifest × List ℕ → History → History → Type 0 = λ _. HasCommitted next store.session store.counter entry store.session store.counter in (
      salt,
      (
        refl,
        err_is c.from_residual.result f
            (λ (r : Result (Manifest × List ℕ) StoreRefusal). OnOk r
            (g.E.Entropy.drawn c.args.entropy.now ≡ option_map (λ (d : List ℕ). d ++ salt) (g.E.Entropy.drawn c.args.entropy.now)))
            c.from_residual.ensures.1 tt,
        err_is c.from_residual.result f (λ (r : Result (Manifest × List ℕ) StoreRefusal). Did E R a a n n r) c.from_residual.ensures.1
            (nothing_committed {T = Manifest × List ℕ} next store.session store.counter entry R a n f (ap depot_failed c.in_err-manifest.ensures.refused)),
        err_is c.from_residual.result f (λ (r : Result (Manifest × List ℕ) StoreRefusal). IfErr r (RefusesManifestOf store.counter size))
            c.from_residual.ensures.1 (subst (RefusesManifestOf store.counter size) (sym c.in_err-manifest.ensures.refused) tt),
        err_is c.from_residual.result f (λ (r : Result (Manifest × List ℕ) StoreRefusal). LimitsManifest r store.session store.counter size)
            c.from_residual.ensures.1 (manifest_memory store.session store.counter size f c.in_err-manifest.ensures.refused),
      ),
    )

pub returns-in_err-from_slice-clause-committed : goal.returns-in_err-from_slice-clause-committed
returns-in_err-from_slice-clause-committed g c =
    let a = g.D.Shelf.told c.args.depot.now in
    let n = g.D.Shelf.faults c.args.depot.now in
    let store = c.args.self.now in
    let salt = replicate 64 0 in
    let repo = repo_view store.repo in
    let manifest = written_at (accepted_in store) c.args.timestamp.now in
    let entry = manifest_entry repo store.counter manifest salt in
    let size = length (manifest_text repo.keys salt manifest) in
    let next = with_manifest repo manifest in
    let E = CommitsEntry next store.session store.counter entry in
    let R : Manifest × List ℕ → History → History → Type 0 = λ _. HasCommitted next store.session store.counter entry store.session store.counter in
    let refused = c.from_residual-in_err-from_slice.ensures.1 in (
      salt,
      (
        refl,
        err_is c.from_residual-in_err-from_slice.result Memory
            (λ (r : Result (Manifest × List ℕ) StoreRefusal). OnOk r
            (g.E.Entropy.drawn c.args.entropy.now ≡ option_map (λ (d : List ℕ). d ++ salt) (g.E.Entropy.drawn c.args.entropy.now)))
            refused tt,
        err_is c.from_residual-in_err-from_slice.result Memory (λ (r : Result (Manifest × List ℕ) StoreRefusal). Did E R a a n n r) refused
            (nothing_committed {T = Manifest × List ℕ} next store.session store.counter entry R a n Memory refl),
        err_is c.from_residual-in_err-from_slice.result Memory
            (λ (r : Result (Manifest × List ℕ) StoreRefusal). IfErr r (RefusesManifestOf store.counter size)) refused tt,
        err_is c.from_residual-in_err-from_slice.result Memory
            (λ (r : Result (Manifest × List ℕ) StoreRefusal). LimitsManifest r store.session store.counter size) refused
            (manifest_memory store.session store.counter size Memory refl),
      ),
    )

pub returns-clause-committed : goal.returns-clause-committed
returns-clause-committed g c =
    let a = g.D.Shelf.told c.args.depot.now in
    let b = g.D.Shelf.told c.commit_manifest.new.depot in
    let n = g.D.Shelf.faults c.args.depot.now in
    let m = g.D.Shelf.faults c.commit_manifest.new.depot in
    let store = c.args.self.now in
    let repo = repo_view store.repo in
    let made = c.in_ok-commit_manifest.ensures.committed in
    let salt = made.0 in
    let session = c.commit_manifest.new.session in
    let counter = c.commit_manifest.new.counter in
    let E : ManifestText → History → History → Type 0 = λ x. CommitsEntry (with_manifest repo x) store.session store.counter
    (manifest_entry repo store.counter x salt) in
    let R : ManifestText → History → History → Type 0 =
    λ x. HasCommitted (with_manifest repo x) store.session store.counter (manifest_entry repo store.counter x salt) session counter in
    let size_of : ManifestText → ℕ = λ x. length (manifest_text repo.keys salt x) in
    let written = written_at (accepted_in store) c.args.timestamp.now in (
      salt,
      (
        made.1.0,
        made.1.1,
        did_as (E written) (λ _. R written) (E written) (λ _. R written) a b n m c.in_ok-commit_manifest.field-0 _ (λ h k e. e)
            (λ h k e. e)
            (subst (λ (x : ManifestText). Did {T = Unit {0}} (E x) (λ _. R x) a b n m (Ok c.in_ok-commit_manifest.field-0)) c.in_ok-manifest.ensures.manifest
            made.1.2),
        tt,
        manifest_ok_as store.session store.counter (size_of written) c.in_ok-commit_manifest.field-0 _
            (subst (λ (x : ManifestText). LimitsManifest {T = Unit {0}} (Ok c.in_ok-commit_manifest.field-0) store.session store.counter (size_of x))
            c.in_ok-manifest.ensures.manifest made.1.4),
      ),
    )

pub returns-in_err-commit_manifest-clause-committed : goal.returns-in_err-commit_manifest-clause-committed
returns-in_err-commit_manifest-clause-committed g c =
    let a = g.D.Shelf.told c.args.depot.now in
    let b = g.D.Shelf.told c.commit_manifest.new.depot in
    let n = g.D.Shelf.faults c.args.depot.now in
    let m = g.D.Shelf.faults c.commit_manifest.new.depot in
    let store = c.args.self.now in
    let repo = repo_view store.repo in
    let made = c.in_err-commit_manifest.ensures.committed in
    let salt = made.0 in
    let f = c.in_err-commit_manifest.field-0.0 in
    let session = c.commit_manifest.new.session in
    let counter = c.commit_manifest.new.counter in
    let size_of : ManifestText → ℕ = λ x. length (manifest_text repo.keys salt x) in
    let E : ManifestText → History → History → Type 0 = λ x. CommitsEntry (with_manifest repo x) store.session store.counter
    (manifest_entry repo store.counter x salt) in
    let R : ManifestText → History → History → Type 0 =
    λ x. HasCommitted (with_manifest repo x) store.session store.counter (manifest_entry repo store.counter x salt) session counter in
    let written = written_at (accepted_in store) c.args.timestamp.now in
    let same = c.in_ok-manifest.ensures.manifest in
    let refused = c.from_residual-in_err-commit_manifest.ensures.1 in (
      salt,
      (
        made.1.0,
        err_is c.from_residual-in_err-commit_manifest.result f
            (λ (r : Result (Manifest × List ℕ) StoreRefusal). OnOk r
            (g.E.Entropy.drawn c.commit_manifest.new.entropy ≡ option_map (λ (d : List ℕ). d ++ salt) (g.E.Entropy.drawn c.args.entropy.now)))
            refused tt,
        err_is c.from_residual-in_err-commit_manifest.result f
            (λ (r : Result (Manifest × List ℕ) StoreRefusal). Did (E written) (λ _. R written) a b n m r) refused
            (did_front (E written) (λ (x : Unit {0}). R written) (E written) (λ (x : Manifest × List ℕ). R written) a b n m f (λ h k e. e)
            (subst (λ (x : ManifestText). Did {T = Unit {0}} (E x) (λ _. R x) a b n m (Err f)) same made.1.2)),
        err_is c.from_residual-in_err-commit_manifest.result f
            (λ (r : Result (Manifest × List ℕ) StoreRefusal). IfErr r (RefusesManifestOf store.counter (size_of written))) refused
            (subst (λ (x : ManifestText). RefusesManifestOf store.counter (size_of x) f) same made.1.3),
        err_is c.from_residual-in_err-commit_manifest.result f
            (λ (r : Result (Manifest × List ℕ) StoreRefusal). LimitsManifest r store.session store.counter (size_of written)) refused
            (manifest_err_as {T = Unit {0}} store.session store.counter (size_of written) f
            (subst (λ (x : ManifestText). LimitsManifest {T = Unit {0}} (Err f) store.session store.counter (size_of x)) same made.1.4)),
      ),
    )

pub returns-in_err-manifest-clause-untold : goal.returns-in_err-manifest-clause-untold
returns-in_err-manifest-clause-untold g c = told_none (g.D.Shelf.told c.args.depot.now)

pub returns-in_err-manifest-clause-stops : goal.returns-in_err-manifest-clause-stops
returns-in_err-manifest-clause-stops g c =
    let a = g.D.Shelf.told c.args.depot.now in
    let store = c.args.self.now in
    let f = c.in_err-manifest.field-0.0 in
    err_is c.from_residual.result f (λ (r : Result (Manifest × List ℕ) StoreRefusal). IfErr r (λ x. Between a a (Stops store.session store.counter x)))
    c.from_residual.ensures.1 (memory_stops store.session store.counter f TellsNothing a a c.in_err-manifest.ensures.refused (told_none a))

pub returns-in_err-from_slice-clause-untold : goal.returns-in_err-from_slice-clause-untold
returns-in_err-from_slice-clause-untold g c = told_none (g.D.Shelf.told c.args.depot.now)

pub returns-in_err-from_slice-clause-stops : goal.returns-in_err-from_slice-clause-stops
returns-in_err-from_slice-clause-stops g c =
    let a = g.D.Shelf.told c.args.depot.now in
    let store = c.args.self.now in
    err_is c.from_residual-in_err-from_slice.result Memory
    (λ (r : Result (Manifest × List ℕ) StoreRefusal). IfErr r (λ x. Between a a (Stops store.session store.counter x)))
    c.from_residual-in_err-from_slice.ensures.1 (memory_stops store.session store.counter Memory TellsNothing a a refl (told_none a))

pub returns-in_err-manifest-clause-few : goal.returns-in_err-manifest-clause-few
returns-in_err-manifest-clause-few g c =
    let last = c.args.self.now.session.last in
    let f = c.in_err-manifest.field-0.0 in
    err_is c.from_residual.result f (λ (r : Result (Manifest × List ℕ) StoreRefusal). BeginsFew 2 last last (IsUsedUp {T = Manifest × List ℕ} r))
    c.from_residual.ensures.1 (few_memory {T = Manifest × List ℕ} 2 last last f c.in_err-manifest.ensures.refused refl)

pub returns-in_err-from_slice-clause-few : goal.returns-in_err-from_slice-clause-few
returns-in_err-from_slice-clause-few g c =
    let last = c.args.self.now.session.last in
    err_is c.from_residual-in_err-from_slice.result Memory
    (λ (r : Result (Manifest × List ℕ) StoreRefusal). BeginsFew 2 last last (IsUsedUp {T = Manifest × List ℕ} r))
    c.from_residual-in_err-from_slice.ensures.1 (few_memory {T = Manifest × List ℕ} 2 last last Memory refl refl)

pub returns-in_err-commit_manifest-clause-few : goal.returns-in_err-commit_manifest-clause-few
returns-in_err-commit_manifest-clause-few g c =
    let last = c.args.self.now.session.last in
    let now = c.commit_manifest.new.session.last in
    let f = c.in_err-commit_manifest.field-0.0 in
    err_is c.from_residual-in_err-commit_manifest.result f
    (λ (r : Result (Manifest × List ℕ) StoreRefusal). BeginsFew 2 last now (IsUsedUp {T = Manifest × List ℕ} r))
    c.from_residual-in_err-commit_manifest.ensures.1
    (few_same {T = Unit {0}} {U = Manifest × List ℕ} 2 2 last now f (omega arith) c.in_err-commit_manifest.ensures.few)

pub returns-clause-few : goal.returns-clause-few
returns-clause-few g c =
    few_answered {T = Unit {0}} {U = Manifest × List ℕ} 2 c.args.self.now.session.last c.commit_manifest.new.session.last
    (Ok c.in_ok-commit_manifest.field-0) _ c.in_ok-commit_manifest.ensures.few

pub returns-in_err-manifest-clause-writes : goal.returns-in_err-manifest-clause-writes
returns-in_err-manifest-clause-writes g c =
    let store = c.args.self.now in
    ([], none_writes (Unit {0}) (PutEntry zero_id [] ∷ (CommitEntry ∷ [])) store.session store.counter (g.D.Shelf.told c.args.depot.now))

pub returns-in_err-from_slice-clause-writes : goal.returns-in_err-from_slice-clause-writes
returns-in_err-from_slice-clause-writes g c =
    let store = c.args.self.now in
    ([], none_writes (Unit {0}) (PutEntry zero_id [] ∷ (CommitEntry ∷ [])) store.session store.counter (g.D.Shelf.told c.args.depot.now))

pub commit_manifest-requires-clause-mode : goal.commit_manifest-requires-clause-mode
commit_manifest-requires-clause-mode g c = writing_mode c.args.self.now (g.D.Shelf.told c.args.depot.now) c.requires.fits
