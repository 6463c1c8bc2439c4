use Rattle.ferry_store.specs.Types.{FitsMode}
use Rattle.std.proofs.Common.{rules, inl, refl, ◌≡◌, ◌≢◌, false, ◌+◌, ◌++◌, ℕ, List, Ok, Err, Result, drop, length, IfErr, OnOk, option_map, ap, ◌∙◌, IfSome}
use Rattle.std.proofs.Common.{sym, subst}
use Rattle.std.proofs.Common.{arith, subst, [], ◌∷◌}
use Rattle.ferry_base.specs.Limits.{zero_id}
use Rattle.ferry_blob.specs.Blob.{OpensTo, sealed}
use Rattle.ferry_blob.specs.declared.mode.Mode.{Mode}
use Rattle.ferry_disk.specs.Act.{History}
use Rattle.ferry_disk.specs.Moments.{Between}
use Rattle.ferry_log.specs.declared.place.Place.{Place}
use Rattle.ferry_mac.specs.declared.keys.Keys.{Keys}
use Rattle.ferry_manifest.specs.Manifest.Text.{manifest_view}
use Rattle.ferry_manifest.specs.Manifest.Writing.{manifest_text}
use Rattle.ferry_repo.specs.Opening.{mode_of, repo_view}
use Rattle.ferry_segment.specs.Entry.{PutEntry, CommitEntry}
use Rattle.ferry_stops.proofs.TellLemmas.{told_both, told_none}
use Rattle.ferry_store.proofs.CauseLemmas.{packed_stops, put_stops}
use Rattle.ferry_store.proofs.LimitLemmas.{manifest_uncommitted_at, manifest_unpacked, manifest_unput_at, nothing_done}
use Rattle.ferry_store.proofs.RenewLemmas.{manifest_held, nothing_committed, packed_refused, put_commits, put_refused, still_packed}
use Rattle.ferry_store.proofs.RenewLemmas.{uncommitted_refused, unput_refused}
use Rattle.ferry_store.proofs.StepLemmas.{err_is, here_each}
use Rattle.ferry_store.proofs.commit.commit_manifest.Goals as goal
use Rattle.ferry_store.specs.Causes.{Stops}
use Rattle.ferry_store.specs.Commit.{CommitsEntry, HasCommitted, RefusesManifestOf, manifest_entry}
use Rattle.ferry_store.specs.Content.{blob_for}
use Rattle.ferry_store.proofs.PutLemmas.{always, keeps_here}
use Rattle.ferry_store.specs.Fault.{depot_failed}
use Rattle.ferry_store.specs.Limits.{LeavesBoth, LimitsManifest, BeginsFew}
use Rattle.ferry_store.specs.New.{IsPacked}
use Rattle.ferry_store.specs.Standing.{with_manifest}
use Rattle.ferry_store.specs.State.{Did, KeepsSound, RefusesManifest, TakesEntry}
use Rattle.ferry_store.specs.declared.fault.StoreRefusal.{StoreRefusal}
use Rattle.ferry_store.specs.declared.fault.StoreRefusal.TheVariants.{Memory}
use Rattle.ferry_store.proofs.FewLemmas.{IsUsedUp, few_same, few_then, few_unpacked}
use Rattle.ferry_store.proofs.WritingLemmas.{OpensNamed, manifest_writes, none_writes, uncommitted_writes}

pub returns-in_err-buffer-clause-committed : goal.returns-in_err-buffer-clause-committed
returns-in_err-buffer-clause-committed g c =
    let a = g.D.Shelf.told c.args.depot.now in
    let n = g.D.Shelf.faults c.args.depot.now in
    let made = c.in_err-buffer.ensures.made in
    let salt = made.0 in
    let f = c.in_err-buffer.field-0.0 in
    let repo = repo_view c.args.repo.now in
    let manifest = manifest_view c.args.manifest.now in
    let session = c.args.session.now in
    let counter = c.args.counter.now in
    let entry = manifest_entry repo counter manifest salt in
    let next = with_manifest repo manifest in
    let size = length (manifest_text repo.keys salt manifest) in
    let refused : RefusesManifest size f =
    subst (λ (k : Keys). RefusesManifest (length (manifest_text k salt manifest)) f) c.keys.ensures.keys made.1.3 in
    let R : Unit {0} → History → History → Type 0 = λ _. HasCommitted next session counter entry session counter in (
      salt,
      (
        made.1.0,
        err_is c.from_residual.result f
            (λ (r : Result (Unit {0}) StoreRefusal). OnOk r
            (g.E.Entropy.drawn c.packed.new.entropy ≡ option_map (λ (d : List ℕ). d ++ salt) (g.E.Entropy.drawn c.args.entropy.now)))
            c.from_residual.ensures.1 tt,
        err_is c.from_residual.result f (λ (r : Result (Unit {0}) StoreRefusal). Did (CommitsEntry next session counter entry) R a a n n r)
            c.from_residual.ensures.1 (nothing_committed {T = Unit {0}} next session counter entry R a n f (still_packed size f refused)),
        err_is c.from_residual.result f (λ (r : Result (Unit {0}) StoreRefusal). IfErr r (RefusesManifestOf counter size)) c.from_residual.ensures.1
            (packed_refused counter size f refused),
        err_is c.from_residual.result f (λ (r : Result (Unit {0}) StoreRefusal). LimitsManifest r session counter size) c.from_residual.ensures.1
            (manifest_unpacked session counter size f refused),
      ),
    )

pub returns-in_err-put_object-clause-committed : goal.returns-in_err-put_object-clause-committed
returns-in_err-put_object-clause-committed g c =
    let a = g.D.Shelf.told c.args.depot.now in
    let b = g.D.Shelf.told c.put_object.new.depot in
    let n = g.D.Shelf.faults c.args.depot.now in
    let m = g.D.Shelf.faults c.put_object.new.depot in
    let made = c.in_ok-buffer.ensures.made in
    let salt = made.0 in
    let f = c.in_err-put_object.field-0.0 in
    let repo = repo_view c.args.repo.now in
    let manifest = manifest_view c.args.manifest.now in
    let session = c.args.session.now in
    let counter = c.args.counter.now in
    let put = c.put_object.new.session in
    let drawn = c.put_object.new.counter in
    let text = manifest_text repo.keys salt manifest in
    let entry = manifest_entry repo counter manifest salt in
    let next = with_manifest repo manifest in
    let buffer = c.deref_mut.result.now in
    let packed = subst (λ (k : Keys). IsPacked k salt manifest c.in_ok-buffer.buffer.items) c.keys.ensures.keys made.1.2 in
    let is : buffer ≡ c.in_ok-buffer.buffer.items = search rules in
    let inside : drop 43 buffer ≡ text = ap (drop 43) is ∙ packed.0 in
    let size : length buffer ≡ 43 + length text = ap length is ∙ packed.1 in
    let keys = c.keys-2.result.now in
    let mode = c.mode-mode.result in
    let same : sealed keys mode counter.free (drop 43 buffer) ≡ blob_for repo counter text =
    ap (λ (k : Keys). sealed k mode counter.free (drop 43 buffer)) c.keys-2.ensures.keys
    ∙ (ap (λ (x : Mode). sealed repo.keys x counter.free (drop 43 buffer)) c.mode-mode.ensures.mode
    ∙ ap (λ (x : List ℕ). sealed repo.keys (mode_of repo.config) counter.free x) inside) in
    let R : Unit {0} → History → History → Type 0 = λ _. HasCommitted next session counter entry put drawn in
    let Q : Place → History → History → Type 0 = λ _. TakesEntry session counter entry put drawn in
    let did : Did {T = Place} (KeepsSound session counter) Q a b n m (Err f) =
    subst (λ (x : List ℕ). Did {T = Place} (KeepsSound session counter) (λ _. TakesEntry session counter (PutEntry zero_id x) put drawn) a b n m (Err f)) same
    c.in_err-put_object.ensures.did in (
      salt,
      (
        made.1.0,
        err_is c.from_residual-in_err-put_object.result f
            (λ (r : Result (Unit {0}) StoreRefusal). OnOk r
            (g.E.Entropy.drawn c.packed.new.entropy ≡ option_map (λ (d : List ℕ). d ++ salt) (g.E.Entropy.drawn c.args.entropy.now)))
            c.from_residual-in_err-put_object.ensures.1 tt,
        err_is c.from_residual-in_err-put_object.result f
            (λ (r : Result (Unit {0}) StoreRefusal). Did (CommitsEntry next session counter entry) R a b n m r)
            c.from_residual-in_err-put_object.ensures.1 (put_refused next session counter entry Q R a b n m f did),
        err_is c.from_residual-in_err-put_object.result f
            (λ (r : Result (Unit {0}) StoreRefusal). IfErr r (RefusesManifestOf counter (length text))) c.from_residual-in_err-put_object.ensures.1
            (unput_refused session counter (length text) (length buffer) f size c.in_err-put_object.ensures.refused c.in_err-put_object.ensures.exhausted),
        err_is c.from_residual-in_err-put_object.result f
            (λ (r : Result (Unit {0}) StoreRefusal). LimitsManifest r session counter (length text)) c.from_residual-in_err-put_object.ensures.1
            (manifest_unput_at session counter (length text) f (length buffer) size packed.3 c.in_err-put_object.ensures.refused
            c.in_err-put_object.ensures.limits),
      ),
    )

pub returns-clause-committed : goal.returns-clause-committed
returns-clause-committed g c =
    let a = g.D.Shelf.told c.args.depot.now in
    let b = g.D.Shelf.told c.put_object.new.depot in
    let d = g.D.Shelf.told c.commit.new.depot in
    let n = g.D.Shelf.faults c.args.depot.now in
    let m = g.D.Shelf.faults c.put_object.new.depot in
    let k = g.D.Shelf.faults c.commit.new.depot in
    let made = c.in_ok-buffer.ensures.made in
    let salt = made.0 in
    let repo = repo_view c.args.repo.now in
    let manifest = manifest_view c.args.manifest.now in
    let session = c.args.session.now in
    let counter = c.args.counter.now in
    let put = c.put_object.new.session in
    let drawn = c.put_object.new.counter in
    let done = c.commit.new.session in
    let place = c.in_ok-put_object.field-0 in
    let text = manifest_text repo.keys salt manifest in
    let entry = manifest_entry repo counter manifest salt in
    let next = with_manifest repo manifest in
    let buffer = c.deref_mut.result.now in
    let packed = subst (λ (x : Keys). IsPacked x salt manifest c.in_ok-buffer.buffer.items) c.keys.ensures.keys made.1.2 in
    let is : buffer ≡ c.in_ok-buffer.buffer.items = search rules in
    let inside : drop 43 buffer ≡ text = ap (drop 43) is ∙ packed.0 in
    let keys = c.keys-2.result.now in
    let mode = c.mode-mode.result in
    let blob = sealed keys mode counter.free (drop 43 buffer) in
    let same : blob ≡ blob_for repo counter text =
    ap (λ (x : Keys). sealed x mode counter.free (drop 43 buffer)) c.keys-2.ensures.keys
    ∙ (ap (λ (x : Mode). sealed repo.keys x counter.free (drop 43 buffer)) c.mode-mode.ensures.mode
    ∙ ap (λ (x : List ℕ). sealed repo.keys (mode_of repo.config) counter.free x) inside) in
    let did = subst (λ (x : List ℕ). Did {T = Place} (KeepsSound session counter) (λ _. TakesEntry session counter (PutEntry zero_id x) put drawn) a b n m
    (Ok place)) same c.in_ok-put_object.ensures.did in
    let opens : OpensTo repo.keys zero_id (blob_for repo counter text) text =
    subst (λ (x : List ℕ). OpensTo repo.keys zero_id x text) same
    (subst (λ (x : List ℕ). OpensTo repo.keys zero_id blob x) inside
    (subst (λ (x : Keys). OpensTo x zero_id blob (drop 43 buffer)) c.keys-2.ensures.keys (c.in_ok-put_object.ensures.opens zero_id (inl refl)))) in
    let held = manifest_held repo counter manifest salt opens packed.2 in
    let r = c.commit.result in (
      salt,
      (
        made.1.0,
        always (g.E.Entropy.drawn c.packed.new.entropy ≡ option_map (λ (x : List ℕ). x ++ salt) (g.E.Entropy.drawn c.args.entropy.now)) r made.1.1,
        put_commits next session put done counter drawn entry blob place (41 + length buffer) a b d n m k r held c.in_ok-put_object.ensures.session
            c.commit.ensures.session did c.in_ok-put_object.ensures.placed (c.commit.ensures.did drawn),
        uncommitted_refused put counter (length text) r c.commit.ensures.refused,
        manifest_uncommitted_at session counter (length text) put r place (length buffer) (ap length is ∙ packed.1) packed.3
            c.in_ok-put_object.ensures.session c.in_ok-put_object.ensures.limits c.commit.ensures.numbers c.commit.ensures.refused,
      ),
    )

pub returns-in_err-buffer-clause-untold : goal.returns-in_err-buffer-clause-untold
returns-in_err-buffer-clause-untold g c = told_none (g.D.Shelf.told c.args.depot.now)

pub returns-clause-untold : goal.returns-clause-untold
returns-clause-untold g c =
    told_both (g.D.Shelf.told c.args.depot.now) (g.D.Shelf.told c.put_object.new.depot) (g.D.Shelf.told c.commit.new.depot)
    c.in_ok-put_object.ensures.untold c.commit.ensures.untold

pub returns-in_err-buffer-clause-stops : goal.returns-in_err-buffer-clause-stops
returns-in_err-buffer-clause-stops g c =
    let a = g.D.Shelf.told c.args.depot.now in
    let made = c.in_err-buffer.ensures.made in
    let f = c.in_err-buffer.field-0.0 in
    let session = c.args.session.now in
    let counter = c.args.counter.now in
    err_is c.from_residual.result f (λ (r : Result (Unit {0}) StoreRefusal). IfErr r (λ x. Between a a (Stops session counter x))) c.from_residual.ensures.1
    (packed_stops session counter _ f a made.1.3)

pub returns-clause-stops : goal.returns-clause-stops
returns-clause-stops g c =
    let a = g.D.Shelf.told c.args.depot.now in
    let b = g.D.Shelf.told c.put_object.new.depot in
    let d = g.D.Shelf.told c.commit.new.depot in
    let n = g.D.Shelf.faults c.args.depot.now in
    let m = g.D.Shelf.faults c.put_object.new.depot in
    let drawn = c.put_object.new.counter in
    put_stops {T = Place} {U = Unit {0}} c.args.session.now c.put_object.new.session c.args.counter.now drawn _ c.in_ok-put_object.field-0 a b d n m
    c.commit.result c.in_ok-put_object.ensures.did (c.commit.ensures.stops drawn)

pub returns-in_err-buffer-clause-leaves : goal.returns-in_err-buffer-clause-leaves
returns-in_err-buffer-clause-leaves g c =
    let a = g.D.Shelf.told c.args.depot.now in
    let session = c.args.session.now in
    let counter = c.args.counter.now in
    err_is c.from_residual.result c.in_err-buffer.field-0.0
    (λ (r : Result (Unit {0}) StoreRefusal). IfErr r (LeavesBoth session counter session counter a a)) c.from_residual.ensures.1
    (λ still. (refl, (refl, nothing_done a)))

pub returns-in_err-buffer-clause-keeps : goal.returns-in_err-buffer-clause-keeps
returns-in_err-buffer-clause-keeps g c =
    let a = g.D.Shelf.told c.args.depot.now in
    let session = c.args.session.now in
    let counter = c.args.counter.now in
    err_is c.from_residual.result c.in_err-buffer.field-0.0
    (λ (r : Result (Unit {0}) StoreRefusal). IfErr r (λ f. depot_failed f ≡ false → f ≢ Memory → Between a a (KeepsSound session counter)))
    c.from_residual.ensures.1 (λ still apart. here_each (KeepsSound session counter) a (keeps_here session counter))

pub returns-in_err-buffer-clause-few : goal.returns-in_err-buffer-clause-few
returns-in_err-buffer-clause-few g c =
    let last = c.args.session.now.last in
    let f = c.in_err-buffer.field-0.0 in
    err_is c.from_residual.result f (λ (r : Result (Unit {0}) StoreRefusal). BeginsFew 2 last last (IsUsedUp {T = Unit {0}} r)) c.from_residual.ensures.1
    (few_unpacked {T = Unit {0}} 2 _ last f c.in_err-buffer.ensures.made.1.3)

pub returns-in_err-put_object-clause-few : goal.returns-in_err-put_object-clause-few
returns-in_err-put_object-clause-few g c =
    let last = c.args.session.now.last in
    let now = c.put_object.new.session.last in
    let f = c.in_err-put_object.field-0.0 in
    err_is c.from_residual-in_err-put_object.result f (λ (r : Result (Unit {0}) StoreRefusal). BeginsFew 2 last now (IsUsedUp {T = Unit {0}} r))
    c.from_residual-in_err-put_object.ensures.1
    (few_same {T = Place} {U = Unit {0}} 1 2 last now f (omega arith) c.in_err-put_object.ensures.few)

pub returns-clause-few : goal.returns-clause-few
returns-clause-few g c =
    few_then 1 1 c.args.session.now.last c.put_object.new.session.last c.commit.new.session.last _ _ c.in_ok-put_object.ensures.few c.commit.ensures.few

pub returns-in_err-buffer-clause-writes : goal.returns-in_err-buffer-clause-writes
returns-in_err-buffer-clause-writes g c =
    ([], none_writes (Unit {0}) (PutEntry zero_id [] ∷ (CommitEntry ∷ [])) c.args.session.now c.args.counter.now (g.D.Shelf.told c.args.depot.now))

pub returns-in_err-put_object-clause-writes : goal.returns-in_err-put_object-clause-writes
returns-in_err-put_object-clause-writes g c =
    let counter = c.args.counter.now in
    let keys = c.keys-2.result.now in
    let content = drop 43 c.deref_mut.result.now in
    let blob = sealed keys c.mode-mode.result counter.free content in (
      blob,
      uncommitted_writes (OpensNamed keys blob content) blob c.args.session.now counter (g.D.Shelf.told c.args.depot.now)
          (g.D.Shelf.told c.put_object.new.depot) c.in_err-put_object.ensures.writes,
    )

pub returns-clause-writes : goal.returns-clause-writes
returns-clause-writes g c =
    let counter = c.args.counter.now in
    let drawn = c.put_object.new.counter in
    let keys = c.keys-2.result.now in
    let content = drop 43 c.deref_mut.result.now in
    let blob = sealed keys c.mode-mode.result counter.free content in (
      blob,
      manifest_writes {T = Place} (OpensNamed keys blob content) blob c.args.session.now c.put_object.new.session counter drawn
          c.in_ok-put_object.field-0 (g.D.Shelf.told c.args.depot.now) (g.D.Shelf.told c.put_object.new.depot) (g.D.Shelf.told c.commit.new.depot)
          (g.D.Shelf.faults c.args.depot.now) (g.D.Shelf.faults c.put_object.new.depot) c.in_ok-put_object.ensures.writes c.in_ok-put_object.ensures.did
          (c.commit.ensures.writes drawn),
    )

pub put_object-requires-clause-mode : goal.put_object-requires-clause-mode
put_object-requires-clause-mode g c =
    subst (λ (k : Mode). IfSome (g.D.Shelf.told c.args.depot.now) (λ t. FitsMode t.history k)) (sym c.mode-mode.ensures.mode) c.requires.mode
