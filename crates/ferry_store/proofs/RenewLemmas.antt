-- A manifest is put and committed.
use Rattle.std.proofs.Common.{◌≡◌, ◌↔◌, ◌<◌, ◌+◌, ◌-◌, inl, inr, ℕ, false, List, [], ◌∷◌, ◌++◌, OnOk, Option, Result, Ok, Err}
use Rattle.std.proofs.Common.{IfErr, IsErrOf, IsSome, refl, sym, ◌∙◌, ap, subst, arith, append_assoc}
use Rattle.std.specs.FinMap.{get}
use Rattle.ferry_base.specs.Limits.{zero_id}
use Rattle.ferry_blob.specs.Blob.{OpensTo, blocks}
use Rattle.ferry_disk.specs.Act.{History, files_now}
use Rattle.ferry_disk.specs.Device.{Told}
use Rattle.ferry_disk.specs.Files.{Files, segment_bytes}
use Rattle.ferry_disk.specs.Moments.{Between}
use Rattle.ferry_log.specs.State.{LogState}
use Rattle.ferry_log.specs.declared.place.Place.{Place}
use Rattle.ferry_manifest.specs.Manifest.Text.{ManifestText, manifest_of}
use Rattle.ferry_manifest.specs.Manifest.Writing.{manifest_text}
use Rattle.ferry_manifest.specs.declared.manifest.Manifest.{Manifest}
use Rattle.ferry_nonce.specs.Counter.{IsExhausted}
use Rattle.ferry_nonce.specs.declared.counter.Counter.{Counter}
use Rattle.ferry_nonce.specs.declared.fault.NonceFault.TheVariants as Nonces
use Rattle.ferry_repo.proofs.LearnLemmas.{renew_fits}
use Rattle.ferry_repo.specs.Opening.{FitsRepo, RepoState, cached_in, repo_view}
use Rattle.ferry_repo.specs.declared.repo.Repo.{Repo}
use Rattle.ferry_segment.specs.Entry.{LogEntry, PutEntry}
use Rattle.ferry_store.proofs.AddLemmas.{blobs_stay, repo_stays, there_kept}
use Rattle.ferry_store.proofs.CommitLemmas.{did_beside}
use Rattle.ferry_store.proofs.LearntLemmas.{learnt_nil}
use Rattle.ferry_store.proofs.LiveLemmas.{keeps_nil}
use Rattle.ferry_store.proofs.PutLemmas.{err_of, keeps_here}
use Rattle.ferry_store.proofs.StandingLemmas.{holds_later, live_renewed, manifest_renewed}
use Rattle.ferry_store.proofs.StepLemmas.{did_front, did_nothing, did_then, moments_map, moments_then}
use Rattle.ferry_store.specs.Commit.{Commits, CommitsEntry, HasCommitted, HoldsEntry, RefusesManifestOf, ShowsManifest, manifest_entry}
use Rattle.ferry_store.specs.Content.{IsThere, blob_for}
use Rattle.ferry_store.specs.Fault.{depot_failed}
use Rattle.ferry_store.specs.Standing.{CommitsManifest, HoldsLive, HoldsManifest, entries_committed, entries_of, with_manifest}
use Rattle.ferry_store.specs.State.{CommitsSound, Did, IsPlaced, IsSound, KeepsSound, RefusesCommit, RefusesManifest, RefusesPut, ShowsEither, TakesCommit}
use Rattle.ferry_store.specs.State.{ShowsStanding, TakesEntry, Written, all_committed, with_entry}
use Rattle.ferry_store.specs.Store.{IsKnown}
use Rattle.ferry_store.specs.Types.{ReadsSettings}
use Rattle.ferry_store.specs.declared.fault.StoreRefusal.{StoreRefusal}
use Rattle.ferry_store.specs.declared.fault.StoreRefusal.TheVariants.{Repo as RepoRefusal, Write, Nonce, Committed, TooLarge, Entropy, Memory}
use Rattle.ferry_store.specs.declared.store.Store.{Store}
use Rattle.ferry_write.specs.Room.{after_commit, after_entry, behind}
use Rattle.ferry_write.specs.Script.{AllDone}
use Rattle.ferry_write.specs.Session.{OnlyAppends, Stays}
use Rattle.ferry_write.specs.declared.session.Session.{Session}

-- ---- a manifest is put and committed

stays_then : (after now : Option ℕ) (h g i : History) → now ≡ after → Stays after h g → Stays now g i → Stays after h i
stays_then after now h g i same a b = record {
  below = λ n less. b.below n (subst (λ (x : Option ℕ). n < behind x) (sym same) less) ∙ a.below n less;
  longer = λ n.
      let p = a.longer n in
      let q = b.longer n in
      (p.0 ++ q.0, q.1 ∙ (ap (λ (x : List ℕ). x ++ q.0) p.1 ∙ append_assoc (segment_bytes (files_now h) n) p.0 q.0));
}

-- where the manifest is held once all is committed, it is held where that is shown
with_held : (next : RepoState) (written : Written) (image : Files) → HoldsManifest next (entries_committed written) → ShowsEither written image
    → ShowsManifest next written image
with_held next written image held (inl before) = inl before
with_held next written image held (inr all) = inr (all, held)

keeps_entry : (next : RepoState) (session : Session) (counter : Counter) (entry : LogEntry) (h g : History) → KeepsSound session counter h g
    → CommitsEntry next session counter entry h g
keeps_entry next session counter entry h g keeps counts written u =
    moments_map (IsSound (ShowsStanding written) counts) (IsSound (ShowsManifest next (with_entry written entry)) counts) h g
    (λ k s. record { shows = λ image left. inl (s.shows image left); traced = s.traced; numbers = s.numbers; types = s.types; fresh = s.fresh })
    (keeps counts written u)

entry_sound : (next : RepoState) (session put : Session) (counter drawn : Counter) (entry : LogEntry) (h g i : History)
    → HoldsEntry next entry → KeepsSound session counter h g → AllDone h g
    → TakesEntry session counter entry put drawn h g → CommitsSound put drawn g i → CommitsEntry next session counter entry h i
entry_sound next session put counter drawn entry h g i held keeps done takes commits counts written u =
    moments_then (IsSound (ShowsManifest next (with_entry written entry)) counts) h g i (keeps_entry next session counter entry h g keeps counts written u) done
    (moments_map (IsSound (ShowsEither (with_entry written entry)) counts) (IsSound (ShowsManifest next (with_entry written entry)) counts) g i
    (λ k s. record {
      shows = λ image left. with_held next (with_entry written entry) image (held written) (s.shows image left);
      traced = s.traced;
      numbers = s.numbers;
      types = s.types;
      fresh = s.fresh;
    })
    (commits counts (with_entry written entry) (takes counts written u)))

abbrev pub Puts : Session → Counter → LogEntry → List ℕ → Session → Counter → Place → History → History → Type 0
Puts session counter entry blob put drawn place h g = TakesEntry session counter entry put drawn h g × IsPlaced session counter blob place h g

abbrev pub CommitsAll : Session → Counter → Session → Unit {0} → History → History → Type 0
CommitsAll put drawn done x h g = TakesCommit put drawn done h g × OnlyAppends put h g

entry_committed : (next : RepoState) (session put done : Session) (counter drawn : Counter) (entry : LogEntry) (blob : List ℕ) (place : Place) (more : ℕ)
    (h g i : History) → HoldsEntry next entry → put ≡ after_entry session more → done ≡ after_commit put
    → Puts session counter entry blob put drawn place h g → CommitsAll put drawn done tt g i
    → HasCommitted next session counter entry done drawn h i
entry_committed next session put done counter drawn entry blob place more h g i held put_is done_is puts commits =
    let same = ap (λ (s : Session). s.after) put_is in
    record {
      takes = λ counts written u. commits.0 counts (with_entry written entry) (puts.0 counts written u);
      holds = held;
      stays = λ counts written u.
          stays_then session.after put.after h g i same (puts.1 counts written u).stays
          (commits.1 written.committed (written.pending ++ entry ∷ []) (puts.0 counts written u).fits);
      behind_it = λ counts written u.
          let order = (puts.0 counts written u).fits.order in
          let was = ap behind same in
          let is = ap (λ (s : Session). behind s.after) done_is in
          omega (arith, order, was, is);
    }

pub put_commits : (next : RepoState) (session put done : Session) (counter drawn : Counter) (entry : LogEntry) (blob : List ℕ) (place : Place) (more : ℕ)
    (a b c : Option Told) (n m k : ℕ) (r : Result (Unit {0}) StoreRefusal) → HoldsEntry next entry → put ≡ after_entry session more
    → OnOk r (done ≡ after_commit put)
    → Did {T = Place} (KeepsSound session counter) (λ _. TakesEntry session counter entry put drawn) a b n m (Ok place)
    → Between a b (IsPlaced session counter blob place) → Did {T = Unit {0}} (CommitsSound put drawn) (CommitsAll put drawn done) b c m k r
    → Did {T = Unit {0}} (CommitsEntry next session counter entry) (λ _. HasCommitted next session counter entry done drawn) a c n k r
put_commits next session put done counter drawn entry blob place more a b c n m k (Ok y) held put_is done_is p placed q =
    did_then {T = Place} {U = Unit {0}} (KeepsSound session counter) (λ _. Puts session counter entry blob put drawn place) (CommitsSound put drawn)
    (CommitsAll put drawn done) (CommitsEntry next session counter entry) (λ _. HasCommitted next session counter entry done drawn) a b c n m k place (Ok y)
    (λ h g i e d puts f. entry_sound next session put counter drawn entry h g i held e d puts.0 f)
    (λ z h g i puts f. entry_committed next session put done counter drawn entry blob place more h g i held put_is done_is puts f)
    (did_beside {T = Place} (KeepsSound session counter) (λ _. TakesEntry session counter entry put drawn) (IsPlaced session counter blob place) a b n m place
    placed p) q
put_commits next session put done counter drawn entry blob place more a b c n m k (Err f) held put_is done_is p placed q =
    did_front {T = Unit {0}} {U = Unit {0}} (CommitsEntry next session counter entry) (λ _ h g. Unit {0}) (CommitsEntry next session counter entry)
    (λ _. HasCommitted next session counter entry done drawn) a c n k f (λ h g e. e)
    (did_then {T = Place} {U = Unit {0}} (KeepsSound session counter) (λ _. Puts session counter entry blob put drawn place)
    (CommitsSound put drawn) (CommitsAll put drawn done) (CommitsEntry next session counter entry) (λ _ h g. Unit {0}) a b c n m k place (Err f)
    (λ h g i e d puts s. entry_sound next session put counter drawn entry h g i held e d puts.0 s) (λ z h g i puts s. tt)
    (did_beside {T = Place} (KeepsSound session counter) (λ _. TakesEntry session counter entry put drawn) (IsPlaced session counter blob place) a b n m place
    placed p) q)

-- a front of it, where the put was refused or no call was made
pub put_refused : (next : RepoState) (session : Session) (counter : Counter) (entry : LogEntry) (Q : Place → History → History → Type 0)
    (R : Unit {0} → History → History → Type 0)
    (a b : Option Told) (n m : ℕ) (f : StoreRefusal) → Did {T = Place} (KeepsSound session counter) Q a b n m (Err f)
    → Did {T = Unit {0}} (CommitsEntry next session counter entry) R a b n m (Err f)
put_refused next session counter entry Q R a b n m f p =
    did_front (KeepsSound session counter) Q (CommitsEntry next session counter entry) R a b n m f (keeps_entry next session counter entry) p

pub nothing_committed : {T : Type 0} (next : RepoState) (session : Session) (counter : Counter) (entry : LogEntry) (R : T → History → History → Type 0)
    (a : Option Told) (n : ℕ) (f : StoreRefusal) → depot_failed f ≡ false → Did {T = T} (CommitsEntry next session counter entry) R a a n n (Err f)
nothing_committed next session counter entry R a n f still =
    did_nothing (CommitsEntry next session counter entry) R a n f still
    (λ h. keeps_entry next session counter entry h h (keeps_here session counter h))

-- a manifest whose blob opens to bytes that read as it is held once it is put and committed
pub manifest_held : (repo : RepoState) (counter : Counter) (manifest : ManifestText) (salt : List ℕ)
    → OpensTo repo.keys zero_id (blob_for repo counter (manifest_text repo.keys salt manifest)) (manifest_text repo.keys salt manifest)
    → manifest_of repo.keys (manifest_text repo.keys salt manifest) ≡ Ok manifest
    → HoldsEntry (with_manifest repo manifest) (manifest_entry repo counter manifest salt)
manifest_held repo counter manifest salt opens reads written =
    manifest_renewed repo manifest (blob_for repo counter (manifest_text repo.keys salt manifest)) (manifest_text repo.keys salt manifest) written opens reads

-- why it isn't committed
pub packed_refused : (counter : Counter) (size : ℕ) (f : StoreRefusal) → RefusesManifest size f → RefusesManifestOf counter size f
packed_refused counter size TooLarge is = is
packed_refused counter size Entropy is = tt
packed_refused counter size Memory is = tt
packed_refused counter size (RepoRefusal fault) is = absurd is
packed_refused counter size (Write fault) is = absurd is
packed_refused counter size (Nonce fault) is = absurd is
packed_refused counter size Committed is = absurd is

pub still_packed : (size : ℕ) (f : StoreRefusal) → RefusesManifest size f → depot_failed f ≡ false
still_packed size TooLarge is = refl
still_packed size Entropy is = refl
still_packed size Memory is = refl
still_packed size (RepoRefusal fault) is = absurd is
still_packed size (Write fault) is = absurd is
still_packed size (Nonce fault) is = absurd is
still_packed size Committed is = absurd is

put_by : (session : Session) (counter : Counter) (size more : ℕ) (f : StoreRefusal) → RefusesPut session more f
    → (f ≡ Nonce Nonces.Exhausted → IsExhausted counter (blocks size)) → RefusesManifestOf counter size f
put_by session counter size more (Nonce Nonces.Exhausted) is exhausted = exhausted refl
put_by session counter size more (Nonce Nonces.Device) is exhausted = tt
put_by session counter size more (Nonce Nonces.Memory) is exhausted = absurd is
put_by session counter size more (Nonce Nonces.Missing) is exhausted = absurd is
put_by session counter size more (Nonce Nonces.Text) is exhausted = absurd is
put_by session counter size more (Write fault) is exhausted = tt
put_by session counter size more Memory is exhausted = tt
put_by session counter size more (RepoRefusal fault) is exhausted = absurd is
put_by session counter size more Committed is exhausted = absurd is
put_by session counter size more TooLarge is exhausted = absurd is
put_by session counter size more Entropy is exhausted = absurd is

pub unput_refused : (session : Session) (counter : Counter) (size length_of : ℕ) (f : StoreRefusal) → length_of ≡ 43 + size
    → RefusesPut session (41 + length_of) f
    → (IsErrOf {T = Place} (Err f) (Nonce Nonces.Exhausted) ↔ IsExhausted counter (blocks (length_of - 43))) → RefusesManifestOf counter size f
unput_refused session counter size length_of f is put exhausted =
    let inside : length_of - 43 ≡ size = omega (arith, is) in
    put_by session counter size (41 + length_of) f put
    (λ same. subst (λ (k : ℕ). IsExhausted counter (blocks k)) inside (exhausted.0 (ap (err_of {T = Place}) same)))

commit_by : (session : Session) (counter : Counter) (size : ℕ) (f : StoreRefusal) → RefusesCommit session f → RefusesManifestOf counter size f
commit_by session counter size (Write fault) is = tt
commit_by session counter size Memory is = tt
commit_by session counter size (RepoRefusal fault) is = absurd is
commit_by session counter size (Nonce fault) is = absurd is
commit_by session counter size Committed is = absurd is
commit_by session counter size TooLarge is = absurd is
commit_by session counter size Entropy is = absurd is

pub uncommitted_refused : (session : Session) (counter : Counter) (size : ℕ) (r : Result (Unit {0}) StoreRefusal) → IfErr r (RefusesCommit session)
    → IfErr r (RefusesManifestOf counter size)
uncommitted_refused session counter size (Ok x) is = tt
uncommitted_refused session counter size (Err f) is = commit_by session counter size f is

-- ---- the store

-- a store whose manifest was committed
abbrev pub with_commit : Store → Repo → Session → Counter → Manifest → Store
with_commit store repo session counter accepted =
    record store { repo = repo; session = session; counter = counter; accepted = accepted; pending = 0 }

known_committed : (store : Store) (repo : Repo) (session : Session) (counter : Counter) (accepted : Manifest) (id : List ℕ)
    → (repo_view repo).log ≡ (repo_view store.repo).log → IsKnown (with_commit store repo session counter accepted) id → IsKnown store id
known_committed store repo session counter accepted id same (inl zero) = inl zero
known_committed store repo session counter accepted id same (inr (inl put)) = inr (inl (subst (λ (l : LogState). IsSome (get l.learnt id)) same put))
known_committed store repo session counter accepted id same (inr (inr has)) = inr (inr has)

pub store_committed : (store : Store) (repo : Repo) (session : Session) (counter : Counter) (accepted : Manifest) (blob : List ℕ) (manifest : ManifestText)
    (h g : History) → repo_view repo ≡ with_manifest (repo_view store.repo) manifest → cached_in repo ≡ cached_in store.repo
    → HasCommitted (with_manifest (repo_view store.repo) manifest) store.session store.counter (PutEntry zero_id blob) session counter h g
    → Commits store (PutEntry zero_id blob) (with_commit store repo session counter accepted) h g
store_committed store repo session counter accepted blob manifest h g view cached done counts fits =
    let u = fits.under_way in
    let before = repo_view store.repo in
    let kept = done.stays counts fits.written u in
    let after = store.session.after in
    let next = with_entry fits.written (PutEntry zero_id blob) in
    let stay = blobs_stay after before.log h g kept in (
      record {
        written = all_committed next;
        under_way = done.takes counts fits.written u;
        settings = subst (λ (r : RepoState). ReadsSettings fits.written.config r.config) (sym view) fits.settings;
        repo = subst (FitsRepo (files_now g) (repo_view repo)) (sym cached)
            (subst (λ (r : RepoState). FitsRepo (files_now g) r (cached_in store.repo)) (sym view)
            (renew_fits (files_now g) before (cached_in store.repo) manifest
            (repo_stays after before (cached_in store.repo) h g fits.below kept fits.repo)));
        below = subst (λ (r : RepoState). r.log.transaction < behind session.after) (sym view)
            (let more = done.behind_it counts fits.written u in omega (arith, fits.below, more));
        there = λ id apart known.
            subst (λ (r : RepoState). IsThere (files_now g) r id) (sym view)
            (there_kept (files_now h) (files_now g) before (with_manifest before manifest) id refl stay
            (fits.there id apart (known_committed store repo session counter accepted id (ap (λ (r : RepoState). r.log) view) known)));
        holds = subst (λ (r : RepoState). HoldsLive (files_now g) r.log (entries_of (all_committed next))) (sym view)
            (holds_later (files_now h) (files_now g) before.log (entries_of fits.written) (entries_of (all_committed next)) fits.repo.log stay
            (λ id apart. live_renewed fits.written blob id apart) fits.holds);
        manifest = subst (λ (r : RepoState). CommitsManifest r (all_committed next).committed) (sym view)
            (record { entries = entries_committed next; is = refl; holds = done.holds fits.written });
        keeps = keeps_nil (entries_committed next);
        pending = refl;
        chunks = tt;
        learnt = learnt_nil (all_committed next) (repo_view repo).log refl;
      },
      refl,
    )
