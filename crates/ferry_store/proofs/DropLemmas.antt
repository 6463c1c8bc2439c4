-- A store from which chunks are dropped.
use Rattle.std.proofs.Common.{◌≡◌, ◌≢◌, ◌⊎◌, ◌↔◌, inl, inr, ◌<◌, ℕ, Bool, true, false, ◌||◌, List, [], ◌∷◌, ◌++◌, Option, Some, None}
use Rattle.std.proofs.Common.{refl, sym, ◌∙◌, ap, subst, arith}
use Rattle.std.proofs.lemmas.List.Folds.{list_any-append}
use Rattle.std.proofs.lemmas.Slice.Eq.{bytes_eq-Decides}
use Rattle.std.specs.Str.{bytes_eq}
use Rattle.ferry_base.specs.Limits.{zero_id}
use Rattle.ferry_disk.specs.Act.{History, files_now}
use Rattle.ferry_disk.specs.Files.{Files}
use Rattle.ferry_log.specs.State.{FitsFiles, LogState}
use Rattle.ferry_manifest.specs.Manifest.Text.{ManifestText}
use Rattle.ferry_manifest.specs.declared.manifest.Manifest.{Manifest}
use Rattle.ferry_nonce.specs.declared.counter.Counter.{Counter}
use Rattle.ferry_repo.proofs.LearnLemmas.{renew_fits}
use Rattle.ferry_repo.specs.Objects.{HasBlob, KeepsBlobs}
use Rattle.ferry_repo.specs.Opening.{FitsRepo, RepoState, cached_in, repo_view}
use Rattle.ferry_repo.specs.declared.repo.Repo.{Repo}
use Rattle.ferry_segment.specs.Entry.{LogEntry, PutEntry, DeleteEntry}
use Rattle.ferry_store.proofs.AddLemmas.{blobs_stay, repo_stays}
use Rattle.ferry_store.proofs.LiveLemmas.{live_deleted, live_spared, same_or}
use Rattle.ferry_store.proofs.RenewLemmas.{with_commit}
use Rattle.ferry_store.proofs.StandingLemmas.{entries_put, kept_back, live_renewed}
use Rattle.ferry_store.specs.Commit.{HasCommitted}
use Rattle.ferry_store.specs.Dropping.{CommitsWithout, Drops, FitsWithout, HoldsLess, is_one_of}
use Rattle.ferry_store.specs.Standing.{CommitsManifest, entries_committed, entries_of, live_in, with_manifest}
use Rattle.ferry_store.specs.State.{TakesEntry, all_committed, with_entry}
use Rattle.ferry_store.specs.Store.{IsOfChunk, StoreFits}
use Rattle.ferry_store.specs.Types.{ReadsSettings}
use Rattle.ferry_store.specs.declared.store.Store.{Store}
use Rattle.ferry_write.proofs.StandLemmas.{all-append}
use Rattle.ferry_write.specs.Room.{behind}
use Rattle.ferry_write.specs.Session.{OnlyAppends}
use Rattle.ferry_write.specs.declared.session.Session.{Session}

-- ---- nothing is dropped

pub fits_whole : (counts : Bool) (store : Store) (h : History) → StoreFits counts store h → FitsWithout counts [] store h
fits_whole counts store h fits = record {
  written = fits.written;
  under_way = fits.under_way;
  settings = fits.settings;
  repo = fits.repo;
  below = fits.below;
  holds = λ id blob apart. (λ live. ((fits.holds id blob apart).1 live, refl), λ has. (fits.holds id blob apart).0 has.0);
  manifest = λ held. fits.manifest;
  chunks = fits.chunks;
}

-- ---- one id more

or_no : (b : Bool) → (b || false) ≡ b
or_no true = refl
or_no false = refl

or_yes : (b : Bool) → (b || true) ≡ true
or_yes true = refl
or_yes false = refl

one_more : (other id : List ℕ) (ids : List (List ℕ)) (b : Bool) → bytes_eq other id ≡ b → is_one_of other (ids ++ id ∷ []) ≡ (is_one_of other ids || b)
one_more other id ids b is =
    list_any-append (bytes_eq other) ids (id ∷ [])
    ∙ ap (λ (c : Bool). is_one_of other ids || c) (or_no (bytes_eq other id) ∙ is)

-- it is one of them
one_here : (id : List ℕ) (ids : List (List ℕ)) → is_one_of id (ids ++ id ∷ []) ≡ true
one_here id ids = one_more id id ids true ((bytes_eq-Decides id id).1 refl) ∙ or_yes (is_one_of id ids)

differ_by : (other id : List ℕ) (b : Bool) → bytes_eq other id ≡ b → other ≢ id → b ≡ false
differ_by other id true is differ = absurd (differ ((bytes_eq-Decides other id).0 is))
differ_by other id false is differ = refl

-- and another is where it was
one_other : (other id : List ℕ) (ids : List (List ℕ)) → other ≢ id → is_one_of other (ids ++ id ∷ []) ≡ is_one_of other ids
one_other other id ids differ =
    one_more other id ids false (differ_by other id (bytes_eq other id) refl differ) ∙ or_no (is_one_of other ids)

-- ---- what a repository has of what is written

-- with the DELETE of one id more
less_dropped : (f g : Files) (log : LogState) (dropped : List (List ℕ)) (entries : List LogEntry) (id : List ℕ) → FitsFiles f log → KeepsBlobs f log g log
    → HoldsLess f log dropped entries → HoldsLess g log (dropped ++ id ∷ []) (entries ++ DeleteEntry id ∷ [])
less_dropped f g log dropped entries id fits keeps holds other blob apart = by_id (same_or id other) where
  entries_now : List LogEntry
  entries_now = entries ++ DeleteEntry id ∷ []

  dropped_now : List (List ℕ)
  dropped_now = dropped ++ id ∷ []

  gone : (live_in id entries_now ≡ Some blob) ↔ (HasBlob g log id blob × (is_one_of id dropped_now ≡ false))
  gone = (
    λ live. let no : None ≡ Some blob = sym (live_deleted id entries) ∙ live in absurd (let l : ⊥ = cc in l),
    λ has. let no : true ≡ false = sym (one_here id dropped) ∙ has.1 in absurd (let l : ⊥ = cc in l),
  )

  by_id : (other ≡ id) ⊎ (other ≢ id) → (live_in other entries_now ≡ Some blob) ↔ (HasBlob g log other blob × (is_one_of other dropped_now ≡ false))
  by_id (inl is) =
      subst (λ (i : List ℕ). (live_in i entries_now ≡ Some blob) ↔ (HasBlob g log i blob × (is_one_of i dropped_now ≡ false))) (sym is) gone
  by_id (inr differ) =
      let live_too = live_spared id other entries differ in
      let spared = one_other other id dropped differ in (
        λ live. let has = (holds other blob apart).0 (sym live_too ∙ live) in (keeps other blob has.0, spared ∙ has.1),
        λ has. live_too ∙ (holds other blob apart).1 (kept_back f g log fits keeps other blob has.0, sym spared ∙ has.1),
      )

-- over files that keep all blobs, by entries by which the same is live
less_later : (f g : Files) (log : LogState) (dropped : List (List ℕ)) (entries later : List LogEntry) → FitsFiles f log → KeepsBlobs f log g log
    → ((id : List ℕ) → id ≢ zero_id → live_in id later ≡ live_in id entries) → HoldsLess f log dropped entries → HoldsLess g log dropped later
less_later f g log dropped entries later fits keeps same holds id blob apart = (
  λ live. let has = (holds id blob apart).0 (sym (same id apart) ∙ live) in (keeps id blob has.0, has.1),
  λ has. same id apart ∙ (holds id blob apart).1 (kept_back f g log fits keeps id blob has.0, has.1),
)

-- ---- a chunk is dropped

-- a store whose session has gone on
abbrev pub with_session : Store → Session → Store
with_session store session = record store { session = session }

pub chunk_dropped : (store : Store) (session : Session) (id : List ℕ) (h g : History) → id ≢ zero_id → session.after ≡ store.session.after
    → TakesEntry store.session store.counter (DeleteEntry id) session store.counter h g → OnlyAppends store.session h g
    → Drops store id (with_session store session) h g
chunk_dropped store session id h g chunk after takes stays holds counts dropped fits =
    let u = fits.under_way in
    let kept = stays fits.written.committed fits.written.pending u.fits in
    let repo = repo_view store.repo in
    let before = store.session.after in (
      record {
        written = with_entry fits.written (DeleteEntry id);
        under_way = takes counts fits.written u;
        settings = fits.settings;
        repo = repo_stays before repo (cached_in store.repo) h g fits.below kept fits.repo;
        below = subst (λ (a : Option ℕ). repo.log.transaction < behind a) (sym after) fits.below;
        holds = subst (HoldsLess (files_now g) repo.log (dropped ++ id ∷ [])) (sym (entries_put fits.written (DeleteEntry id)))
            (less_dropped (files_now h) (files_now g) repo.log dropped (entries_of fits.written) id fits.repo.log (blobs_stay before repo.log h g kept)
            fits.holds);
        manifest = fits.manifest;
        chunks = all-append IsOfChunk fits.written.pending (DeleteEntry id ∷ []) fits.chunks (chunk, tt);
      },
      refl,
    )

-- ---- all is committed that was put and deleted, with a manifest

pub committed_without : (store : Store) (repo : Repo) (session : Session) (counter : Counter) (accepted : Manifest) (blob : List ℕ)
    (manifest : ManifestText) (h g : History) → repo_view repo ≡ with_manifest (repo_view store.repo) manifest → cached_in repo ≡ cached_in store.repo
    → HasCommitted (with_manifest (repo_view store.repo) manifest) store.session store.counter (PutEntry zero_id blob) session counter h g
    → CommitsWithout store (with_commit store repo session counter accepted) h g
committed_without store repo session counter accepted blob manifest h g view cached done held counts dropped fits =
    let u = fits.under_way in
    let before = repo_view store.repo in
    let kept = done.stays counts fits.written u in
    let after = store.session.after in
    let next = with_entry fits.written (PutEntry zero_id blob) in (
      record {
        written = all_committed next;
        under_way = done.takes counts fits.written u;
        settings = subst (λ (r : RepoState). ReadsSettings fits.written.config r.config) (sym view) fits.settings;
        repo = subst (FitsRepo (files_now g) (repo_view repo)) (sym cached)
            (subst (λ (r : RepoState). FitsRepo (files_now g) r (cached_in store.repo)) (sym view)
            (renew_fits (files_now g) before (cached_in store.repo) manifest
            (repo_stays after before (cached_in store.repo) h g fits.below kept fits.repo)));
        below = subst (λ (r : RepoState). r.log.transaction < behind session.after) (sym view)
            (let more = done.behind_it counts fits.written u in omega (arith, fits.below, more));
        holds = subst (λ (r : RepoState). HoldsLess (files_now g) r.log dropped (entries_of (all_committed next))) (sym view)
            (less_later (files_now h) (files_now g) before.log dropped (entries_of fits.written) (entries_of (all_committed next)) fits.repo.log
            (blobs_stay after before.log h g kept) (λ id apart. live_renewed fits.written blob id apart) fits.holds);
        manifest = λ all. subst (λ (r : RepoState). CommitsManifest r (all_committed next).committed) (sym view)
            (record { entries = entries_committed next; is = refl; holds = done.holds fits.written });
        chunks = tt;
      },
      (blob, refl),
    )
