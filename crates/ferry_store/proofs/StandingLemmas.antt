-- What is written and what a store's repository has of it.
use Rattle.std.proofs.Common.{◌≡◌, ◌≢◌, ◌⊎◌, ◌↔◌, inl, inr, ℕ, suc, List, [], ◌∷◌, ◌++◌, map, take, drop, unwrap_or, Option, Some, None, Ok}
use Rattle.std.proofs.Common.{refl, sym, ◌∙◌, ap, subst, append_assoc, arith}
use Rattle.std.specs.FinMap.{empty}
use Rattle.ferry_base.specs.Limits.{zero_id}
use Rattle.ferry_blob.specs.Blob.{OpensTo}
use Rattle.ferry_disk.specs.Files.{Files, segment_bytes}
use Rattle.ferry_log.proofs.FitsLemmas.{place_holds, place_other}
use Rattle.ferry_log.proofs.PlacesLemmas.{state_of_log}
use Rattle.ferry_log.specs.Live.{live_blob}
use Rattle.ferry_log.specs.Log.{IsTransaction, Located}
use Rattle.ferry_log.specs.State.{FitsFiles, IsBlobAt, IsStateOf, LogState, with_learnt}
use Rattle.ferry_log.specs.declared.place.Place.{Place}
use Rattle.ferry_mac.specs.declared.keys.Keys.{Keys}
use Rattle.ferry_manifest.specs.Manifest.Text.{ManifestText, manifest_of}
use Rattle.ferry_repo.proofs.LawLemmas.{has_live, live_there}
use Rattle.ferry_repo.proofs.LearnLemmas.{blob_learnt, learn_keeps}
use Rattle.ferry_repo.specs.Objects.{HasBlob, IsMissing, KeepsBlobs}
use Rattle.ferry_repo.specs.Opening.{OpensFilesTo, RepoState}
use Rattle.ferry_repo.specs.declared.secret.Secret.{Secret}
use Rattle.ferry_segment.specs.Entry.{LogEntry, PutEntry}
use Rattle.ferry_stops.proofs.EntryLemmas.{log_shown, one_shown, shown_log}
use Rattle.ferry_stops.specs.Entries.{Shows, ShowsAt}
use Rattle.ferry_store.proofs.LiveLemmas.{keeps_commit, keeps_put, keeps_then, live_commit, live_map, live_nil, live_other, live_put, not_live, same_or}
use Rattle.ferry_store.specs.Standing.{CommitsManifest, HoldsLive, HoldsManifest, Keeps, OpensLive, UnlocksSettings, committed_of, entries_committed}
use Rattle.ferry_store.specs.Standing.{entries_of, live_in, with_manifest}
use Rattle.ferry_store.specs.State.{ShowsStanding, Written, all_committed, with_entry}

-- ---- files as they were opened

-- the blobs of an opened log are those of the ids that are live by the entries that the files show
pub state_live : (files : Files) (log : LogState) (entries : List LogEntry) → IsStateOf files log → Shows files (Some entries) → (id blob : List ℕ)
    → HasBlob files log id blob ↔ (live_in id entries ≡ Some blob)
state_live files log entries is shows id blob =
    let all = map (λ (e : Located). e.entry) is.log in
    let both : Some all ≡ Some entries = one_shown files (Some all) (Some entries) (suc log.transaction, log_shown files log.transaction is.log is.is) shows in
    let same : all ≡ entries = cc in
    let live : live_in id entries ≡ live_blob id is.log = ap (live_in id) (sym same) ∙ live_map id is.log in
    (λ has. live ∙ live_there files log is id blob has, λ e. has_live files log is id blob (sym live ∙ e))

-- the same, with nothing put since
pub holds_opened : (files : Files) (log : LogState) (entries : List LogEntry) → IsStateOf files log → Shows files (Some entries)
    → HoldsLive files log (entries ++ [])
holds_opened files log entries is shows id blob apart =
    let live = state_live files log entries is shows id blob in (λ has. live_nil id entries ∙ live.0 has, λ e. live.1 (sym (live_nil id entries) ∙ e))

-- what is committed in files that open holds the manifest
pub opened_manifest : (files : Files) (secret : Secret) (repo : RepoState) (entries : List LogEntry) → OpensFilesTo files secret repo
    → Shows files (Some entries) → HoldsManifest repo entries
opened_manifest files secret repo entries opens shows =
    let o = opens.opens in
    record {
      blob = o.object.blob;
      content = o.content;
      live = (state_live files repo.log entries o.unlocks.reads shows zero_id o.object.blob).0 o.object.has;
      opens = o.object.opens;
      reads = o.manifest_is;
    }

pub opened_unlocks : (files : Files) (secret : Secret) (repo : RepoState) → OpensFilesTo files secret repo
    → UnlocksSettings secret files.config repo.config repo.keys
opened_unlocks files secret repo opens =
    let u = opens.opens.unlocks in record { iterations = u.iterations; key = u.key; unlocks = u.unlocks; keys_are = u.keys_are }

-- a log that fits, of which nothing was learnt, is that of the files where its last segment is their last committed one
pub fits_state : (files : Files) (log : LogState) (entries : List LogEntry) → FitsFiles files log → log.learnt ≡ empty
    → ShowsAt files (suc log.transaction) (Some entries) → IsStateOf files log
fits_state files log entries fits none shows =
    let shown = shown_log files (suc log.transaction) entries shows in
    let same : shown.0 ≡ log.transaction = omega (arith, shown.2) in
    record {
      log = fits.log;
      is = record { is = subst (IsTransaction files) same shown.3.is; joined = fits.joined };
      places = record { live = fits.places.live; extents_are = fits.places.extents_are };
      learnt = none;
    }

-- ---- files that opened with what was put since

-- an id has one blob
one_blob : (files : Files) (log : LogState) (id a b : List ℕ) → HasBlob files log id a → HasBlob files log id b → a ≡ b
one_blob files log id a b x y =
    let both : Some x.place ≡ Some y.place = sym x.placed ∙ y.placed in
    let same : x.place ≡ y.place = cc in
    sym x.lies.holds ∙ (ap (λ (p : Place). take p.size (drop p.at (segment_bytes files p.segment))) same ∙ y.lies.holds)

-- blobs that are kept are those that were there
pub kept_back : (f g : Files) (log : LogState) → FitsFiles f log → KeepsBlobs f log g log → KeepsBlobs g log f log
kept_back f g log fits keeps id blob has =
    let lies = place_holds f log id has.place fits has.placed in
    let was : HasBlob f log id lies.0 = record { place = has.place; placed = has.placed; lies = lies.1 } in
    let same : lies.0 ≡ blob = one_blob g log id lies.0 blob (keeps id lies.0 was) has in
    subst (HasBlob f log id) same was

-- over files that keep all blobs, by entries by which the same is live
pub holds_later : (f g : Files) (log : LogState) (entries later : List LogEntry) → FitsFiles f log → KeepsBlobs f log g log
    → ((id : List ℕ) → id ≢ zero_id → live_in id later ≡ live_in id entries) → HoldsLive f log entries → HoldsLive g log later
holds_later f g log entries later fits keeps same holds id blob apart = (
  λ has. same id apart ∙ (holds id blob apart).0 (kept_back f g log fits keeps id blob has),
  λ live. keeps id blob ((holds id blob apart).1 (sym (same id apart) ∙ live)),
)

-- the place of another id
learnt_other : (files : Files) (log : LogState) (id other blob : List ℕ) (place : Place) → other ≢ id → HasBlob files (with_learnt log id place) other blob
    → HasBlob files log other blob
learnt_other files log id other blob place differ has =
    record { place = has.place; placed = sym (place_other log id other place differ) ∙ has.placed; lies = has.lies }

-- a blob that was put and learnt
pub holds_put : (f g : Files) (log : LogState) (entries : List LogEntry) (id blob : List ℕ) (place : Place) → FitsFiles f log → IsMissing log id
    → KeepsBlobs f log g log → IsBlobAt (segment_bytes g place.segment) place.at place.size blob → HoldsLive f log entries
    → HoldsLive g (with_learnt log id place) (entries ++ PutEntry id blob ∷ [])
holds_put f g log entries id blob place fits missing keeps lies holds other found apart = by_id (same_or id other) where
  log_now : LogState
  log_now = with_learnt log id place

  entries_now : List LogEntry
  entries_now = entries ++ PutEntry id blob ∷ []

  here : HasBlob g log_now id blob
  here = (blob_learnt g log id blob place).1 lies

  put : HasBlob g log_now id found ↔ (live_in id entries_now ≡ Some found)
  put = (
    λ has. live_put id blob entries ∙ ap (λ (b : List ℕ). Some b) (one_blob g log_now id blob found here has),
    λ live.
        let both : Some blob ≡ Some found = sym (live_put id blob entries) ∙ live in
        let same : blob ≡ found = cc in
        subst (HasBlob g log_now id) same here,
  )

  by_id : (other ≡ id) ⊎ (other ≢ id) → HasBlob g log_now other found ↔ (live_in other entries_now ≡ Some found)
  by_id (inl is) = subst (λ (i : List ℕ). HasBlob g log_now i found ↔ (live_in i entries_now ≡ Some found)) (sym is) put
  by_id (inr differ) = (
    λ has.
        live_other id blob other entries differ
        ∙ (holds other found apart).0 (kept_back f g log fits keeps other found (learnt_other g log id other found place differ has)),
    λ live.
        learn_keeps g log id place missing other found
        (keeps other found ((holds other found apart).1 (sym (live_other id blob other entries differ) ∙ live))),
  )

-- an id without a place isn't live
pub missing_unlive : (files : Files) (log : LogState) (entries : List LogEntry) (id : List ℕ) → id ≢ zero_id → IsMissing log id
    → HoldsLive files log entries → live_in id entries ≡ None
missing_unlive files log entries id apart missing holds =
    not_live id entries (λ blob live.
    let has = (holds id blob apart).1 live in
    let none : None ≡ Some has.place = sym missing ∙ has.placed in
    let no : ⊥ = cc in no)

-- ---- what is written goes on

-- with one more entry put
pub entries_put : (written : Written) (entry : LogEntry) → entries_of (with_entry written entry) ≡ entries_of written ++ entry ∷ []
entries_put written entry = sym (append_assoc (committed_of written) written.pending (entry ∷ []))

pub keeps_more : (written : Written) (id blob : List ℕ) → live_in id (entries_of written) ≡ None → Keeps (committed_of written) (entries_of written)
    → Keeps (committed_of written) (entries_of (with_entry written (PutEntry id blob)))
keeps_more written id blob none keeps =
    subst (Keeps (committed_of written)) (sym (entries_put written (PutEntry id blob)))
    (keeps_then (committed_of written) (entries_of written) (entries_of written ++ PutEntry id blob ∷ []) keeps (keeps_put id blob (entries_of written) none))

-- with all committed that was put
pub live_committed : (written : Written) (id : List ℕ) → live_in id (entries_of (all_committed written)) ≡ live_in id (entries_of written)
live_committed written id = live_nil id (entries_committed written) ∙ live_commit id (entries_of written)

-- the manifest is held by what keeps what is live
pub manifest_kept : (repo : RepoState) (a b : List LogEntry) → Keeps a b → HoldsManifest repo a → HoldsManifest repo b
manifest_kept repo a b keeps holds =
    record { blob = holds.blob; content = holds.content; live = keeps zero_id holds.blob holds.live; opens = holds.opens; reads = holds.reads }

-- with all committed that was put, which keeps all that is live
pub manifest_later : (repo : RepoState) (written : Written) → Keeps (committed_of written) (entries_of written) → CommitsManifest repo written.committed
    → CommitsManifest repo (all_committed written).committed
manifest_later repo written keeps holds =
    let was : committed_of written ≡ holds.entries = ap (λ (c : Option (List LogEntry)). unwrap_or c []) holds.is in
    let all : Keeps (committed_of written) (entries_committed written) =
    keeps_then (committed_of written) (entries_of written) (entries_committed written) keeps (keeps_commit (entries_of written)) in
    record {
      entries = entries_committed written;
      is = refl;
      holds = manifest_kept repo holds.entries (entries_committed written) (subst (λ (c : List LogEntry). Keeps c (entries_committed written)) was all)
          holds.holds;
    }

-- by a repository of the same secrets and the same manifest
pub manifest_learnt : (repo now : RepoState) (committed : Option (List LogEntry)) → now.keys ≡ repo.keys → now.manifest ≡ repo.manifest
    → CommitsManifest repo committed → CommitsManifest now committed
manifest_learnt repo now committed keys manifest commits =
    let holds = commits.holds in
    record {
      entries = commits.entries;
      is = commits.is;
      holds = record {
        blob = holds.blob;
        content = holds.content;
        live = holds.live;
        opens = subst (λ (k : Keys). OpensTo k zero_id holds.blob holds.content) (sym keys) holds.opens;
        reads = ap (λ (k : Keys). manifest_of k holds.content) keys ∙ (holds.reads ∙ ap (λ (m : ManifestText). Ok m) (sym manifest));
      };
    }

-- with a manifest put, all is live that was, but the manifest before
live_beside : (written : Written) (blob id : List ℕ) → id ≢ zero_id
    → live_in id (entries_of (with_entry written (PutEntry zero_id blob))) ≡ live_in id (entries_of written)
live_beside written blob id apart =
    ap (live_in id) (entries_put written (PutEntry zero_id blob)) ∙ live_other zero_id blob id (entries_of written) apart

pub live_manifest : (written : Written) (blob id : List ℕ) → id ≢ zero_id
    → live_in id (entries_committed (with_entry written (PutEntry zero_id blob))) ≡ live_in id (entries_of written)
live_manifest written blob id apart = live_commit id (entries_of (with_entry written (PutEntry zero_id blob))) ∙ live_beside written blob id apart

pub live_renewed : (written : Written) (blob id : List ℕ) → id ≢ zero_id
    → live_in id (entries_of (all_committed (with_entry written (PutEntry zero_id blob)))) ≡ live_in id (entries_of written)
live_renewed written blob id apart = live_committed (with_entry written (PutEntry zero_id blob)) id ∙ live_beside written blob id apart

-- a manifest that was put and committed is held
pub manifest_renewed : (repo : RepoState) (manifest : ManifestText) (blob content : List ℕ) (written : Written) → OpensTo repo.keys zero_id blob content
    → manifest_of repo.keys content ≡ Ok manifest → HoldsManifest (with_manifest repo manifest) (entries_committed (with_entry written (PutEntry zero_id blob)))
manifest_renewed repo manifest blob content written opens reads =
    let next = with_entry written (PutEntry zero_id blob) in
    record {
      blob = blob;
      content = content;
      live = live_commit zero_id (entries_of next) ∙ (ap (live_in zero_id) (entries_put written (PutEntry zero_id blob))
          ∙ live_put zero_id blob (entries_of written));
      opens = opens;
      reads = reads;
    }

-- ---- files that show what is written open

opens_log : (secret : Secret) (files : Files) (repo : RepoState) (entries : List LogEntry) (log : LogState) → IsStateOf files log
    → Shows files (Some entries) → UnlocksSettings secret files.config repo.config repo.keys → HoldsManifest repo entries
    → OpensFilesTo files secret (record repo { log = log })
opens_log secret files repo entries log is shows unlocks holds = record {
  opens = record {
    unlocks = record {
      reads = is;
      iterations = unlocks.iterations;
      key = unlocks.key;
      unlocks = unlocks.unlocks;
      keys_are = unlocks.keys_are;
    };
    content = holds.content;
    object = record {
      blob = holds.blob;
      has = (state_live files log entries is shows zero_id holds.blob).1 holds.live;
      opens = holds.opens;
    };
    manifest_is = holds.reads;
  };
}

pub opens_live : (secret : Secret) (files : Files) (repo : RepoState) (entries : List LogEntry) → Shows files (Some entries)
    → UnlocksSettings secret files.config repo.config repo.keys → HoldsManifest repo entries → OpensLive files secret repo entries
opens_live secret files repo entries shows unlocks holds =
    let log = shown_log files shows.0 entries shows.1 in
    let state = state_of_log files log.0 log.1 log.3 in
    record {
      log = state.0;
      opens = opens_log secret files repo entries state.0 state.1 shows unlocks holds;
      blobs = state_live files state.0 entries state.1 shows;
    }

-- the same of what is written, with what was committed
pub stands_live : (secret : Secret) (files : Files) (repo : RepoState) (written : Written) → ShowsStanding written files
    → UnlocksSettings secret written.config repo.config repo.keys → CommitsManifest repo written.committed
    → OpensLive files secret repo (committed_of written)
stands_live secret files repo written shows unlocks commits =
    let entries_are : committed_of written ≡ commits.entries = ap (λ (c : Option (List LogEntry)). unwrap_or c []) commits.is in
    subst (OpensLive files secret repo) (sym entries_are)
    (opens_live secret files repo commits.entries (subst (Shows files) commits.is shows.0)
    (subst (λ (file : Option (List ℕ)). UnlocksSettings secret file repo.config repo.keys) (sym shows.1) unlocks) commits.holds)
