-- What a store stands on, and what `init` and `open` leave, whatever a stop does.
use Rattle.std.specs.Prelude.{◌≡◌, ◌≢◌, ◌⊎◌, ◌<◌, ◌-◌, ◌^◌, ℕ, Bool, true, false, List, [], Option, Some, IsSome, length, min}
use Rattle.std.specs.BTreeSet.{contains}
use Rattle.std.specs.FinMap.{get}
use Rattle.std.specs.List.{AllByRecursion}
use Rattle.ferry_base.specs.Limits.{zero_id}
use Rattle.ferry_disk.specs.Act.{History, files_now}
use Rattle.ferry_disk.specs.Files.{Files, file_at}
use Rattle.ferry_disk.specs.Moments.{Moments}
use Rattle.ferry_disk.specs.declared.name.Name.TheVariants.{Nonce as NonceFile}
use Rattle.ferry_log.specs.Live.{key_cmp}
use Rattle.ferry_log.specs.Log.{IsUncommitted}
use Rattle.ferry_nonce.specs.Counter.{KeepsNumbers}
use Rattle.ferry_nonce.specs.declared.fault.NonceFault.TheVariants as Nonces
use Rattle.ferry_repo.specs.Opening.{FitsRepo, OpensBare, OpensFilesTo, RefusesBare, RefusesRepo, RepoState, cached_in, repo_view}
use Rattle.ferry_repo.specs.declared.fault.RepoFault.{RepoFault}
use Rattle.ferry_repo.specs.declared.fault.RepoFault.TheVariants as Repos
use Rattle.ferry_repo.specs.declared.secret.Secret.{Secret}
use Rattle.ferry_stops.specs.Blobs.{AllTraced}
use Rattle.ferry_stops.specs.Chance.{EachStop}
use Rattle.ferry_segment.specs.Entry.{LogEntry, PutEntry, DeleteEntry, CommitEntry}
use Rattle.ferry_stops.specs.Counters.{IsKept, IsNonce}
use Rattle.ferry_stops.specs.Entries.{Shows}
use Rattle.ferry_store.specs.Content.{IsThere}
use Rattle.ferry_store.specs.Init.{RefusesMaking}
use Rattle.ferry_store.specs.Key.{FitsGiven, RefusesGiven}
use Rattle.ferry_store.specs.New.{IsMade, IsNothingOrNew, OpensNew, first_manifest}
use Rattle.ferry_store.specs.Standing.{CommitsManifest, HoldsLive, Keeps, committed_of, entries_of, live_in}
use Rattle.ferry_store.specs.State.{HasNumber, IsUnderWay, RefusesBegin, ShowsStanding, Written, found}
use Rattle.ferry_store.specs.Types.{KeepsTypes, ReadsSettings}
use Rattle.ferry_store.specs.declared.fault.StoreRefusal.{StoreRefusal}
use Rattle.ferry_store.specs.declared.fault.StoreRefusal.TheVariants.{Repo, Write, Nonce, Committed, TooLarge, Entropy, Memory}
use Rattle.ferry_store.specs.declared.store.Store.{Store}
use Rattle.ferry_write.specs.Room.{behind}
use Rattle.ferry_write.specs.Session.{SettlesFirst}
use Rattle.ferry_write.specs.declared.fault.WriteFault.TheVariants as Writes

-- An id's content is known to be there: the store has put it, or has opened it before, or the id is the manifest's.
abbrev pub IsKnown : Store → List ℕ → Type 0
IsKnown store id = (id ≡ zero_id) ⊎ (IsSome (get (repo_view store.repo).log.learnt id) ⊎ (contains key_cmp store.opened id ≡ true))

-- An entry puts a chunk or deletes one.
abbrev pub IsOfChunk : LogEntry → Type 0
IsOfChunk (PutEntry id blob) = id ≢ zero_id
IsOfChunk (DeleteEntry id) = id ≢ zero_id
IsOfChunk CommitEntry = ⊥

-- A store fits what its depot told: what was written stands, with the settings of the repository, the repository fits the files and is that of a commit below
-- those of the session, and each chunk that the store knows is there. The repository's chunks are those of the entries that are written, what is committed
-- holds its manifest, and what was put since is of chunks alone, keeps all that is live, is learnt, and is counted, up to the largest number of 64 bits. With
-- `counts` each counter block that was taken is below the store's counter.
pub record StoreFits (counts : Bool) (store : Store) (history : History) : Type 0 where
  pub written : Written
  pub under_way : IsUnderWay counts store.session store.counter written history
  pub settings : ReadsSettings written.config (repo_view store.repo).config
  pub repo : FitsRepo (files_now history) (repo_view store.repo) (cached_in store.repo)
  pub below : (repo_view store.repo).log.transaction < behind store.session.after
  pub there : (id : List ℕ) → id ≢ zero_id → IsKnown store id → IsThere (files_now history) (repo_view store.repo) id
  pub holds : HoldsLive (files_now history) (repo_view store.repo).log (entries_of written)
  pub manifest : CommitsManifest (repo_view store.repo) written.committed
  pub keeps : Keeps (committed_of written) (entries_of written)
  pub pending : store.pending ≡ min (length written.pending) (2 ^ 64 - 1)
  pub chunks : AllByRecursion IsOfChunk written.pending
  pub learnt : (id blob : List ℕ) → id ≢ zero_id → live_in id (entries_of written) ≡ Some blob
      → (live_in id (committed_of written) ≡ Some blob) ⊎ IsSome (get (repo_view store.repo).log.learnt id)

-- No call on the store answered that it is spent.
pub record IsUnspent (store : Store) : Type 0 where
  pub session : store.session.spent ≡ false
  pub counter : store.counter.spent ≡ false
  pub itself : store.spent ≡ false

-- The session's limit is that of the settings.
abbrev pub HasLimit : Store → Type 0
HasLimit store = store.session.limit ≡ (repo_view store.repo).config.limit

-- ---- `init`

-- The files that are made where nothing is committed, where the run had made no act.
pub record MakesFiles (secret : Secret) (iterations : ℕ) (timestamp bytes : List ℕ) (before now : History) : Type 0 where
  pub uncommitted : IsUncommitted (files_now before)
  pub free : ℕ
  pub number : IsNonce (file_at (files_now before) NonceFile) free
  pub made : IsMade secret iterations timestamp free bytes (files_now now)
  pub opens : OpensNew secret (files_now now)
  pub first : opens.repo.manifest ≡ first_manifest timestamp

abbrev pub InitMakes : Secret → ℕ → List ℕ → List ℕ → History → History → Type 0
InitMakes secret iterations timestamp bytes before now = before.acts ≡ [] → MakesFiles secret iterations timestamp bytes before now

-- The new store fits, and where the blocks of the runs before are kept, so are those that are taken now.
abbrev pub InitFits : Store → History → History → Type 0
InitFits store before now = (counts : Bool) → before.acts ≡ [] → (counts ≡ true → IsKept before) → StoreFits counts store now

-- Where nothing is committed, each stop at each moment leaves nothing that is committed, or the new repository.
abbrev pub InitShows : Secret → History → History → Type 0
InitShows secret before now = before.acts ≡ [] → IsUncommitted (files_now before) → Moments (EachStop (IsNothingOrNew secret)) before now

-- What is kept is kept at each moment.
abbrev pub InitKeeps : History → History → Type 0
InitKeeps before now = before.acts ≡ [] → IsKept before → Moments (λ h. IsKept h × AllTraced h) before now

-- No block of a blob that a run put and no number that a stop leaves in the file `nonce` is below the number that the run began with; where that file was
-- there, it is there still; and each blob that the run put has the type of its settings.
abbrev pub KeepsRun : History → Type 0
KeepsRun history = KeepsNumbers history × KeepsTypes history

-- That holds at each moment of a run that had made no act.
abbrev pub NumbersOn : History → History → Type 0
NumbersOn before now = before.acts ≡ [] → Moments KeepsRun before now

-- Where something is committed, nothing is done.
abbrev pub InitLeaves : History → History → Type 0
InitLeaves before now = (IsUncommitted (files_now before) → ⊥) → now ≡ before

-- At each moment of a call that writes, and at its end: this, the counter blocks of all runs, the numbers and the types of its own blobs, and its first act.
abbrev pub WritesEach : (History → History → Type 0) → History → History → Type 0
WritesEach Each before now = Each before now × (InitKeeps before now × (NumbersOn before now × SettlesFirst before now))

-- At each moment of `init`, and at its end.
abbrev pub InitEach : Secret → History → History → Type 0
InitEach secret before now = WritesEach (λ h g. InitShows secret h g × InitLeaves h g) before now

-- Why a repository isn't made of these files. Each but `Committed`, the devices and memory says as well that nothing is committed; what comes of the
-- file `nonce` and of the manifest, that the key file isn't refused.
abbrev pub RefusesFiles : Secret → List ℕ → Files → StoreRefusal → Type 0
RefusesFiles secret timestamp files Committed = IsUncommitted files → ⊥
RefusesFiles secret timestamp files (Repo Repos.Device) = Unit {0}
RefusesFiles secret timestamp files (Repo fault) = IsUncommitted files × RefusesGiven secret (Repo fault)
RefusesFiles secret timestamp files (Write fault) = RefusesMaking timestamp files (Write fault)
RefusesFiles secret timestamp files (Nonce Nonces.Device) = Unit {0}
RefusesFiles secret timestamp files (Nonce fault) = IsUncommitted files × (FitsGiven secret × RefusesMaking timestamp files (Nonce fault))
RefusesFiles secret timestamp files TooLarge = IsUncommitted files × (FitsGiven secret × RefusesMaking timestamp files TooLarge)
RefusesFiles secret timestamp files Entropy = Unit {0}
RefusesFiles secret timestamp files Memory = Unit {0}

-- The same of a run that had made no act.
abbrev pub RefusesInit : Secret → List ℕ → History → StoreRefusal → Type 0
RefusesInit secret timestamp history refusal = history.acts ≡ [] → RefusesFiles secret timestamp (files_now history) refusal

-- ---- `open`

-- Each stop at each moment shows what is committed, with the settings as they are.
abbrev pub OpenShows : History → History → Type 0
OpenShows before now = (committed : List LogEntry) → before.acts ≡ [] → Shows (files_now before) (Some committed)
    → Moments (EachStop (ShowsStanding (found (Some committed) (files_now before)))) before now

-- The opened store fits with what was committed and with the settings that were there, and where the blocks of the runs before are kept, so
-- are those that are taken now.
pub record OpensFound (counts : Bool) (store : Store) (before now : History) : Type 0 where
  pub committed : List LogEntry
  pub shown : Shows (files_now before) (Some committed)
  pub fits : StoreFits counts store now
  pub found_is : fits.written ≡ found (Some committed) (files_now before)

abbrev pub OpenFits : Store → History → History → Type 0
OpenFits store before now = (counts : Bool) → before.acts ≡ [] → (counts ≡ true → IsKept before) → OpensFound counts store before now

-- At each moment of `open`, and at its end.
abbrev pub OpenEach : History → History → Type 0
OpenEach before now = WritesEach OpenShows before now

-- Where the files don't open under the secret, or their file `nonce` is absent or has no number, nothing is done.
abbrev pub OpenLeaves : Secret → History → History → Type 0
OpenLeaves secret before now =
    ((repo : RepoState) → OpensFilesTo (files_now before) secret repo → HasNumber (files_now before) → ⊥) → now ≡ before

-- Why files don't open to be written, by why their repository doesn't open to be read, and by what says that it does. `Nonce` says as well that it
-- does.
abbrev pub RefusesOpenBy : (RepoFault → Type 0) → Type 0 → Files → StoreRefusal → Type 0
RefusesOpenBy Refuses Opens files (Repo fault) = Refuses fault
RefusesOpenBy Refuses Opens files (Nonce Nonces.Device) = Unit {0}
RefusesOpenBy Refuses Opens files (Nonce fault) = Opens × RefusesBegin true files (Nonce fault)
RefusesOpenBy Refuses Opens files (Write Writes.Device) = Unit {0}
RefusesOpenBy Refuses Opens files Memory = Unit {0}
RefusesOpenBy Refuses Opens files refusal = ⊥

abbrev pub OpensSome : Files → Secret → Type 0
OpensSome files secret = (repo : RepoState) × OpensFilesTo files secret repo

abbrev pub RefusesOpen : Secret → Files → StoreRefusal → Type 0
RefusesOpen secret files refusal = RefusesOpenBy (RefusesRepo files secret) (OpensSome files secret) files refusal

-- The same of files that are opened also where their manifest doesn't open.
abbrev pub OpensSomeBare : Files → Secret → Type 0
OpensSomeBare files secret = (repo : RepoState) × ((fault : Option RepoFault) × OpensBare files secret repo fault)

abbrev pub RefusesOpenBare : Secret → Files → StoreRefusal → Type 0
RefusesOpenBare secret files refusal = RefusesOpenBy (RefusesBare files secret) (OpensSomeBare files secret) files refusal
