-- Chunks that are dropped from a repository, and what a store stands on then.
use Rattle.std.specs.Prelude.{◌≡◌, ◌≢◌, ◌↔◌, ◌<◌, ℕ, Bool, true, false, List, [], ◌∷◌, ◌++◌, Option, Some, None, IsTrue}
use Rattle.std.specs.List.{AllByRecursion, list_any}
use Rattle.std.specs.Str.{bytes_eq}
use Rattle.ferry_base.specs.Limits.{zero_id}
use Rattle.ferry_disk.specs.Act.{History, files_now}
use Rattle.ferry_disk.specs.Files.{Files}
use Rattle.ferry_log.specs.State.{LogState}
use Rattle.ferry_repo.specs.Objects.{HasBlob}
use Rattle.ferry_repo.specs.Opening.{FitsRepo, cached_in, repo_view}
use Rattle.ferry_repo.specs.declared.fault.RepoFault.{RepoFault}
use Rattle.ferry_segment.specs.Entry.{LogEntry, DeleteEntry, PutEntry}
use Rattle.ferry_store.specs.Standing.{CommitsManifest, entries_of, live_in}
use Rattle.ferry_stops.specs.Counters.{IsKept}
use Rattle.ferry_stops.specs.Entries.{Shows}
use Rattle.ferry_store.specs.State.{IsUnderWay, Written, all_committed, found, with_entry}
use Rattle.ferry_store.specs.Store.{IsOfChunk, OpenFits}
use Rattle.ferry_store.specs.Types.{ReadsSettings}
use Rattle.ferry_store.specs.declared.fault.StoreRefusal.{StoreRefusal}
use Rattle.ferry_store.specs.declared.fault.StoreRefusal.TheVariants.{Write, Memory}
use Rattle.ferry_store.specs.declared.store.Store.{Store}
use Rattle.ferry_write.specs.Room.{AreUsedUp, behind, must_begin}
use Rattle.ferry_write.specs.declared.fault.WriteFault.TheVariants as Writes
use Rattle.ferry_write.specs.declared.session.Session.{Session}

-- whether an id is one of these
abbrev pub is_one_of : List ℕ → List (List ℕ) → Bool
is_one_of id ids = list_any (bytes_eq id) ids

-- The blobs of a log over files, but for those of dropped ids, are those of the ids that are live by these entries, apart from the manifest's.
abbrev pub HoldsLess : Files → LogState → List (List ℕ) → List LogEntry → Type 0
HoldsLess files log dropped entries = (id blob : List ℕ) → id ≢ zero_id
    → (live_in id entries ≡ Some blob) ↔ (HasBlob files log id blob × (is_one_of id dropped ≡ false))

-- A store from which these chunks were dropped fits what its depot told: what was written stands, with the settings of the repository, the repository fits
-- the files and is that of a commit below those of the session, its chunks but the dropped ones are those of the entries that are written, and what was put
-- or deleted since is of chunks alone. With `reads` what is committed holds its manifest, and with `counts` each counter block that was taken is below the
-- store's counter.
pub record FitsLess (reads counts : Bool) (dropped : List (List ℕ)) (store : Store) (history : History) : Type 0 where
  pub written : Written
  pub under_way : IsUnderWay counts store.session store.counter written history
  pub settings : ReadsSettings written.config (repo_view store.repo).config
  pub repo : FitsRepo (files_now history) (repo_view store.repo) (cached_in store.repo)
  pub below : (repo_view store.repo).log.transaction < behind store.session.after
  pub holds : HoldsLess (files_now history) (repo_view store.repo).log dropped (entries_of written)
  pub manifest : reads ≡ true → CommitsManifest (repo_view store.repo) written.committed
  pub chunks : AllByRecursion IsOfChunk written.pending

-- The same, and what is committed holds its manifest.
abbrev pub FitsWithout : Bool → List (List ℕ) → Store → History → Type 0
FitsWithout counts dropped store history = FitsLess true counts dropped store history

-- The same, whatever is committed under the zero id.
abbrev pub FitsBare : Bool → List (List ℕ) → Store → History → Type 0
FitsBare counts dropped store history = FitsLess false counts dropped store history

-- The store fits with one more chunk dropped, whose DELETE was put.
abbrev pub Drops : Store → List ℕ → Store → History → History → Type 0
Drops store id store_now before now = (reads counts : Bool) (dropped : List (List ℕ)) (fits : FitsLess reads counts dropped store before)
    → (fits_now : FitsLess reads counts (dropped ++ id ∷ []) store_now now) × (fits_now.written ≡ with_entry fits.written (DeleteEntry id))

-- The store fits with all committed that was put and deleted, and a manifest put behind it, whatever was committed as one before.
abbrev pub CommitsWithout : Store → Store → History → History → Type 0
CommitsWithout store store_now before now = (reads counts : Bool) (dropped : List (List ℕ)) (fits : FitsLess reads counts dropped store before)
    → (fits_now : FitsWithout counts dropped store_now now)
    × ((blob : List ℕ) × (fits_now.written ≡ all_committed (with_entry fits.written (PutEntry zero_id blob))))

-- ---- opened without its manifest

-- The store that was opened without its manifest fits with what was committed and with the settings that were there, and where the blocks of the runs
-- before are kept, so are those that are taken now.
pub record BareFound (counts : Bool) (store : Store) (before now : History) : Type 0 where
  pub committed : List LogEntry
  pub shown : Shows (files_now before) (Some committed)
  pub fits : FitsBare counts [] store now
  pub found_is : fits.written ≡ found (Some committed) (files_now before)

abbrev pub BareFits : Store → History → History → Type 0
BareFits store before now = (counts : Bool) → before.acts ≡ [] → (counts ≡ true → IsKept before) → BareFound counts store before now

-- The store fits as one that was opened, where there is no fault, and else as one that was opened without its manifest.
abbrev pub OpenBareFits : Store × Option RepoFault → History → History → Type 0
OpenBareFits (store, None) before now = OpenFits store before now
OpenBareFits (store, Some fault) before now = BareFits store before now

-- A store writes: what was written stands, with the settings of the repository.
pub record IsWriting (store : Store) (history : History) : Type 0 where
  pub written : Written
  pub under_way : IsUnderWay false store.session store.counter written history
  pub settings : ReadsSettings written.config (repo_view store.repo).config

-- Why a chunk isn't dropped: the numbers of segments are used up, or the device failed or memory was refused.
abbrev pub RefusesDrop : Session → StoreRefusal → Type 0
RefusesDrop session (Write Writes.Device) = Unit {0}
RefusesDrop session (Write Writes.Numbers) = IsTrue (must_begin session.last session.size session.limit 41) × AreUsedUp session.last
RefusesDrop session Memory = Unit {0}
RefusesDrop session refusal = ⊥
