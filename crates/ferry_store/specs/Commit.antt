-- Archives that a store accepts, and the manifest that it commits with them.
use Rattle.std.specs.Prelude.{◌≡◌, ◌⊎◌, ◌<◌, ◌≤◌, ℕ, Bool, false, List, Option}
use Rattle.ferry_base.specs.Limits.{content_limit, zero_id}
use Rattle.ferry_blob.specs.Blob.{blocks}
use Rattle.ferry_disk.specs.Act.{History}
use Rattle.ferry_disk.specs.Device.{Told}
use Rattle.ferry_disk.specs.Files.{Files}
use Rattle.ferry_disk.specs.Moments.{Between, Moments}
use Rattle.ferry_manifest.specs.Manifest.Text.{ManifestText, manifest_view}
use Rattle.ferry_manifest.specs.Manifest.Writing.{manifest_text}
use Rattle.ferry_nonce.specs.Counter.{IsExhausted}
use Rattle.ferry_nonce.specs.declared.counter.Counter.{Counter}
use Rattle.ferry_nonce.specs.declared.fault.NonceFault.TheVariants as Nonces
use Rattle.ferry_repo.specs.Opening.{RepoState, repo_view}
use Rattle.ferry_segment.specs.Entry.{LogEntry, PutEntry}
use Rattle.ferry_store.specs.Content.{blob_for}
use Rattle.ferry_store.specs.Fault.{spends}
use Rattle.ferry_store.specs.Standing.{HoldsManifest, entries_committed}
use Rattle.ferry_store.specs.State.{IsSound, IsUnderWay, ShowsStanding, Written, all_committed, with_entry}
use Rattle.ferry_store.specs.Store.{StoreFits}
use Rattle.ferry_store.specs.declared.fault.StoreRefusal.{StoreRefusal}
use Rattle.ferry_store.specs.declared.fault.StoreRefusal.TheVariants.{Write, Nonce, TooLarge, Entropy, Memory}
use Rattle.ferry_store.specs.declared.store.Store.{Store}
use Rattle.ferry_write.specs.Room.{behind}
use Rattle.ferry_write.specs.Session.{Stays}
use Rattle.ferry_write.specs.declared.session.Session.{Session}

-- ---- what was accepted

-- the manifest with the archives that were accepted since the last commit, and without those that were dropped since
abbrev pub accepted_in : Store → ManifestText
accepted_in store = manifest_view store.accepted

-- All that was accepted is committed.
abbrev pub IsSettled : Store → Type 0
IsSettled store = accepted_in store ≡ (repo_view store.repo).manifest

-- Nothing of a store changed but which contents its repository keeps in memory.
pub record ReadsStore (store store_now : Store) : Type 0 where
  pub repo : repo_view store_now.repo ≡ repo_view store.repo
  pub rest : store_now ≡ record store { repo = store_now.repo }

-- A refusal that doesn't spend a store left it as it was, but for the contents that its repository keeps in memory, and made no act.
abbrev pub IsUnspentBy : Store → Store → Option Told → Option Told → StoreRefusal → Type 0
IsUnspentBy store store_now before now refusal = spends refusal ≡ false → ReadsStore store store_now × Between before now (λ h g. g ≡ h)

-- ---- a manifest that is committed

-- the entry of a manifest, whose tag has this salt, sealed with the next counter blocks
abbrev pub manifest_entry : RepoState → Counter → ManifestText → List ℕ → LogEntry
manifest_entry repo counter manifest salt = PutEntry zero_id (blob_for repo counter (manifest_text repo.keys salt manifest))

-- What was committed before is shown, or that and what was put, which hold the manifest of this repository; with the settings as they are.
abbrev pub ShowsManifest : RepoState → Written → Files → Type 0
ShowsManifest next written image = ShowsStanding written image
    ⊎ (ShowsStanding (all_committed written) image × HoldsManifest next (entries_committed written))

-- At each moment each stop shows what was committed, or that and what was put, with this entry, which is the manifest of the repository.
abbrev pub CommitsEntry : RepoState → Session → Counter → LogEntry → History → History → Type 0
CommitsEntry next session counter entry before now = (counts : Bool) (written : Written) → IsUnderWay counts session counter written before
    → Moments (IsSound (ShowsManifest next (with_entry written entry)) counts) before now

-- Whatever is written, the manifest of this repository is held once this entry is put and committed.
abbrev pub HoldsEntry : RepoState → LogEntry → Type 0
HoldsEntry next entry = (written : Written) → HoldsManifest next (entries_committed (with_entry written entry))

-- An entry was put, which is the manifest of a repository, and all is committed that was put. Segments have what they had, those up to the
-- commit before are as they were, and the new commit is behind it.
pub record HasCommitted (next : RepoState) (session : Session) (counter : Counter) (entry : LogEntry) (session_now : Session)
    (counter_now : Counter) (before now : History) : Type 0 where
  pub takes : (counts : Bool) (written : Written) → IsUnderWay counts session counter written before
      → IsUnderWay counts session_now counter_now (all_committed (with_entry written entry)) now
  pub holds : HoldsEntry next entry
  pub stays : (counts : Bool) (written : Written) → IsUnderWay counts session counter written before → Stays session.after before now
  pub behind_it : (counts : Bool) (written : Written) → IsUnderWay counts session counter written before
      → behind session.after ≤ behind session_now.after

-- The store fits with a manifest of this entry committed, and all that was put.
abbrev pub Commits : Store → LogEntry → Store → History → History → Type 0
Commits store entry store_now before now = (counts : Bool) (fits : StoreFits counts store before)
    → (fits_now : StoreFits counts store_now now) × (fits_now.written ≡ all_committed (with_entry fits.written entry))

-- Why a manifest of this size isn't committed: it is larger than a content may be, or no counter blocks are left for it, or the numbers of
-- segments are used up; or a device failed or memory was refused.
abbrev pub RefusesManifestOf : Counter → ℕ → StoreRefusal → Type 0
RefusesManifestOf counter size TooLarge = content_limit < size
RefusesManifestOf counter size (Nonce Nonces.Exhausted) = IsExhausted counter (blocks size)
RefusesManifestOf counter size (Nonce Nonces.Device) = Unit {0}
RefusesManifestOf counter size (Write fault) = Unit {0}
RefusesManifestOf counter size Entropy = Unit {0}
RefusesManifestOf counter size Memory = Unit {0}
RefusesManifestOf counter size refusal = ⊥
