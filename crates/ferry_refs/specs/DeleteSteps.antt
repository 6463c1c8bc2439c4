-- Steps of the body that deletes an archive: what goes with it is read, the chunks that go are dropped, and all is committed.
use Rattle.std.specs.Prelude.{◌≡◌, ◌++◌, ℕ, Bool, List, length, map, Option, IfSome}
use Rattle.ferry_disk.specs.Act.{History, files_now}
use Rattle.ferry_disk.specs.Device.{Told, told_files}
use Rattle.ferry_nonce.specs.declared.fault.NonceFault.TheVariants as Nonces
use Rattle.ferry_repo.specs.Fault.{IsOfFiles}
use Rattle.ferry_repo.specs.Opening.{RepoState, repo_view}
use Rattle.ferry_repo.specs.declared.fault.RepoFault.TheVariants as Repos
use Rattle.ferry_refs.specs.Deleting.{AreGoing, Deletes, DeletesSound, HasLargeManifest, LacksManifestBlocks}
use Rattle.ferry_refs.specs.Refs.{RefusesRefs}
use Rattle.ferry_segment.specs.Entry.{DeleteEntry}
use Rattle.ferry_store.specs.Dropping.{FitsWithout}
use Rattle.ferry_store.specs.State.{Written}
use Rattle.ferry_store.specs.Store.{StoreFits}
use Rattle.ferry_store.specs.declared.fault.StoreRefusal.{StoreRefusal}
use Rattle.ferry_store.specs.declared.fault.StoreRefusal.TheVariants.{Repo, Write, Nonce, TooLarge, Memory}
use Rattle.ferry_store.specs.declared.store.Store.{Store}

-- ---- what is read

-- The repository of a store was read: these ids are those of the chunks that go with an archive, and the store fits as it did.
pub record ReadsGoing (name : List ℕ) (ids : List (List ℕ)) (store store_now : Store) (before now : History) : Type 0 where
  pub same : now ≡ before
  pub going : AreGoing (files_now before) (repo_view store.repo) name ids
  pub fits : (counts : Bool) (fits : StoreFits counts store before) → (fits_now : StoreFits counts store_now now) × (fits_now.written ≡ fits.written)

-- Why what goes isn't read: the record or the stream of an archive doesn't read, or the device failed or memory was refused.
abbrev pub RefusesGoing : Option Told → RepoState → StoreRefusal → Type 0
RefusesGoing told repo (Repo Repos.Device) = Unit {0}
RefusesGoing told repo (Repo fault) = IfSome told (λ t. IsOfFiles fault × RefusesRefs (told_files t) repo fault)
RefusesGoing told repo Memory = Unit {0}
RefusesGoing told repo refusal = ⊥

-- ---- what is dropped

-- what is written with these chunks deleted
abbrev pub with_drops : Written → List (List ℕ) → Written
with_drops written ids = record written { pending = written.pending ++ map DeleteEntry ids }

-- The store fits with these chunks dropped.
abbrev pub DropsAll : Store → List (List ℕ) → Store → History → History → Type 0
DropsAll store ids store_now before now = (counts : Bool) (fits : StoreFits counts store before)
    → (fits_now : FitsWithout counts ids store_now now) × (fits_now.written ≡ with_drops fits.written ids)

-- Why chunks aren't dropped: a segment isn't written, or memory was refused.
abbrev pub RefusesDrops : StoreRefusal → Type 0
RefusesDrops (Write fault) = Unit {0}
RefusesDrops Memory = Unit {0}
RefusesDrops refusal = ⊥

-- ---- what is committed

-- Where these chunks go with the archive, each moment shows what was committed, or the same without the archive.
abbrev pub SoundWith : List ℕ → List ℕ → List (List ℕ) → Store → History → History → Type 0
SoundWith name time ids store before now = AreGoing (files_now before) (repo_view store.repo) name ids → DeletesSound name time store before now

-- Where they do, they are deleted, and a manifest without the archive is committed.
abbrev pub DeletesWith : List ℕ → List ℕ → List (List ℕ) → Store → Store → History → History → Type 0
DeletesWith name time ids store store_now before now =
    AreGoing (files_now before) (repo_view store.repo) name ids → Deletes name time store store_now (length ids) before now

-- Why they aren't: the manifest without the archive is too large, or its counter blocks aren't left in what the target tells then, or the target failed,
-- its numbers are used up, or memory was refused.
abbrev pub RefusesWith : RepoState → List ℕ → List ℕ → Option Told → StoreRefusal → Type 0
RefusesWith repo name time now (Repo fault) = ⊥
RefusesWith repo name time now TooLarge = HasLargeManifest repo name time
RefusesWith repo name time now (Nonce Nonces.Exhausted) = IfSome now (λ t. LacksManifestBlocks repo name time t.history.start (told_files t))
RefusesWith repo name time now refusal = Unit {0}
