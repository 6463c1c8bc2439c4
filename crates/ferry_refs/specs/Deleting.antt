-- What deleting an archive takes out of a repository: its name, and the chunks that no other archive uses.
use Rattle.std.specs.Prelude.{◌≡◌, ◌≢◌, ◌⊎◌, ◌↔◌, ◌<◌, ◌++◌, ℕ, suc, Bool, true, false, if◌then◌else◌, List, [], length, map}
use Rattle.std.specs.Prelude.{unwrap_or, Option, None, IfSome}
use Rattle.std.specs.List.Sorted.{IsStrictlySortedBy}
use Rattle.std.specs.Str.{bytes_eq}
use Rattle.ferry_base.specs.Limits.{content_limit, zero_id}
use Rattle.ferry_blob.specs.Blob.{blocks}
use Rattle.ferry_piece.specs.declared.fault.CarryFault.{CarryFault}
use Rattle.ferry_piece.specs.declared.fault.CarryFault.TheVariants.{Target, NotFound, Memory}
use Rattle.ferry_check.specs.Report.{ArchiveRead, AreRead, is_among}
use Rattle.ferry_check.specs.Verify.{IsChunk, IsNamed}
use Rattle.ferry_disk.specs.Act.{History, files_now}
use Rattle.ferry_disk.specs.Device.{Told, told_files}
use Rattle.ferry_disk.specs.Files.{Files}
use Rattle.ferry_disk.specs.Moments.{Moments}
use Rattle.ferry_log.specs.Live.{key_cmp}
use Rattle.ferry_manifest.specs.Manifest.Text.{ManifestText}
use Rattle.ferry_manifest.specs.Manifest.Writing.{manifest_text}
use Rattle.ferry_next.specs.Next.{without_entry, written_at}
use Rattle.ferry_nonce.specs.declared.fault.NonceFault.TheVariants as Nonces
use Rattle.ferry_refs.specs.Refs.{AllRead, Refs, RefusesRefs}
use Rattle.ferry_repo.specs.Archives.{archive_named}
use Rattle.ferry_repo.specs.Fault.{IsOfFiles}
use Rattle.ferry_repo.specs.Objects.{HasBlob}
use Rattle.ferry_repo.specs.Opening.{OpensFilesTo, RepoState, repo_view}
use Rattle.ferry_repo.specs.Whole.{HasWhole, WholeArchive}
use Rattle.ferry_repo.specs.declared.fault.RepoFault.TheVariants as Repos
use Rattle.ferry_repo.specs.declared.secret.Secret.{Secret}
use Rattle.ferry_segment.specs.Entry.{DeleteEntry, PutEntry}
use Rattle.ferry_store.specs.Causes.{StopsAt}
use Rattle.ferry_store.specs.Counting.{LacksBlocks}
use Rattle.ferry_store.specs.Dropping.{FitsWithout}
use Rattle.ferry_store.specs.Standing.{CommitsManifest, with_manifest}
use Rattle.ferry_store.specs.State.{IsSound, ShowsStanding, Written, all_committed, with_entry}
use Rattle.ferry_store.specs.Store.{StoreFits}
use Rattle.ferry_store.specs.declared.fault.StoreRefusal.TheVariants.{Repo, Nonce, TooLarge}
use Rattle.ferry_store.specs.declared.store.Store.{Store}

-- ---- what goes

-- a repository without the archive of a name
abbrev pub without_name : RepoState → List ℕ → RepoState
without_name repo name = with_manifest repo (without_entry repo.manifest name)

-- The archives of the manifest use an id, and without the archive of a name none does.
pub record FallsAway (files : Files) (repo : RepoState) (name id : List ℕ) : Type 0 where
  pub count : ℕ
  pub used : Refs files repo id (suc count)
  pub unused : Refs files (without_name repo name) id 0

-- A live chunk goes with the archive of a name.
pub record Goes (files : Files) (repo : RepoState) (name id : List ℕ) : Type 0 where
  pub chunk : IsChunk repo.log id
  pub falls : FallsAway files repo name id

-- Each archive reads, and these are the ids of all chunks that go with the archive of a name, in byte order, each once.
pub record AreGoing (files : Files) (repo : RepoState) (name : List ℕ) (ids : List (List ℕ)) : Type 0 where
  pub reads : List ArchiveRead
  pub are_read : AreRead files repo repo.manifest.archives reads
  pub sorted : IsStrictlySortedBy key_cmp ids
  pub each : (id : List ℕ) → (is_among id ids ≡ true) ↔ Goes files repo name id

-- ---- what is written

-- the time that is given, and else that of the manifest, or none at all
abbrev pub time_of : Option (List ℕ) → ManifestText → List ℕ
time_of given manifest = unwrap_or given (unwrap_or manifest.timestamp [])

-- the manifest without the archive of a name, written at a time
abbrev pub next_without : ManifestText → List ℕ → List ℕ → ManifestText
next_without manifest name time = written_at (without_entry manifest name) time

-- what is written with these chunks deleted, a manifest put behind them, and all committed
abbrev pub with_deleted : Written → List (List ℕ) → List ℕ → Written
with_deleted written ids blob =
    all_committed (with_entry (record written { pending = written.pending ++ map DeleteEntry ids }) (PutEntry zero_id blob))

-- Files show that the chunks are deleted that go with the archive of a name, and a manifest without it.
pub record ShowsDeleted (files : Files) (repo : RepoState) (name time : List ℕ) (written : Written) (image : Files) : Type 0 where
  pub ids : List (List ℕ)
  pub going : AreGoing files repo name ids
  pub blob : List ℕ
  pub shows : ShowsStanding (with_deleted written ids blob) image
  pub manifest : CommitsManifest (with_manifest repo (next_without repo.manifest name time)) (with_deleted written ids blob).committed

-- Files show what was committed, or that.
abbrev pub ShowsEither : Files → RepoState → List ℕ → List ℕ → Written → Files → Type 0
ShowsEither files repo name time written image = ShowsStanding written image ⊎ ShowsDeleted files repo name time written image

-- At each moment each stop shows what was committed, or the same without the archive.
abbrev pub DeletesSound : List ℕ → List ℕ → Store → History → History → Type 0
DeletesSound name time store before now = (counts : Bool) (fits : StoreFits counts store before)
    → Moments (IsSound (ShowsEither (files_now before) (repo_view store.repo) name time fits.written) counts) before now

-- At each moment each stop shows what was committed.
abbrev pub LeavesCommitted : Store → History → History → Type 0
LeavesCommitted store before now = (counts : Bool) (fits : StoreFits counts store before) → Moments (IsSound (ShowsStanding fits.written) counts) before now

-- The chunks that go with the archive are deleted, so many, and a manifest without it is committed.
pub record HasDeleted (counts : Bool) (name time : List ℕ) (written : Written) (store store_now : Store) (count : ℕ) (before now : History) : Type 0 where
  pub ids : List (List ℕ)
  pub going : AreGoing (files_now before) (repo_view store.repo) name ids
  pub count_is : count ≡ length ids
  pub fits : FitsWithout counts ids store_now now
  pub blob : List ℕ
  pub written_is : fits.written ≡ with_deleted written ids blob
  pub repo_is : repo_view store_now.repo ≡ with_manifest (repo_view store.repo) (next_without (repo_view store.repo).manifest name time)

abbrev pub Deletes : List ℕ → List ℕ → Store → Store → ℕ → History → History → Type 0
Deletes name time store store_now count before now = (counts : Bool) (fits : StoreFits counts store before)
    → HasDeleted counts name time fits.written store store_now count before now

-- ---- what is left

-- Files open under a secret, with the settings that these had. They have the manifest of before, or that without the archive of a name, written at a time.
-- Each other archive that was whole is whole, and says the same. The chunks are those of before, but for the ones that went with the archive.
pub record KeepsOthers (secret : Secret) (start : Files) (before : RepoState) (name time : List ℕ) (gone : Bool) (image : Files) : Type 0 where
  pub repo : RepoState
  pub opens : OpensFilesTo image secret repo
  pub config : image.config ≡ start.config
  pub manifest : repo.manifest ≡ (if gone then next_without before.manifest name time else before.manifest)
  pub wholes : (other : List ℕ) (whole : WholeArchive) → (gone ≡ true → bytes_eq name other ≡ false) → HasWhole start secret other whole
      → HasWhole image secret other whole
  pub chunks : (id blob : List ℕ) → id ≢ zero_id
      → HasBlob image repo.log id blob ↔ (HasBlob start before.log id blob × (gone ≡ true → Goes start before name id → ⊥))

-- ---- refusals

-- With some salt of 64 bytes the manifest without the archive is larger than the content of an object may be.
abbrev pub HasLargeManifest : RepoState → List ℕ → List ℕ → Type 0
HasLargeManifest repo name time = (salt : List ℕ) × ((length salt ≡ 64)
    × (content_limit < length (manifest_text repo.keys salt (next_without repo.manifest name time))))

-- With some salt of 64 bytes the counter blocks of that manifest aren't left in these files, where the run began with those at its start.
abbrev pub LacksManifestBlocks : RepoState → List ℕ → List ℕ → Files → Files → Type 0
LacksManifestBlocks repo name time start now = (salt : List ℕ) × ((length salt ≡ 64)
    × LacksBlocks start now (blocks (length (manifest_text repo.keys salt (next_without repo.manifest name time)))))

-- Why an archive isn't deleted: there is none of its name; or there is, and an archive's record or stream doesn't read; or all read, and what a refusal of
-- the target says holds of its files as they are then.
abbrev pub RefusesDelete : Files → RepoState → List ℕ → List ℕ → Option Told → CarryFault → Type 0
RefusesDelete files repo name time now (NotFound missing) = (missing ≡ name) × (archive_named name repo.manifest.archives ≡ None)
RefusesDelete files repo name time now (Target (Repo Repos.Device)) = Unit {0}
RefusesDelete files repo name time now (Target (Repo fault)) = IsNamed repo name × (IsOfFiles fault × RefusesRefs files repo fault)
RefusesDelete files repo name time now (Target TooLarge) = IsNamed repo name × (AllRead files repo × HasLargeManifest repo name time)
RefusesDelete files repo name time now (Target (Nonce Nonces.Exhausted)) =
    IsNamed repo name × (AllRead files repo × IfSome now (λ t. LacksManifestBlocks repo name time t.history.start (told_files t)))
RefusesDelete files repo name time now (Target refusal) =
    IsNamed repo name × (AllRead files repo × IfSome now (λ t. StopsAt t.history.start (told_files t) repo.keys refusal))
RefusesDelete files repo name time now Memory = Unit {0}
RefusesDelete files repo name time now fault = ⊥
