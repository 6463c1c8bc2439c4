-- Steps of the body that tags archives: the records without a tag are read, new ones are added, and all is committed under the old names.
use Rattle.std.specs.Prelude.{◌≡◌, ◌⊎◌, ◌<◌, ◌++◌, ℕ, Bool, List, ◌∷◌, length, map, Option, IfSome, IsSome}
use Rattle.ferry_base.specs.Limits.{content_limit}
use Rattle.ferry_blob.specs.Blob.{content_id}
use Rattle.ferry_check.specs.Verify.{IsChunk}
use Rattle.ferry_disk.specs.Act.{History, files_now}
use Rattle.ferry_disk.specs.Device.{Told, told_files}
use Rattle.ferry_disk.specs.Files.{Files}
use Rattle.ferry_disk.specs.Moments.{Moments}
use Rattle.ferry_mac.specs.declared.keys.Keys.{Keys}
use Rattle.ferry_manifest.specs.Manifest.Text.{ManifestText}
use Rattle.ferry_manifest.specs.Manifest.Writing.{manifest_text}
use Rattle.ferry_manifest.specs.Record.Text.{ArchiveText, archive_view}
use Rattle.ferry_manifest.specs.Record.Writing.{archive_text}
use Rattle.ferry_piece.specs.declared.fault.CarryFault.{CarryFault}
use Rattle.ferry_piece.specs.declared.fault.CarryFault.TheVariants.{Target, Memory, Record}
use Rattle.ferry_refs.specs.Deleting.{with_deleted}
use Rattle.ferry_refs.specs.Tagging.{AreFreed, AreOld, AreRenewals, BringsTexts, DrawsRenewal, DrawsRenewals, OldRecord, Tags, TagsSound, next_tagged}
use Rattle.ferry_refs.specs.Tagging.{old_record, with_puts}
use Rattle.ferry_refs.specs.declared.untagged.Untagged.{Untagged}
use Rattle.ferry_manifest.specs.declared.manifest.ArchiveRef.{ArchiveRef}
use Rattle.ferry_next.specs.Next.{written_at}
use Rattle.ferry_repo.specs.Archives.{archive_named}
use Rattle.ferry_repo.specs.Opening.{RepoState, repo_view}
use Rattle.ferry_repo.specs.declared.fault.RepoFault.TheVariants as Repos
use Rattle.ferry_segment.specs.Entry.{LogEntry}
use Rattle.ferry_store.specs.Causes.{BreaksLive, StopsAt}
use Rattle.ferry_store.specs.Commit.{accepted_in}
use Rattle.ferry_store.specs.Dropping.{FitsWithout}
use Rattle.ferry_store.specs.Standing.{CommitsManifest, with_manifest}
use Rattle.ferry_store.specs.State.{IsSound, ShowsStanding, Written}
use Rattle.ferry_store.specs.Store.{StoreFits}
use Rattle.ferry_store.specs.declared.fault.StoreRefusal.{StoreRefusal}
use Rattle.ferry_store.specs.declared.fault.StoreRefusal.TheVariants.{Repo, Entropy, TooLarge}
use Rattle.ferry_store.specs.declared.store.Store.{Store}

-- ---- what is read

-- what an `Untagged` says, apart from where its values lie in memory
abbrev pub old_view : Untagged → OldRecord
old_view untagged = old_record untagged.named (archive_view untagged.archive)

abbrev pub olds_view : List Untagged → List OldRecord
olds_view untagged = map old_view untagged

-- the ids of their records
abbrev pub record_ids : List Untagged → List (List ℕ)
record_ids untagged = map (λ (one : Untagged). one.named.id) untagged

-- An archive of a manifest has the name of this one.
abbrev pub IsNamedIn : ManifestText → ArchiveRef → Type 0
IsNamedIn manifest named = IsSome (archive_named named.name manifest.archives)

-- The repository of a store was read: these are the archives whose record has no tag, and the ids of those records that nothing uses once they are tagged.
-- The store fits as it did.
pub record ReadsOld (olds : List OldRecord) (ids : List (List ℕ)) (store store_now : Store) (before now : History) : Type 0 where
  pub same : now ≡ before
  pub are_old : AreOld (files_now before) (repo_view store.repo) (repo_view store.repo).manifest.archives olds
  pub freed : AreFreed (files_now before) (repo_view store.repo) ids
  pub fits : (counts : Bool) (fits : StoreFits counts store before) → (fits_now : StoreFits counts store_now now) × (fits_now.written ≡ fits.written)

-- ---- what is added

-- The store fits with these texts added.
pub record HasTexts (counts : Bool) (keys : Keys) (texts : List (List ℕ)) (written : Written) (store_now : Store) (now : History) : Type 0 where
  pub fits : StoreFits counts store_now now
  pub puts : List LogEntry
  pub written_is : fits.written ≡ with_puts written puts
  pub brings : BringsTexts keys texts written (with_puts written puts)

abbrev pub AddsTexts : List (List ℕ) → Store → Store → History → History → Type 0
AddsTexts texts store store_now before now = (counts : Bool) (fits : StoreFits counts store before)
    → HasTexts counts (repo_view store.repo).keys texts fits.written store_now now

-- Its repository has the settings, the secrets and the manifest that it had, and its log has each chunk that it had.
pub record KeepsRepo (repo now : RepoState) : Type 0 where
  pub keys : now.keys ≡ repo.keys
  pub config : now.config ≡ repo.config
  pub manifest : now.manifest ≡ repo.manifest
  pub chunks : (id : List ℕ) → IsChunk repo.log id → IsChunk now.log id

-- Why there is no text of a record with a tag: with some salt of 64 bytes it is too large, or random bytes or memory were refused.
abbrev pub RefusesRenewal : Keys → ArchiveText → CarryFault → Type 0
RefusesRenewal keys archive Record =
    (salt : List ℕ) × ((length salt ≡ 64) × (content_limit < length (archive_text keys salt archive)))
RefusesRenewal keys archive (Target Entropy) = Unit {0}
RefusesRenewal keys archive Memory = Unit {0}
RefusesRenewal keys archive fault = ⊥

-- Why a record with a tag isn't added: there is no text of it; or its id is live, and its blob breaks a rule; or what the refusal says holds of the files.
abbrev pub RefusesNewRecord : Keys → ArchiveText → Option (List ℕ) → Option (List ℕ) → Option Told → CarryFault → Type 0
RefusesNewRecord keys archive drawn drawn_now now Record =
    (salt : List ℕ) × ((length salt ≡ 64) × (content_limit < length (archive_text keys salt archive)))
RefusesNewRecord keys archive drawn drawn_now now (Target (Repo (Repos.Blob id fault))) =
    ((text : List ℕ) × (DrawsRenewal keys archive text drawn drawn_now × (id ≡ content_id keys text)))
    × IfSome now (λ t. BreaksLive (told_files t) keys id fault)
RefusesNewRecord keys archive drawn drawn_now now (Target (Repo Repos.Device)) = Unit {0}
RefusesNewRecord keys archive drawn drawn_now now (Target (Repo fault)) = ⊥
RefusesNewRecord keys archive drawn drawn_now now (Target TooLarge) = ⊥
RefusesNewRecord keys archive drawn drawn_now now (Target refusal) = IfSome now (λ t. StopsAt t.history.start (told_files t) keys refusal)
RefusesNewRecord keys archive drawn drawn_now now Memory = Unit {0}
RefusesNewRecord keys archive drawn drawn_now now fault = ⊥

-- One of these records isn't added, so, behind those before it.
pub record RefusesOneOf (keys : Keys) (olds : List OldRecord) (drawn drawn_now : Option (List ℕ)) (now : Option Told) (fault : CarryFault) : Type 0 where
  pub done : List OldRecord
  pub old : OldRecord
  pub rest : List OldRecord
  pub split : olds ≡ done ++ old ∷ rest
  pub texts : List (List ℕ)
  pub middle : Option (List ℕ)
  pub drew : DrawsRenewals keys done texts drawn middle
  pub refused : RefusesNewRecord keys old.archive middle drawn_now now fault

-- The same, or memory was refused.
abbrev pub RefusesSome : Keys → List OldRecord → Option (List ℕ) → Option (List ℕ) → Option Told → CarryFault → Type 0
RefusesSome keys olds drawn drawn_now now fault = (fault ≡ Memory) ⊎ RefusesOneOf keys olds drawn drawn_now now fault

-- ---- what is committed

-- Files show what was committed, or the same with what was put, without these chunks, and with this manifest.
abbrev pub ShowsWithout : RepoState → List (List ℕ) → Written → Files → Type 0
ShowsWithout next ids written image = ShowsStanding written image
    ⊎ ((blob : List ℕ) × (ShowsStanding (with_deleted written ids blob) image × CommitsManifest next (with_deleted written ids blob).committed))

-- At each moment each stop shows that.
abbrev pub EachWithout : RepoState → List (List ℕ) → Store → History → History → Type 0
EachWithout next ids store before now = (counts : Bool) (fits : StoreFits counts store before)
    → Moments (IsSound (ShowsWithout next ids fits.written) counts) before now

-- The same with the accepted manifest, written at a time.
abbrev pub FreesSound : List ℕ → List (List ℕ) → Store → History → History → Type 0
FreesSound time ids store before now =
    EachWithout (with_manifest (repo_view store.repo) (written_at (accepted_in store) time)) ids store before now

-- These chunks are deleted, and the accepted manifest is committed, written at a time.
pub record HasFreed (counts : Bool) (ids : List (List ℕ)) (written : Written) (store_now : Store) (now : History) : Type 0 where
  pub fits : FitsWithout counts ids store_now now
  pub blob : List ℕ
  pub written_is : fits.written ≡ with_deleted written ids blob

abbrev pub Frees : List (List ℕ) → Store → Store → History → History → Type 0
Frees ids store store_now before now = (counts : Bool) (fits : StoreFits counts store before) → HasFreed counts ids fits.written store_now now

-- Why they aren't: the manifest is too large with some salt of 64 bytes, or the target or memory refuses.
abbrev pub RefusesFreeing : Keys → ManifestText → StoreRefusal → Type 0
RefusesFreeing keys manifest (Repo fault) = ⊥
RefusesFreeing keys manifest TooLarge = (salt : List ℕ) × ((length salt ≡ 64) × (content_limit < length (manifest_text keys salt manifest)))
RefusesFreeing keys manifest refusal = Unit {0}

-- ---- both

-- Where these are the records without a tag and the ids that nothing uses then, each moment shows what was committed, or the same with tagged records.
abbrev pub SoundTagged : List ℕ → List OldRecord → List (List ℕ) → Store → History → History → Type 0
SoundTagged time olds ids store before now = AreOld (files_now before) (repo_view store.repo) (repo_view store.repo).manifest.archives olds
    → AreFreed (files_now before) (repo_view store.repo) ids → TagsSound time store before now

abbrev pub TagsWith : List ℕ → Option (List ℕ) → Option (List ℕ) → List OldRecord → List (List ℕ) → Store → Store → History → History → Type 0
TagsWith time drawn drawn_now olds ids store store_now before now = AreOld (files_now before) (repo_view store.repo)
    (repo_view store.repo).manifest.archives olds
    → AreFreed (files_now before) (repo_view store.repo) ids → Tags time drawn drawn_now store store_now (length olds) before now

-- Why they aren't tagged: one of them isn't added, or all isn't committed: a manifest with tagged records is too large with some salt of 64 bytes, or the
-- target or memory refuses.
abbrev pub RefusesWriting : RepoState → List ℕ → List OldRecord → Option (List ℕ) → Option (List ℕ) → Option Told → CarryFault → Type 0
RefusesWriting repo time olds drawn drawn_now now (Target TooLarge) = (texts : List (List ℕ)) × (AreRenewals repo.keys olds texts
    × ((salt : List ℕ) × ((length salt ≡ 64) × (content_limit < length (manifest_text repo.keys salt (next_tagged repo.keys repo.manifest olds texts time))))))
RefusesWriting repo time olds drawn drawn_now now (Target (Repo fault)) = RefusesSome repo.keys olds drawn drawn_now now (Target (Repo fault))
RefusesWriting repo time olds drawn drawn_now now (Target refusal) = IfSome now (λ t. StopsAt t.history.start (told_files t) repo.keys refusal)
RefusesWriting repo time olds drawn drawn_now now fault = RefusesSome repo.keys olds drawn drawn_now now fault
