-- Which manifests a target has, one behind another, as archives of a source are named in it, and which is too large.
use Rattle.std.specs.Prelude.{◌≡◌, ◌⊎◌, ◌<◌, ◌≤◌, ◌++◌, ℕ, List, [], ◌∷◌, length, Option, Some, None, IsSome}
use Rattle.std.specs.List.{AllByRecursion}
use Rattle.ferry_base.specs.Limits.{content_limit}
use Rattle.ferry_blob.specs.Blob.{content_id}
use Rattle.ferry_mac.specs.declared.keys.Keys.{Keys}
use Rattle.ferry_manifest.specs.Manifest.Text.{ManifestText}
use Rattle.ferry_manifest.specs.Manifest.Writing.{manifest_text}
use Rattle.ferry_manifest.specs.declared.manifest.ArchiveRef.{ArchiveRef}
use Rattle.ferry_next.specs.Next.{next_manifest, written_at}
use Rattle.ferry_repo.specs.Archives.{archive_named}
use Rattle.ferry_repo.specs.Opening.{RepoState, repo_view}
use Rattle.ferry_store.specs.Commit.{accepted_in}
use Rattle.ferry_store.specs.declared.store.Store.{Store}
use Rattle.ferry_carry.specs.Naming.{DrawsSalts, TaggedRecord, entry_for, record_ids}
use Rattle.ferry_carry.specs.Time.{time_for}

-- a manifest with an archive of a source, whose record has this id, written at the time that is given, or else at the later of both manifests' times
abbrev pub next_named : Option (List ℕ) → ManifestText → ManifestText → ArchiveRef → List ℕ → ManifestText
next_named given source manifest named id =
    written_at (next_manifest manifest (entry_for named id) source.item_keys) (time_for given source.timestamp manifest.timestamp)

-- the same of what a store accepted, by the time of the manifest that it committed
abbrev pub named_next : Option (List ℕ) → RepoState → Store → ArchiveRef → List ℕ → ManifestText
named_next given source store named id =
    written_at (next_manifest (accepted_in store) (entry_for named id) source.manifest.item_keys)
    (time_for given source.manifest.timestamp (repo_view store.repo).manifest.timestamp)

-- What a store accepted has an archive of a source too, by the id of its record, whose salts were drawn; tagged with the second of them it is no larger than
-- the content of an object may be.
pub record NamesNew (given : Option (List ℕ)) (source : RepoState) (store : Store) (named : ArchiveRef) (records : List TaggedRecord) (store_now : Store)
    (drawn drawn_now : Option (List ℕ)) : Type 0 where
  pub one : TaggedRecord
  pub records_are : records ≡ one ∷ []
  pub accepted : accepted_in store_now ≡ named_next given source store named (content_id (repo_view store.repo).keys one.text)
  pub drew : DrawsSalts records drawn drawn_now
  pub small : length (manifest_text (repo_view store.repo).keys one.manifest_salt (accepted_in store_now)) ≤ content_limit

-- A source has an archive of a name, which a manifest lacks.
pub record IsNewIn (source manifest : ManifestText) (name : List ℕ) : Type 0 where
  pub named : ArchiveRef
  pub named_is : archive_named name source.archives ≡ Some named
  pub lacks : archive_named name manifest.archives ≡ None

-- The manifest behind the archive of a name: as it was where it has the name, and else with that archive, whose record has this id.
abbrev pub IsNextOf : Option (List ℕ) → ManifestText → ManifestText → List ℕ → List (List ℕ) → ManifestText → Type 0
IsNextOf given source manifest name ids manifest_now = (IsSome (archive_named name manifest.archives) × ((ids ≡ []) × (manifest_now ≡ manifest)))
    ⊎ ((new : IsNewIn source manifest name)
    × ((id : List ℕ) × ((ids ≡ id ∷ []) × (manifest_now ≡ next_named given source manifest new.named id))))

-- The manifest behind the archives of names, one after another, and the ids of the records of those that are new.
abbrev pub AreNextOf : Option (List ℕ) → ManifestText → ManifestText → List (List ℕ) → List (List ℕ) → ManifestText → Type 0
AreNextOf given source manifest [] ids manifest_now = (ids ≡ []) × (manifest_now ≡ manifest)
AreNextOf given source manifest (name ∷ names) ids manifest_now = (own : List (List ℕ)) × ((others : List (List ℕ)) × ((ids ≡ own ++ others)
    × ((middle : ManifestText) × (IsNextOf given source manifest name own middle × AreNextOf given source middle names others manifest_now))))

-- The manifest behind the archive of a name, by the id of its record where it is new, and tagged with the salt that stands beside the record it is no larger
-- than the content of an object may be.
abbrev pub IsNamedNext : Option (List ℕ) → ManifestText → Keys → ManifestText → List ℕ → List TaggedRecord → ManifestText → Type 0
IsNamedNext given source keys manifest name records manifest_now = IsNextOf given source manifest name (record_ids keys records) manifest_now
    × AllByRecursion (λ (one : TaggedRecord). length (manifest_text keys one.manifest_salt manifest_now) ≤ content_limit) records

-- The manifest behind the archives of names, one after another, each of them so.
abbrev pub AreNamedNext : Option (List ℕ) → ManifestText → Keys → ManifestText → List (List ℕ) → List TaggedRecord → ManifestText → Type 0
AreNamedNext given source keys manifest [] records manifest_now = (records ≡ []) × (manifest_now ≡ manifest)
AreNamedNext given source keys manifest (name ∷ names) records manifest_now = (own : List TaggedRecord) × ((others : List TaggedRecord)
    × ((records ≡ own ++ others) × ((middle : ManifestText)
    × (IsNamedNext given source keys manifest name own middle × AreNamedNext given source keys middle names others manifest_now))))

-- With the archive of a name a manifest is larger than the content of an object may be, whatever the text of its record, and whatever salt of 64 bytes it is
-- tagged with.
pub record HasLargeNext (given : Option (List ℕ)) (source : ManifestText) (keys : Keys) (manifest : ManifestText) (name : List ℕ) : Type 0 where
  pub new : IsNewIn source manifest name
  pub large : (text salt : List ℕ) → length salt ≡ 64
      → content_limit < length (manifest_text keys salt (next_named given source manifest new.named (content_id keys text)))

-- An id has 32 bytes, as that of each content has.
abbrev pub HasIdSize : List ℕ → Type 0
HasIdSize id = length id ≡ 32

-- Behind a front of these names, of which this holds, the manifest with the next is too large.
pub record LimitsNames (given : Option (List ℕ)) (source : ManifestText) (keys : Keys) (manifest : ManifestText) (names : List (List ℕ))
    (Told : List (List ℕ) → Type 0) : Type 0 where
  pub done : List (List ℕ)
  pub name : List ℕ
  pub rest : List (List ℕ)
  pub split : names ≡ done ++ name ∷ rest
  pub told : Told done
  pub middle : ManifestText
  pub ids : List (List ℕ)
  pub sizes : AllByRecursion HasIdSize ids
  pub behind : AreNextOf given source manifest done ids middle
  pub large : HasLargeNext given source keys middle name
