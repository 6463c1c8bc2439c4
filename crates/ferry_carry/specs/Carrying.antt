-- An archive that was carried from a source into a target: wherever the entries are committed that are there, it is whole and says what it says in the
-- source.
use Rattle.std.specs.Prelude.{◌≡◌, ◌≢◌, ℕ, List, Option, Some, None, option_map, IfSome, Ok}
use Rattle.std.specs.List.{AllByRecursion}
use Rattle.ferry_base.specs.Limits.{zero_id}
use Rattle.ferry_blob.specs.Blob.{OpensTo, content_id}
use Rattle.ferry_disk.specs.Device.{Told, told_files}
use Rattle.ferry_disk.specs.Files.{Files}
use Rattle.ferry_log.specs.State.{LogState}
use Rattle.ferry_mac.specs.declared.keys.Keys.{Keys}
use Rattle.ferry_manifest.specs.Manifest.Text.{ManifestText}
use Rattle.ferry_manifest.specs.Record.Text.{ArchiveText, archive_of}
use Rattle.ferry_manifest.specs.declared.manifest.ArchiveRef.{ArchiveRef}
use Rattle.ferry_repo.specs.Archives.{archive_named}
use Rattle.ferry_repo.specs.Objects.{HasBlob}
use Rattle.ferry_repo.specs.Opening.{RepoState}
use Rattle.ferry_repo.specs.Whole.{IsWhole, WholeArchive}
use Rattle.ferry_segment.specs.Entry.{LogEntry}
use Rattle.ferry_store.specs.Standing.{live_in}
use Rattle.ferry_carry.specs.Copied.{IsCopyOf, adds_of}
use Rattle.ferry_piece.specs.Gather.{HoldsContents, HoldsWithin, IsAmong, NoCollision}
use Rattle.ferry_piece.specs.Puts.{Addition, contents_in}

-- ---- a source

-- the files of a source, where they are told, its repository, the length of the pieces that contents are cut into, how many may be pending, and the time of
-- each manifest, where it is given
pub record Origin : Type 0 where
  pub files : Option Files
  pub repo : RepoState
  pub block : ℕ
  pub most : ℕ
  pub time : Option (List ℕ)

abbrev pub origin : Option Told → RepoState → ℕ → ℕ → Option (List ℕ) → Origin
origin told repo block most time =
    record { files = option_map (λ (t : Told). told_files t) told; repo = repo; block = block; most = most; time = time }

-- The archive of a name is whole in files, by the log, the secrets and the manifest of their repository, and says this.
abbrev pub SaysIn : Files → RepoState → List ℕ → WholeArchive → Type 0
SaysIn files repo name whole = IsWhole files repo.log repo.keys repo.manifest.archives name whole

-- ---- what entries hold

-- By a log, files have the blob of each id that is live by these entries, apart from the manifest's.
abbrev pub HasLive : List LogEntry → Files → LogState → Type 0
HasLive entries files log = (id blob : List ℕ) → id ≢ zero_id → live_in id entries ≡ Some blob → HasBlob files log id blob

-- An archive is whole wherever the blobs are that are live by these entries.
abbrev pub IsWholeBy : List LogEntry → Keys → List ArchiveRef → List ℕ → WholeArchive → Type 0
IsWholeBy entries keys archives name whole = (files : Files) (log : LogState) → HasLive entries files log → IsWhole files log keys archives name whole

-- The content of each id that is live by these entries and opens is among these, but for the manifest.
abbrev pub LivesWithin : List (List ℕ) → Keys → List LogEntry → Type 0
LivesWithin scope keys entries = (id blob content : List ℕ) → id ≢ zero_id → live_in id entries ≡ Some blob → OpensTo keys id blob content
    → IsAmong scope content

-- ---- an archive that was carried

-- A text is that of a record with these fields.
abbrev pub IsRecordText : Keys → List ℕ → WholeArchive → Type 0
IsRecordText keys text whole = (record_is : ArchiveText) × ((archive_of keys text ≡ Ok record_is) × (record_is.fields ≡ whole.fields))

-- Behind entries these were added. No contents collide among those that were added and those that were live.
pub record IsApart (scope : List (List ℕ)) (keys : Keys) (base : List LogEntry) (more : List Addition) : Type 0 where
  pub one : NoCollision keys scope
  pub added : AllByRecursion (IsAmong scope) (contents_in more)
  pub live : LivesWithin scope keys base

-- The archive of a name is whole in a source, and one of a target's archives has the name, by the id of this text.
pub record EntersOver (there : Files) (from : Origin) (keys : Keys) (archives : List ArchiveRef) (name : List ℕ) : Type 0 where
  pub whole : WholeArchive
  pub source : SaysIn there from.repo name whole
  pub entry : ArchiveRef
  pub entry_is : archive_named name archives ≡ Some entry
  pub text : List ℕ
  pub id : entry.id ≡ content_id keys text

-- The archive of a name is whole in a source. By these entries it is whole in the target, and says the same, where no contents collide among those that were
-- added and those that were live by the entries behind which they were.
pub record CarriesOver (there : Files) (from : Origin) (added : List Addition) (base : List LogEntry) (keys : Keys) (entries : List LogEntry)
    (archives : List ArchiveRef) (name : List ℕ) : Type 0 where
  pub over : EntersOver there from keys archives name
  pub open over use *
  pub record_is : IsRecordText keys text whole
  pub target : (scope : List (List ℕ)) → IsApart scope keys base added → IsWholeBy entries keys archives name whole

-- The same of a source that tells its files.
abbrev pub IsCarried : Origin → List Addition → List LogEntry → Keys → List LogEntry → List ArchiveRef → List ℕ → Type 0
IsCarried from added base keys entries archives name = IfSome from.files (λ there. CarriesOver there from added base keys entries archives name)

-- ---- how it is cut

-- The record that an archive has in a target, by its entry's id, says the fields that it has in the source; its stream spells the items, in pieces of its own
-- length, and an item's chunks are those of its content, cut.
pub record CutsOver (there : Files) (from : Origin) (keys : Keys) (archives : List ArchiveRef) (name : List ℕ) : Type 0 where
  pub over : EntersOver there from keys archives name
  pub open over use *
  pub salt : List ℕ
  pub copy : IsCopyOf keys from.block whole.items whole.fields salt text

-- The same of a source that tells its files.
abbrev pub IsCut : Origin → Keys → List ArchiveRef → List ℕ → Type 0
IsCut from keys archives name = IfSome from.files (λ there. CutsOver there from keys archives name)

-- Of these names each is cut so that an accepted manifest lacks.
abbrev pub AreCut : ManifestText → Origin → Keys → List ArchiveRef → List (List ℕ) → Type 0
AreCut accepted from keys archives names = (name : List ℕ) → IsAmong names name → archive_named name accepted.archives ≡ None
    → IsCut from keys archives name

-- ---- an archive that can be named

-- Each of these contents is there, where none collide among those that were added and those that are live.
abbrev pub HoldsApart : Files → RepoState → List Addition → List (List ℕ) → Type 0
HoldsApart files repo added contents = (scope : List (List ℕ)) → NoCollision repo.keys scope → AllByRecursion (IsAmong scope) (contents_in added)
    → HoldsWithin scope files repo → HoldsContents files repo contents

-- An archive of a source is whole there, and all that it is in a target is there, with these added: the entry is that of its record.
pub record CanBeNamed (there : Files) (from : Origin) (added : List Addition) (files : Files) (repo : RepoState) (entry : ArchiveRef) : Type 0 where
  pub whole : WholeArchive
  pub source : SaysIn there from.repo entry.name whole
  pub time : whole.time ≡ entry.time
  pub text : List ℕ
  pub id : entry.id ≡ content_id repo.keys text
  pub salt : List ℕ
  pub copy : IsCopyOf repo.keys from.block whole.items whole.fields salt text
  pub held : HoldsApart files repo added (adds_of repo.keys from.block whole.items text)

-- The same of a source that tells its files.
abbrev pub IsReadyToName : Origin → List Addition → Files → RepoState → ArchiveRef → Type 0
IsReadyToName from added files repo entry = IfSome from.files (λ there. CanBeNamed there from added files repo entry)
