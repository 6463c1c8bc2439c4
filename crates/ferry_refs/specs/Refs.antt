-- How often the archives of a repository use a chunk: as the record of an archive, as a piece of its item stream, or in the content of an item
-- (BorgBackup 1.2, Internals, "Data structures and file formats", Archives).
use Rattle.std.specs.Prelude.{◌≡◌, ◌⊎◌, ◌+◌, ℕ, List, [], ◌∷◌, ◌++◌, if◌then◌else◌, Some, unwrap_or}
use Rattle.std.specs.BTreeMap.{get}
use Rattle.std.specs.List.{flat_map}
use Rattle.std.specs.Str.{bytes_eq}
use Rattle.ferry_check.specs.Report.{ArchiveRead, AreRead, ids_used}
use Rattle.ferry_disk.specs.Files.{Files}
use Rattle.ferry_item.specs.Item.{ItemText}
use Rattle.ferry_log.specs.Live.{key_cmp}
use Rattle.ferry_manifest.specs.Record.Text.{ArchiveText}
use Rattle.ferry_manifest.specs.declared.manifest.ArchiveRef.{ArchiveRef}
use Rattle.ferry_repo.specs.Archives.{archive_named, HoldsRecord, RefusesNamed}
use Rattle.ferry_repo.specs.Opening.{RepoState}
use Rattle.ferry_repo.specs.Walk.{Comes}
use Rattle.ferry_repo.specs.declared.fault.RepoFault.{RepoFault}
use Rattle.ferry_refs.specs.declared.counts.Counts.{Counts}

-- how often an id stands among these
unfoldable pub occurrences : List ℕ → List (List ℕ) → ℕ
occurrences id [] = 0
occurrences id (other ∷ ids) = (if bytes_eq other id then 1 else 0) + occurrences id ids

-- The archives of the manifest, read in its order, use the id so often.
pub record Refs (files : Files) (repo : RepoState) (id : List ℕ) (count : ℕ) : Type 0 where
  pub reads : List ArchiveRead
  pub are_read : AreRead files repo repo.manifest.archives reads
  pub count_is : count ≡ occurrences id (flat_map ids_used reads)

-- how often an id was counted
abbrev pub count_in : Counts → List ℕ → ℕ
count_in counts id = unwrap_or (get key_cmp counts.counts id) 0

-- The record and the stream of each archive of the manifest read.
abbrev pub AllRead : Files → RepoState → Type 0
AllRead files repo = (reads : List ArchiveRead) × AreRead files repo repo.manifest.archives reads

-- Each id is counted as often as the archives of the manifest use it.
abbrev pub CountsRefs : Files → RepoState → Counts → Type 0
CountsRefs files repo counts = (id : List ℕ) → Refs files repo id (count_in counts id)

-- ---- refusals

-- The record of the archive of a name reads, and its stream ends with this fault.
pub record EndsStream (files : Files) (repo : RepoState) (name : List ℕ) (fault : RepoFault) : Type 0 where
  pub named : ArchiveRef
  pub named_is : archive_named name repo.manifest.archives ≡ Some named
  pub archive : ArchiveText
  pub record_is : HoldsRecord files repo.log repo.keys named.id archive
  pub items : List ItemText
  pub come : Comes files repo.log repo.keys named.id [] archive.items items (Some fault)

-- Why the archive of a name isn't counted: its record is refused, or its stream.
abbrev pub RefusesRead : Files → RepoState → List ℕ → RepoFault → Type 0
RefusesRead files repo name fault =
    RefusesNamed files repo.log repo.keys (archive_named name repo.manifest.archives) fault ⊎ EndsStream files repo name fault

-- The archive of this name is refused so, and each one before it in the manifest reads. In a repository that opens those before it are those with
-- lesser names.
pub record RefusesRefs (files : Files) (repo : RepoState) (fault : RepoFault) : Type 0 where
  pub before : List ArchiveRef
  pub named : ArchiveRef
  pub behind : List ArchiveRef
  pub archives : repo.manifest.archives ≡ before ++ (named ∷ behind)
  pub reads : List ArchiveRead
  pub are_read : AreRead files repo before reads
  pub refused : RefusesRead files repo named.name fault
