-- What is shown of an archive: a line for each of its items, or the content of a file, as far as it reads
-- (BorgBackup 1.2, Internals, "Data structures and file formats", Archives).
use Rattle.std.specs.Prelude.{◌≡◌, ◌⊎◌, ℕ, Bool, ◌&&◌, if◌then◌else◌, List, [], ◌∷◌, Option, Some, None, is_some, unwrap_or}
use Rattle.std.specs.Str.{bytes_eq}
use Rattle.ferry_disk.specs.Files.{Files}
use Rattle.ferry_item.specs.Item.{ItemText}
use Rattle.ferry_item.specs.Stream.{joined}
use Rattle.ferry_manifest.specs.declared.manifest.ArchiveRef.{ArchiveRef}
use Rattle.ferry_repo.specs.Archives.{archive_named, RefusesRecord, ContentsCome}
use Rattle.ferry_repo.specs.Fault.{IsOfFiles}
use Rattle.ferry_repo.specs.Opening.{RepoState}
use Rattle.ferry_repo.specs.Whole.{WholeItem, Reading, ReadsArchive, RefusesArchive, no_item}
use Rattle.ferry_repo.specs.declared.fault.RepoFault.{RepoFault}
use Rattle.ferry_view.specs.Lines.{path_of, item_lines}
use Rattle.ferry_view.specs.declared.fault.ViewFault.{ViewFault}
use Rattle.ferry_view.specs.declared.fault.ViewFault.TheVariants.{Repo, NotFound, Output, Memory}

-- ---- archives

-- An archive has the name, and reads so, with the contents of the items that are wanted.
pub record ReadsNamed (wanted : List ItemText → List ItemText) (files : Files) (repo : RepoState) (name : List ℕ) (reading : Reading) : Type 0 where
  pub named : ArchiveRef
  pub named_is : archive_named name repo.manifest.archives ≡ Some named
  pub reads : ReadsArchive wanted files repo.log repo.keys named.id reading

-- What is shown of the archive of a name as far as it reads: nothing where there is none, or where its record is refused, else what
-- its items show.
pub data ReadsUpTo (wanted : List ItemText → List ItemText) (IsShown : List ItemText → List ℕ → Type 0) (files : Files) (repo : RepoState)
    (name : List ℕ) : List ℕ → Type 0 where
  no_archive : archive_named name repo.manifest.archives ≡ None → ReadsUpTo wanted IsShown files repo name []
  no_record : (named : ArchiveRef) (fault : RepoFault) → archive_named name repo.manifest.archives ≡ Some named → IsOfFiles fault
      → RefusesRecord files repo.log repo.keys named.id fault → ReadsUpTo wanted IsShown files repo name []
  items_shown : (reading : Reading) (text : List ℕ) → ReadsNamed wanted files repo name reading → IsShown reading.items text
      → ReadsUpTo wanted IsShown files repo name text

-- what a refusal says of the archive of a name that was found: it isn't read to its end with the contents of the items that are wanted
abbrev pub RefusesReading : (List ItemText → List ItemText) → Files → RepoState → List ℕ → RepoFault → Type 0
RefusesReading wanted files repo name fault =
    (named : ArchiveRef) × (archive_named name repo.manifest.archives ≡ Some named) × RefusesArchive wanted files repo.log repo.keys named.id fault

-- ---- a line for each item

-- The archive of the name reads to its end, and the text has the line of each of its items.
pub record IsItemListing (files : Files) (repo : RepoState) (name text : List ℕ) : Type 0 where
  pub reading : Reading
  pub reads : ReadsNamed no_item files repo name reading
  pub whole : reading.end ≡ None
  pub lines : text ≡ item_lines reading.items

-- the line of each item that comes, as far as the archive reads
abbrev pub IsItemText : Files → RepoState → List ℕ → List ℕ → Type 0
IsItemText files repo name text = ReadsUpTo no_item (λ items shown. shown ≡ item_lines items) files repo name text

-- What a refusal to list the items of a name says: no archive has the name, or its record or its stream is refused.
abbrev pub RefusesItems : Files → RepoState → List ℕ → ViewFault → Type 0
RefusesItems files repo name (Repo fault) = RefusesReading no_item files repo name fault
RefusesItems files repo name NotFound = archive_named name repo.manifest.archives ≡ None
RefusesItems files repo name Output = Unit {0}
RefusesItems files repo name Memory = Unit {0}

-- ---- the content of a file

-- whether an item has content and this path
abbrev pub is_file : List ℕ → ItemText → Bool
is_file path item = is_some item.chunks && bytes_eq (path_of item) path

-- the first of these items that has content and this path, where there is one
unfoldable pub file_at : List ℕ → List ItemText → List ItemText
file_at path [] = []
file_at path (item ∷ items) = if is_file path item then item ∷ [] else file_at path items

-- what is there of the content of the first of these items
abbrev pub IsContentOf : Files → RepoState → List ItemText → List ℕ → Type 0
IsContentOf files repo [] text = text ≡ []
IsContentOf files repo (item ∷ items) text = (contents : List (List ℕ)) × ((end : Option RepoFault)
    × ContentsCome files repo.log repo.keys (unwrap_or item.chunks []) contents end × (text ≡ joined contents))

-- The archive of the name reads to its end, and the text is the content of its first item that has content and this path.
pub record IsFile (files : Files) (repo : RepoState) (name path text : List ℕ) : Type 0 where
  pub reading : Reading
  pub reads : ReadsNamed (file_at path) files repo name reading
  pub whole : reading.end ≡ None
  pub file : WholeItem
  pub file_is : reading.wholes ≡ file ∷ []
  pub content : file.content ≡ Some text

-- the content of that item as far as it is there, nothing where there is no such item
abbrev pub IsFileText : Files → RepoState → List ℕ → List ℕ → List ℕ → Type 0
IsFileText files repo name path text = ReadsUpTo (file_at path) (λ items shown. IsContentOf files repo (file_at path items) shown) files repo name text

-- The archive of the name reads to its end, and no item with content has the path.
pub record LacksFile (files : Files) (repo : RepoState) (name path : List ℕ) : Type 0 where
  pub reading : Reading
  pub reads : ReadsNamed (file_at path) files repo name reading
  pub whole : reading.end ≡ None
  pub none : file_at path reading.items ≡ []

-- What a refusal to extract a path of a name says: no archive has the name, or it has no such file; or its record, its stream or the content
-- of the file is refused, whichever is first.
abbrev pub RefusesFile : Files → RepoState → List ℕ → List ℕ → ViewFault → Type 0
RefusesFile files repo name path (Repo fault) = RefusesReading (file_at path) files repo name fault
RefusesFile files repo name path NotFound = (archive_named name repo.manifest.archives ≡ None) ⊎ LacksFile files repo name path
RefusesFile files repo name path Output = Unit {0}
RefusesFile files repo name path Memory = Unit {0}
