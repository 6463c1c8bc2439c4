-- What the drill's archives say, and what a repository has that has them.
use Rattle.std.specs.Prelude.{◌≡◌, ◌<◌, ℕ, zero, suc, List, [], ◌∷◌, ◌++◌, length, Some}
use Rattle.ferry_blob.specs.Blob.{content_id}
use Rattle.ferry_carry.specs.Copied.{IsCopyOf, adds_of}
use Rattle.ferry_disk.specs.Files.{Files}
use Rattle.ferry_mac.specs.declared.keys.Keys.{Keys}
use Rattle.ferry_manifest.specs.declared.manifest.ArchiveRef.{ArchiveRef}
use Rattle.ferry_piece.specs.Gather.{NoCollision}
use Rattle.ferry_repo.specs.Opening.{OpensFilesTo, RepoState}
use Rattle.ferry_repo.specs.Whole.{IsWhole, WholeArchive, WholeItem}
use Rattle.ferry_repo.specs.declared.secret.Secret.{Secret}
use Rattle.ferry_gen.specs.Content.{archive_name, archive_time, file_content}
use Rattle.ferry_gen.specs.Fields.{archive_fields, item_fields}

-- ---- what an archive says

-- a file of an archive
abbrev pub drill_item : ℕ → ℕ → WholeItem
drill_item archive file = record { fields = item_fields file; content = Some (file_content archive file) }

-- its first files
unfoldable pub items_front : ℕ → ℕ → List WholeItem
items_front archive zero = []
items_front archive (suc count) = items_front archive count ++ drill_item archive count ∷ []

-- all of them
abbrev pub drill_items : ℕ → List WholeItem
drill_items archive = items_front archive 8

-- an archive
abbrev pub drill_archive : ℕ → WholeArchive
drill_archive archive = record { time = archive_time; fields = archive_fields archive; items = drill_items archive }

-- ---- what a repository has

-- the entry of an archive whose record has this text
abbrev pub entry_of : Keys → ℕ → List ℕ → ArchiveRef
entry_of keys archive text = record { name = archive_name archive; id = content_id keys text; time = archive_time }

-- the entries of archives whose records have these texts, from an archive on
unfoldable pub entries_from : Keys → ℕ → List (List ℕ) → List ArchiveRef
entries_from keys archive [] = []
entries_from keys archive (text ∷ texts) = entry_of keys archive text ∷ entries_from keys (suc archive) texts

-- All contents of archives whose records have these texts, from an archive on: the pieces of the files of each, of its stream, and its record.
unfoldable pub contents_from : Keys → ℕ → ℕ → List (List ℕ) → List (List ℕ)
contents_from keys block archive [] = []
contents_from keys block archive (text ∷ texts) = adds_of keys block (drill_items archive) text ++ contents_from keys block (suc archive) texts

-- A text is that of the record of an archive whose files are cut into pieces of this length, and has a tag.
abbrev pub IsRecordOf : Keys → ℕ → ℕ → List ℕ → Type 0
IsRecordOf keys block archive text = (salt : List ℕ) × IsCopyOf keys block (drill_items archive) (archive_fields archive) salt text

-- These are such texts, one for each archive, from an archive on.
abbrev pub AreRecordsOf : Keys → ℕ → ℕ → List (List ℕ) → Type 0
AreRecordsOf keys block archive [] = Unit {0}
AreRecordsOf keys block archive (text ∷ texts) = IsRecordOf keys block archive text × AreRecordsOf keys block (suc archive) texts

-- Files open under a secret to a repository that has so many of the drill's archives and no others, each named by the id of its record. Each is whole and says
-- what it is to say, where among all their contents equal ids mean equal contents, and none has the manifest's id.
pub record HasArchives (secret : Secret) (block count : ℕ) (files : Files) : Type 0 where
  pub repo : RepoState
  pub opens : OpensFilesTo files secret repo
  pub texts : List (List ℕ)
  pub texts_size : length texts ≡ count
  pub archives : repo.manifest.archives ≡ entries_from repo.keys zero texts
  pub records : AreRecordsOf repo.keys block zero texts
  pub wholes : NoCollision repo.keys (contents_from repo.keys block zero texts) → (archive : ℕ) → archive < count
      → IsWhole files repo.log repo.keys repo.manifest.archives (archive_name archive) (drill_archive archive)
