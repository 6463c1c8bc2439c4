-- What an archive says as a whole: the time that the manifest has for its name, its record's fields, and its items with their contents;
-- and how far it reads where it doesn't (BorgBackup 1.2, Internals, "Data structures and file formats", Archives).
use Rattle.std.specs.Prelude.{◌≡◌, ◌⊎◌, ℕ, List, [], ◌∷◌, Option, Some, None}
use Rattle.ferry_disk.specs.Files.{Files}
use Rattle.ferry_item.specs.Item.{ItemText}
use Rattle.ferry_log.specs.State.{LogState}
use Rattle.ferry_mac.specs.declared.keys.Keys.{Keys}
use Rattle.ferry_manifest.specs.Record.Text.{ArchiveText}
use Rattle.ferry_manifest.specs.declared.manifest.ArchiveRef.{ArchiveRef}
use Rattle.ferry_msgpack.specs.Tree.{Tree}
use Rattle.ferry_repo.specs.Archives.{archive_named, HoldsRecord, RefusesRecord, HoldsJoined, RefusesJoined}
use Rattle.ferry_repo.specs.Opening.{RepoState, OpensFilesTo}
use Rattle.ferry_repo.specs.Walk.{Comes, IsStream}
use Rattle.ferry_repo.specs.declared.fault.RepoFault.{RepoFault}
use Rattle.ferry_repo.specs.declared.secret.Secret.{Secret}

-- ---- items

-- an item with its content in the place of its chunks
pub record WholeItem : Type 0 where
  pub fields : Tree
  pub content : Option (List ℕ)

-- The item has these fields and this content.
pub record HoldsItem (files : Files) (log : LogState) (keys : Keys) (item : ItemText) (whole : WholeItem) : Type 0 where
  pub fields : whole.fields ≡ item.fields
  pub content : HoldsJoined files log keys item.chunks whole.content

-- Of these items, behind which their stream ends so, come these with their contents, and this end: that of the stream where all contents
-- are there, else the fault of the first that isn't.
abbrev pub WholesCome : Files → LogState → Keys → List ItemText → Option RepoFault → List WholeItem → Option RepoFault → Type 0
WholesCome files log keys [] ends [] end = end ≡ ends
WholesCome files log keys [] ends (whole ∷ wholes) end = ⊥
WholesCome files log keys (item ∷ items) ends [] None = ⊥
WholesCome files log keys (item ∷ items) ends [] (Some fault) = RefusesJoined files log keys item.chunks fault
WholesCome files log keys (item ∷ items) ends (whole ∷ wholes) end =
    HoldsItem files log keys item whole × WholesCome files log keys items ends wholes end

-- ---- archives

-- what is read of an archive: its record, its items, those whose content is wanted with it, and where it ends, none at the end of all
pub record Reading : Type 0 where
  pub archive : ArchiveText
  pub items : List ItemText
  pub wholes : List WholeItem
  pub end : Option RepoFault

-- The record of this id reads, and of its stream come these items; of those whose content is wanted come these, and this end. The contents
-- of an item are read before the items behind it.
pub record ReadsArchive (wanted : List ItemText → List ItemText) (files : Files) (log : LogState) (keys : Keys) (id : List ℕ) (reading : Reading)
    : Type 0 where
  pub record_is : HoldsRecord files log keys id reading.archive
  pub ends : Option RepoFault
  pub comes : Comes files log keys id [] reading.archive.items reading.items ends
  pub contents : WholesCome files log keys (wanted reading.items) ends reading.wholes reading.end

-- all of these items
abbrev pub each_item : List ItemText → List ItemText
each_item items = items

-- none of these items
abbrev pub no_item : List ItemText → List ItemText
no_item items = []

-- Why an archive isn't read to its end with the contents of the items that are wanted: its record is refused, or it reads up to this fault.
abbrev pub RefusesArchive : (List ItemText → List ItemText) → Files → LogState → Keys → List ℕ → RepoFault → Type 0
RefusesArchive wanted files log keys id fault = RefusesRecord files log keys id fault
    ⊎ ((reading : Reading) × ReadsArchive wanted files log keys id reading × (reading.end ≡ Some fault))

-- an archive with its items' contents, apart from the ids and the cuts of its chunks
pub record WholeArchive : Type 0 where
  pub time : List ℕ
  pub fields : Tree
  pub items : List WholeItem

-- The archive of this name among these is whole, and says this.
pub record IsWhole (files : Files) (log : LogState) (keys : Keys) (archives : List ArchiveRef) (name : List ℕ) (whole : WholeArchive) : Type 0 where
  pub named : ArchiveRef
  pub named_is : archive_named name archives ≡ Some named
  pub archive : ArchiveText
  pub record_is : HoldsRecord files log keys named.id archive
  pub items : List ItemText
  pub stream : IsStream files log keys archive.items items
  pub contents : WholesCome files log keys items None whole.items None
  pub time : whole.time ≡ named.time
  pub fields : whole.fields ≡ archive.fields

-- Why the archive of this name among these isn't whole: it is there, and its record, its stream or a content is refused, the first in the
-- order of the stream.
pub record RefusesWhole (files : Files) (log : LogState) (keys : Keys) (archives : List ArchiveRef) (name : List ℕ) (fault : RepoFault) : Type 0 where
  pub named : ArchiveRef
  pub named_is : archive_named name archives ≡ Some named
  pub refused : RefusesArchive each_item files log keys named.id fault

-- The view of files that open under a secret: a name has this whole archive.
pub record HasWhole (files : Files) (secret : Secret) (name : List ℕ) (whole : WholeArchive) : Type 0 where
  pub repo : RepoState
  pub opens : OpensFilesTo files secret repo
  pub is : IsWhole files repo.log repo.keys repo.manifest.archives name whole
