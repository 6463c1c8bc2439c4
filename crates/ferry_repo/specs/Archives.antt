-- The archives of a repository: the record that opens under the id that the manifest has for a name, and the contents of items
-- (BorgBackup 1.2, Internals, "Data structures and file formats", Archives).
use Rattle.std.specs.Prelude.{◌≡◌, ◌≢◌, ℕ, List, [], ◌∷◌, length, if◌then◌else◌, Option, Some, None, Ok, Err}
use Rattle.std.specs.Str.{bytes_eq}
use Rattle.ferry_disk.specs.Files.{Files}
use Rattle.ferry_item.specs.Stream.{joined}
use Rattle.ferry_item.specs.declared.item.ChunkRef.{ChunkRef}
use Rattle.ferry_log.specs.State.{LogState}
use Rattle.ferry_mac.specs.declared.keys.Keys.{Keys}
use Rattle.ferry_manifest.specs.Record.Text.{ArchiveText, archive_of}
use Rattle.ferry_manifest.specs.declared.fault.MetaFault.{MetaFault}
use Rattle.ferry_manifest.specs.declared.manifest.ArchiveRef.{ArchiveRef}
use Rattle.ferry_repo.specs.Fault.{IsOfFiles}
use Rattle.ferry_repo.specs.Objects.{HoldsChunk, RefusesChunk}
use Rattle.ferry_repo.specs.declared.fault.RepoFault.{RepoFault}
use Rattle.ferry_repo.specs.declared.fault.RepoFault.TheVariants.{Archive, Size, Memory}

-- ---- records

-- the archive of a name, none where no archive has it
unfoldable pub archive_named : List ℕ → List ArchiveRef → Option ArchiveRef
archive_named name [] = None
archive_named name (archive ∷ archives) = if bytes_eq archive.name name then Some archive else archive_named name archives

-- The chunk under an id is a record, which says this.
pub record HoldsRecord (files : Files) (log : LogState) (keys : Keys) (id : List ℕ) (archive : ArchiveText) : Type 0 where
  pub content : List ℕ
  pub chunk : HoldsChunk files log keys id content
  pub record_is : archive_of keys content ≡ Ok archive

-- Why the content of a chunk is no record.
abbrev pub IsNoRecord : Keys → List ℕ → List ℕ → RepoFault → Type 0
IsNoRecord keys id content (Archive named fault) = (named ≡ id) × (archive_of keys content ≡ Err fault)
IsNoRecord keys id content Memory = Unit {0}
IsNoRecord keys id content fault = ⊥

-- The chunk under an id is no record: it breaks this rule first.
pub record BreaksRecord (files : Files) (log : LogState) (keys : Keys) (id : List ℕ) (fault : MetaFault) : Type 0 where
  pub content : List ℕ
  pub chunk : HoldsChunk files log keys id content
  pub record_is : archive_of keys content ≡ Err fault

-- What a refusal says of a record.
abbrev pub RefusesRecord : Files → LogState → Keys → List ℕ → RepoFault → Type 0
RefusesRecord files log keys id (Archive named fault) = (named ≡ id) × BreaksRecord files log keys id fault
RefusesRecord files log keys id fault = RefusesChunk files log keys id fault

-- What is read of a name: its record, or none where no archive has it.
abbrev pub HoldsNamed : Files → LogState → Keys → Option ArchiveRef → Option ArchiveText → Type 0
HoldsNamed files log keys None None = Unit {0}
HoldsNamed files log keys None (Some archive) = ⊥
HoldsNamed files log keys (Some named) None = ⊥
HoldsNamed files log keys (Some named) (Some archive) = HoldsRecord files log keys named.id archive

-- What a refusal says of a name: its archive is there, and its record is refused.
abbrev pub RefusesNamed : Files → LogState → Keys → Option ArchiveRef → RepoFault → Type 0
RefusesNamed files log keys None fault = ⊥
RefusesNamed files log keys (Some named) fault = RefusesRecord files log keys named.id fault

-- ---- contents

-- A chunk of an item has this content, which has the stated length.
pub record HoldsContent (files : Files) (log : LogState) (keys : Keys) (chunk : ChunkRef) (content : List ℕ) : Type 0 where
  pub holds : HoldsChunk files log keys chunk.id content
  pub size : length content ≡ chunk.size

-- A chunk of an item has a content of another length.
pub record MissesSize (files : Files) (log : LogState) (keys : Keys) (chunk : ChunkRef) : Type 0 where
  pub content : List ℕ
  pub holds : HoldsChunk files log keys chunk.id content
  pub size : length content ≢ chunk.size

-- What a refusal says of an item's chunk.
abbrev pub RefusesContent : Files → LogState → Keys → ChunkRef → RepoFault → Type 0
RefusesContent files log keys chunk (Size named) = (named ≡ chunk.id) × MissesSize files log keys chunk
RefusesContent files log keys chunk fault = RefusesChunk files log keys chunk.id fault

-- Of these chunks of an item come these contents, and this end: none where all are there, each of its stated length, else the fault of
-- the first that isn't.
abbrev pub ContentsCome : Files → LogState → Keys → List ChunkRef → List (List ℕ) → Option RepoFault → Type 0
ContentsCome files log keys [] [] None = Unit {0}
ContentsCome files log keys [] [] (Some fault) = ⊥
ContentsCome files log keys [] (content ∷ contents) end = ⊥
ContentsCome files log keys (chunk ∷ chunks) [] None = ⊥
ContentsCome files log keys (chunk ∷ chunks) [] (Some fault) = IsOfFiles fault × RefusesContent files log keys chunk fault
ContentsCome files log keys (chunk ∷ chunks) (content ∷ contents) end =
    HoldsContent files log keys chunk content × ContentsCome files log keys chunks contents end

-- This is the content of an item with these chunks: none where it has no chunks, else theirs, joined.
abbrev pub HoldsJoined : Files → LogState → Keys → Option (List ChunkRef) → Option (List ℕ) → Type 0
HoldsJoined files log keys None None = Unit {0}
HoldsJoined files log keys None (Some content) = ⊥
HoldsJoined files log keys (Some chunks) None = ⊥
HoldsJoined files log keys (Some chunks) (Some content) =
    (contents : List (List ℕ)) × ContentsCome files log keys chunks contents None × (content ≡ joined contents)

-- One of these chunks of an item is refused first, so.
abbrev pub RefusesJoined : Files → LogState → Keys → Option (List ChunkRef) → RepoFault → Type 0
RefusesJoined files log keys None fault = ⊥
RefusesJoined files log keys (Some chunks) fault = (contents : List (List ℕ)) × ContentsCome files log keys chunks contents (Some fault)
