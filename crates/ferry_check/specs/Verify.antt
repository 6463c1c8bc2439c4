-- When a repository verifies: each live chunk opens, and each archive is whole; and the first fault where it doesn't. Chunks are looked at
-- before archives, chunks in byte order of their ids and archives in that of their names (BorgBackup 1.2, Internals, Repository, and
-- "Data structures and file formats", Archives).
use Rattle.std.specs.Prelude.{◌≡◌, ◌≢◌, ◌⊎◌, ℕ, List, ◌∷◌, ◌++◌, IsSome}
use Rattle.std.specs.List.{AllByRecursion}
use Rattle.std.specs.declared.cmp.Ordering.TheVariants.{Less}
use Rattle.ferry_base.specs.Limits.{zero_id}
use Rattle.ferry_disk.specs.Files.{Files}
use Rattle.ferry_log.specs.Live.{key_cmp}
use Rattle.ferry_log.specs.State.{LogState, place_in}
use Rattle.ferry_manifest.specs.declared.manifest.ArchiveRef.{ArchiveRef}
use Rattle.ferry_repo.specs.Archives.{archive_named}
use Rattle.ferry_repo.specs.Fault.{IsOfFiles}
use Rattle.ferry_repo.specs.Objects.{HoldsChunk, RefusesChunk}
use Rattle.ferry_repo.specs.Opening.{RepoState, OpensFilesTo}
use Rattle.ferry_repo.specs.Whole.{WholeArchive, IsWhole, RefusesWhole}
use Rattle.ferry_repo.specs.declared.fault.RepoFault.{RepoFault}
use Rattle.ferry_repo.specs.declared.secret.Secret.{Secret}

-- ---- what verifies

-- The id is that of a live chunk: the log has a place for it, and it isn't the manifest's.
pub record IsChunk (log : LogState) (id : List ℕ) : Type 0 where
  pub chunk : id ≢ zero_id
  pub live : IsSome (place_in log id)

-- The chunk of this id opens.
abbrev pub Opens : Files → RepoState → List ℕ → Type 0
Opens files repo id = (content : List ℕ) × HoldsChunk files repo.log repo.keys id content

-- Each live chunk opens.
abbrev pub AllOpen : Files → RepoState → Type 0
AllOpen files repo = (id : List ℕ) → IsChunk repo.log id → Opens files repo id

-- An archive of the manifest has this name.
abbrev pub IsNamed : RepoState → List ℕ → Type 0
IsNamed repo name = IsSome (archive_named name repo.manifest.archives)

-- The archive of this name is whole.
abbrev pub ReadsWhole : Files → RepoState → List ℕ → Type 0
ReadsWhole files repo name = (whole : WholeArchive) × IsWhole files repo.log repo.keys repo.manifest.archives name whole

-- Each live chunk opens, and each archive is whole.
pub record Verifies (files : Files) (repo : RepoState) : Type 0 where
  pub chunks : AllOpen files repo
  pub archives : (name : List ℕ) → IsNamed repo name → ReadsWhole files repo name

-- The view of files that open under a secret: what they open to verifies.
pub record FilesVerify (files : Files) (secret : Secret) : Type 0 where
  pub repo : RepoState
  pub opens : OpensFilesTo files secret repo
  pub verifies : Verifies files repo

-- ---- the first fault

-- This chunk is live and is refused so, and each live one below it opens.
pub record BadChunk (files : Files) (repo : RepoState) (fault : RepoFault) : Type 0 where
  pub id : List ℕ
  pub live : IsChunk repo.log id
  pub refused : RefusesChunk files repo.log repo.keys id fault
  pub before : (other : List ℕ) → IsChunk repo.log other → key_cmp other id ≡ Less → Opens files repo other

-- The archive of this name is refused so, and each one before it in the manifest is whole. In a repository that opens those before it are
-- those with lesser names.
pub record BadArchive (files : Files) (repo : RepoState) (fault : RepoFault) : Type 0 where
  pub before : List ArchiveRef
  pub named : ArchiveRef
  pub behind : List ArchiveRef
  pub archives : repo.manifest.archives ≡ before ++ (named ∷ behind)
  pub whole : AllByRecursion (λ a. ReadsWhole files repo a.name) before
  pub refused : RefusesWhole files repo.log repo.keys repo.manifest.archives named.name fault

-- A chunk is refused first, so; or each live chunk opens, and an archive is refused first, so.
abbrev pub FirstBad : Files → RepoState → RepoFault → Type 0
FirstBad files repo fault = IsOfFiles fault × (BadChunk files repo fault ⊎ (AllOpen files repo × BadArchive files repo fault))

-- The archive of this name is refused so, and each one with a lesser name is whole.
pub record BadName (files : Files) (repo : RepoState) (fault : RepoFault) : Type 0 where
  pub name : List ℕ
  pub refused : RefusesWhole files repo.log repo.keys repo.manifest.archives name fault
  pub before : (other : List ℕ) → IsNamed repo other → key_cmp other name ≡ Less → ReadsWhole files repo other
