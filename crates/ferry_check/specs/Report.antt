-- What a check of a repository reports: how many archives and live chunks it has, and either its first fault, or how many chunks no archive
-- uses and how many archives have an untagged record.
use Rattle.std.specs.Prelude.{◌≡◌, ◌↔◌, ℕ, Bool, true, not, List, [], ◌∷◌, ◌++◌, length, map, filter, unwrap_or, Some, MatchOption}
use Rattle.std.specs.List.{flat_map, list_any}
use Rattle.std.specs.List.Sorted.{IsStrictlySortedBy}
use Rattle.std.specs.Ordering.{eq_by_cmp}
use Rattle.ferry_disk.specs.Files.{Files}
use Rattle.ferry_item.specs.Item.{ItemText}
use Rattle.ferry_item.specs.declared.item.ChunkRef.{ChunkRef}
use Rattle.ferry_log.specs.Live.{key_cmp}
use Rattle.ferry_log.specs.State.{LogState}
use Rattle.ferry_manifest.specs.Record.Text.{ArchiveText}
use Rattle.ferry_manifest.specs.declared.manifest.ArchiveRef.{ArchiveRef}
use Rattle.ferry_repo.specs.Archives.{archive_named, HoldsRecord}
use Rattle.ferry_repo.specs.Opening.{RepoState}
use Rattle.ferry_repo.specs.Walk.{IsStream}
use Rattle.ferry_repo.specs.declared.fault.RepoFault.{RepoFault}
use Rattle.ferry_check.specs.Verify.{IsChunk, Verifies, FirstBad}
use Rattle.ferry_check.specs.declared.report.Report.{Report}

-- ---- what archives use

-- an archive as it is read: the id of its record, what the record says, and its items
pub record ArchiveRead : Type 0 where
  pub id : List ℕ
  pub archive : ArchiveText
  pub items : List ItemText

-- The archive of this name has this record and these items.
pub record IsRead (files : Files) (repo : RepoState) (name : List ℕ) (read : ArchiveRead) : Type 0 where
  pub named : ArchiveRef
  pub named_is : archive_named name repo.manifest.archives ≡ Some named
  pub id : read.id ≡ named.id
  pub record_is : HoldsRecord files repo.log repo.keys named.id read.archive
  pub stream : IsStream files repo.log repo.keys read.archive.items read.items

-- Each of these archives has this record and these items.
abbrev pub AreRead : Files → RepoState → List ArchiveRef → List ArchiveRead → Type 0
AreRead files repo [] [] = Unit {0}
AreRead files repo [] (read ∷ reads) = ⊥
AreRead files repo (named ∷ archives) [] = ⊥
AreRead files repo (named ∷ archives) (read ∷ reads) = IsRead files repo named.name read × AreRead files repo archives reads

-- the ids of these chunks
abbrev pub ids_in : List ChunkRef → List (List ℕ)
ids_in chunks = map (λ (c : ChunkRef). c.id) chunks

-- the ids of the chunks of an item
abbrev pub ids_of : ItemText → List (List ℕ)
ids_of item = ids_in (unwrap_or item.chunks [])

-- the ids that an archive uses: its record's, those of its stream, and those of its contents
abbrev pub ids_used : ArchiveRead → List (List ℕ)
ids_used read = read.id ∷ (read.archive.items ++ flat_map ids_of read.items)

-- whether an id is among these
abbrev pub is_among : List ℕ → List (List ℕ) → Bool
is_among id ids = list_any (λ other. eq_by_cmp key_cmp other id) ids

-- ---- what is counted

-- These are the ids of all live chunks, in byte order, each once.
pub record AreChunks (log : LogState) (ids : List (List ℕ)) : Type 0 where
  pub sorted : IsStrictlySortedBy key_cmp ids
  pub each : (id : List ℕ) → (is_among id ids ≡ true) ↔ IsChunk log id

-- those of these chunks that no archive uses
abbrev pub orphans : List (List ℕ) → List ArchiveRead → List (List ℕ)
orphans ids reads = filter (λ id. not (is_among id (flat_map ids_used reads))) ids

-- the archives whose record has no authentication tag
abbrev pub untagged : List ArchiveRead → List ArchiveRead
untagged reads = filter (λ read. not read.archive.tagged) reads

-- ---- reports

-- The archives of the manifest and the live chunks are counted.
pub record Counts (repo : RepoState) (report : Report) : Type 0 where
  pub archives : report.archives ≡ length repo.manifest.archives
  pub ids : List (List ℕ)
  pub chunks_are : AreChunks repo.log ids
  pub chunks : report.chunks ≡ length ids

-- The repository verifies, and the chunks that no archive uses and the untagged records are counted.
pub record IsGood (files : Files) (repo : RepoState) (report : Report) : Type 0 where
  pub verifies : Verifies files repo
  pub ids : List (List ℕ)
  pub chunks_are : AreChunks repo.log ids
  pub reads : List ArchiveRead
  pub are_read : AreRead files repo repo.manifest.archives reads
  pub orphans : report.orphans ≡ length (orphans ids reads)
  pub untagged : report.untagged ≡ length (untagged reads)

-- The repository has this first fault, and nothing else is counted.
pub record IsBad (files : Files) (repo : RepoState) (report : Report) (fault : RepoFault) : Type 0 where
  pub first : FirstBad files repo fault
  pub orphans : report.orphans ≡ 0
  pub untagged : report.untagged ≡ 0

-- What a report says of files and the repository that is read from them.
abbrev pub IsReport : Files → RepoState → Report → Type 0
IsReport files repo report = MatchOption report.bad (IsGood files repo report) (λ fault. IsBad files repo report fault)
