-- Steps of the bodies that count references: what was counted so far, and what a walk, an archive or several archives add.
use Rattle.std.specs.Prelude.{◌≡◌, ◌==◌, ◌+◌, ◌&&◌, ℕ, nat_lt, Bool, not, List, Option, Some, None, IfSome, is_some}
use Rattle.std.specs.List.{flat_map}
use Rattle.std.specs.Str.{bytes_eq}
use Rattle.ferry_base.specs.Limits.{zero_id}
use Rattle.ferry_check.specs.Report.{ArchiveRead, IsRead, AreRead, ids_of, ids_used}
use Rattle.ferry_check.specs.Steps.{Answers}
use Rattle.ferry_disk.specs.Device.{Told, told_files}
use Rattle.ferry_disk.specs.Files.{Files}
use Rattle.ferry_item.specs.Item.{ItemText}
use Rattle.ferry_log.specs.State.{LogState, place_in}
use Rattle.ferry_manifest.specs.declared.manifest.ArchiveRef.{ArchiveRef}
use Rattle.ferry_repo.specs.Opening.{RepoState}
use Rattle.ferry_repo.specs.Walk.{WalkState, IsToCome}
use Rattle.ferry_repo.specs.declared.fault.RepoFault.{RepoFault}
use Rattle.ferry_refs.specs.Refs.{occurrences}

-- how often each id was counted
abbrev pub Tally : Type 0
Tally = List ℕ → ℕ

-- no id was counted
abbrev pub no_tally : Tally
no_tally id = 0

-- Each id is counted as often more as it stands among these.
abbrev pub Adds : List (List ℕ) → Tally → Tally → Type 0
Adds ids before after = (id : List ℕ) → after id ≡ before id + occurrences id ids

-- ---- walks

-- The walk has answered some items, whose chunks are counted.
pub record GoesOn (told : Option Told) (repo : RepoState) (from now : WalkState) (before after : Tally) : Type 0 where
  pub done : List ItemText
  pub answers : IfSome told (λ t. Answers (told_files t) repo from done now)
  pub adds : Adds (flat_map ids_of done) before after

-- From where a walk stands these items come up to the end of the whole stream; their chunks are counted.
pub record CountsItems (told : Option Told) (repo : RepoState) (walk : WalkState) (before after : Tally) : Type 0 where
  pub items : List ItemText
  pub come : IfSome told (λ t. IsToCome (told_files t) repo.log repo.keys walk items None)
  pub adds : Adds (flat_map ids_of items) before after

-- From where a walk stands some items come, and this fault ends them.
abbrev pub StreamEnds : Files → RepoState → WalkState → RepoFault → Type 0
StreamEnds files repo walk fault = (items : List ItemText) × IsToCome files repo.log repo.keys walk items (Some fault)

-- ---- archives

-- The archive of this name reads, and what it uses is counted.
pub record CountsArchive (told : Option Told) (repo : RepoState) (name : List ℕ) (before after : Tally) : Type 0 where
  pub read : ArchiveRead
  pub is : IfSome told (λ t. IsRead (told_files t) repo name read)
  pub adds : Adds (ids_used read) before after

-- These archives read, and what they use is counted.
pub record CountsArchives (told : Option Told) (repo : RepoState) (archives : List ArchiveRef) (before after : Tally) : Type 0 where
  pub reads : List ArchiveRead
  pub are : IfSome told (λ t. AreRead (told_files t) repo archives reads)
  pub adds : Adds (flat_map ids_used reads) before after

-- ---- chunks that go

-- whether an id is that of a live chunk that an archive uses, and as often as all archives do
abbrev pub goes_by : LogState → Tally → Tally → List ℕ → Bool
goes_by log all own id = nat_lt 0 (own id) && ((own id == all id) && (not (bytes_eq id zero_id) && is_some (place_in log id)))
