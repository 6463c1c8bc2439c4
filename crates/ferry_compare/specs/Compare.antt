-- How far two archives of one name were compared, and when no archive of the target can be what the source's is.
use Rattle.std.specs.Prelude.{◌≡◌, ℕ, List, ◌++◌, Option, Some, None, IfSome, option_map}
use Rattle.ferry_disk.specs.Device.{Told, told_files}
use Rattle.ferry_disk.specs.Files.{Files}
use Rattle.ferry_manifest.specs.Record.Text.{ArchiveText}
use Rattle.ferry_manifest.specs.declared.manifest.ArchiveRef.{ArchiveRef}
use Rattle.ferry_repo.specs.Archives.{archive_named, HoldsRecord}
use Rattle.ferry_repo.specs.Opening.{RepoState}
use Rattle.ferry_repo.specs.Walk.{WalkState, walk_view, FitsWalk}
use Rattle.ferry_repo.specs.Whole.{WholeItem, WholesCome, WholeArchive, IsWhole}
use Rattle.ferry_compare.specs.Matched.{AreMatched, Matched}
use Rattle.ferry_compare.specs.declared.comparison.Comparison.{Comparison}

-- ---- archives

-- The archive of this name in a repository over these files is whole, and says this.
abbrev pub Says : Files → RepoState → List ℕ → WholeArchive → Type 0
Says files repo name whole = IsWhole files repo.log repo.keys repo.manifest.archives name whole

-- An archive has the time and the fields of another, and begins with its items.
pub record Extends (front whole : WholeArchive) : Type 0 where
  pub time : whole.time ≡ front.time
  pub fields : whole.fields ≡ front.fields
  pub behind : List WholeItem
  pub items : whole.items ≡ front.items ++ behind

-- No archive that is whole under this name begins so: a difference is certain.
abbrev pub Apart : Files → RepoState → List ℕ → WholeArchive → Type 0
Apart files repo name front = (whole : WholeArchive) → Says files repo name whole → Extends front whole → ⊥

-- ---- how far an archive was read

-- The archive of this name was read so far: its record has this time and these fields, these items came with their contents, and the walk
-- stands behind them.
pub record ReadsSoFar (files : Files) (repo : RepoState) (name : List ℕ) (walk : WalkState) (front : WholeArchive) : Type 0 where
  pub named : ArchiveRef
  pub named_is : archive_named name repo.manifest.archives ≡ Some named
  pub archive : ArchiveText
  pub record_is : HoldsRecord files repo.log repo.keys named.id archive
  pub time : front.time ≡ named.time
  pub fields : front.fields ≡ archive.fields
  pub id : walk.id ≡ named.id
  pub ids : walk.ids ≡ archive.items
  pub fits : FitsWalk files repo.log repo.keys walk
  pub contents : WholesCome files repo.log repo.keys fits.items None front.items None

-- a repository as it was read: what its shelf told, and what it said
pub record Seen : Type 0 where
  pub told : Option Told
  pub repo : RepoState

abbrev pub seen : Option Told → RepoState → Seen
seen told repo = record { told = told; repo = repo }

-- The target's archive was read as far, by its walk; where it has none any more, a difference is certain in the target in which it was met.
abbrev pub StandsBeside : Option Told → RepoState → Seen → List ℕ → Option WalkState → WholeArchive → Type 0
StandsBeside heard target met name None front = IfSome met.told (λ t. Apart (told_files t) met.repo name front)
StandsBeside heard target met name (Some walk) front = IfSome heard (λ t. ReadsSoFar (told_files t) target name walk front)

-- the target in which a difference was met: this one, where it was met before, or else the one that is read now
abbrev pub met_behind : Option WalkState → Seen → Seen → Seen
met_behind None met now = met
met_behind (Some walk) met now = now

-- ---- comparisons

-- the name of both archives, where the source's walk stands, where the target's does, if no difference was met, and which contents were found to be the same
pub record ComparisonState : Type 0 where
  pub name : List ℕ
  pub walk : WalkState
  pub other : Option WalkState
  pub matched : Matched

-- what a `Comparison` says, apart from where its parts lie in memory
abbrev pub comparison_view : Comparison → ComparisonState
comparison_view c = record { name = c.name.items; walk = walk_view c.walk; other = option_map walk_view c.other; matched = c.matches }

-- A comparison fits what the shelves of both repositories tell: the same was read of both archives so far, or a difference is certain in the target in which
-- it was met; and the contents that were found to be the same are. Of a shelf that tells nothing it says nothing.
pub record FitsTold (told : Option Told) (source : RepoState) (heard : Option Told) (target : RepoState) (met : Seen) (state : ComparisonState) : Type 0 where
  pub front : WholeArchive
  pub read : IfSome told (λ t. ReadsSoFar (told_files t) source state.name state.walk front)
  pub beside : StandsBeside heard target met state.name state.other front
  pub matched : AreMatched told source heard target state.matched

-- ---- what is answered

-- Both archives are whole, and say the same.
pub record AreEqual (told : Option Told) (source : RepoState) (heard : Option Told) (target : RepoState) (name : List ℕ) : Type 0 where
  pub whole : WholeArchive
  pub first : IfSome told (λ t. Says (told_files t) source name whole)
  pub second : IfSome heard (λ t. Says (told_files t) target name whole)

-- The source's archive is whole, and the target's isn't, or says something else.
pub record Differ (told : Option Told) (source : RepoState) (heard : Option Told) (target : RepoState) (name : List ℕ) : Type 0 where
  pub whole : WholeArchive
  pub first : IfSome told (λ t. Says (told_files t) source name whole)
  pub second : IfSome heard (λ t. Says (told_files t) target name whole → ⊥)
