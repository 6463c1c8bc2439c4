-- What a transfer would put: the pieces of contents and of item streams that the target lacks, of the chosen archives that it lacks; and why no plan is made.
use Rattle.std.specs.Prelude.{◌≡◌, ◌≢◌, ◌⊎◌, ◌↔◌, ◌-◌, ◌^◌, ◌++◌, ℕ, List, [], ◌∷◌, map, min, Option, Some, None, IfSome, IsSome, IsTrue, slice_get}
use Rattle.ferry_base.specs.Limits.{zero_id}
use Rattle.ferry_blob.specs.Blob.{content_id}
use Rattle.ferry_carry.specs.Carrying.{Origin, SaysIn}
use Rattle.ferry_carry.specs.Chosen.{IsMissingName}
use Rattle.ferry_carry.specs.Listing.{IsThere, ListsContents}
use Rattle.ferry_carry.specs.Refusals.{HasLongItem}
use Rattle.ferry_disk.specs.Device.{Told, told_files}
use Rattle.ferry_disk.specs.Files.{Files}
use Rattle.ferry_log.specs.State.{LogState}
use Rattle.ferry_mac.specs.declared.keys.Keys.{Keys}
use Rattle.ferry_manifest.specs.Manifest.Text.{ManifestText}
use Rattle.ferry_piece.specs.Gather.{IsAmong}
use Rattle.ferry_piece.specs.Puts.{Addition, Content, Stream, contents_in, put_bytes, put_count}
use Rattle.ferry_plan.specs.declared.fault.PlanFault.{PlanFault}
use Rattle.ferry_plan.specs.declared.fault.PlanFault.TheVariants.{Source, Target, Taken, NotFound, Pieces, Memory}
use Rattle.ferry_plan.specs.declared.planning.Planned.{Planned}
use Rattle.ferry_repo.specs.Archives.{archive_named}
use Rattle.ferry_repo.specs.Fault.{IsOfFiles}
use Rattle.ferry_repo.specs.Objects.{IsMissing}
use Rattle.ferry_repo.specs.Opening.{RepoState}
use Rattle.ferry_repo.specs.Whole.{RefusesWhole, WholeArchive}
use Rattle.ferry_repo.specs.declared.fault.RepoFault.TheVariants as Repos

-- What holds of the files of a source and of a target, where both are told.
abbrev pub WhereBoth : Option Told → Option Told → (Files → Files → Type 0) → Type 0
WhereBoth told other P = IfSome told (λ s. IfSome other (λ t. P (told_files s) (told_files t)))

-- a source that has these files, and whose contents are cut into pieces of this length
abbrev pub source_of : Files → RepoState → ℕ → Origin
source_of there source block = record { files = Some there; repo = source; block = block; most = 1; time = None }

-- ---- what is listed

-- Of the archive of a name no item is reached that is too long.
abbrev pub HasNoLong : Files → RepoState → ℕ → List ℕ → Type 0
HasNoLong there source block name = HasLongItem there (source_of there source block) name → ⊥

-- The archive of a name is whole in the source, none of its items is too long, and these are the pieces of its contents and of its stream.
abbrev pub PlansArchive : Files → RepoState → ℕ → Keys → List ℕ → List Addition → Type 0
PlansArchive there source block keys name added =
    ListsContents there (source_of there source block) keys name added × HasNoLong there source block name

-- All that would be added for a name behind others, but for the record: nothing where its archive is there, and else its pieces.
abbrev pub PlansName : Files → RepoState → ℕ → Keys → ManifestText → List (List ℕ) → List ℕ → List Addition → Type 0
PlansName there source block keys accepted before name added = (IsThere accepted before name × (added ≡ []))
    ⊎ ((IsThere accepted before name → ⊥) × PlansArchive there source block keys name added)

-- The same for these names behind others.
abbrev pub PlansNames : Files → RepoState → ℕ → Keys → ManifestText → List (List ℕ) → List (List ℕ) → List Addition → Type 0
PlansNames there source block keys accepted before [] added = added ≡ []
PlansNames there source block keys accepted before (name ∷ names) added = (one : List Addition) × ((rest : List Addition) × ((added ≡ one ++ rest)
    × (PlansName there source block keys accepted before name one × PlansNames there source block keys accepted (before ++ name ∷ []) names rest)))

-- ---- what would be put

-- the ids of these contents
abbrev pub ids_of : Keys → List Addition → List (List ℕ)
ids_of keys added = map (content_id keys) (contents_in added)

-- A content would be put behind these: its id isn't the manifest's, isn't live in the target, and isn't that of one of these.
pub record IsFresh (keys : Keys) (log : LogState) (before : List Addition) (content : List ℕ) : Type 0 where
  pub chunk : content_id keys content ≢ zero_id
  pub missing : IsMissing log (content_id keys content)
  pub first : IsAmong (ids_of keys before) (content_id keys content) → ⊥

-- Each of these is put exactly where it would be, behind others.
abbrev pub PutsFresh : Keys → LogState → List Addition → List Addition → Type 0
PutsFresh keys log before [] = Unit {0}
PutsFresh keys log before (one ∷ rest) = (IsTrue one.put ↔ IsFresh keys log before one.content) × PutsFresh keys log (before ++ one ∷ []) rest

-- The numbers are those of what is put of these, up to the greatest of their types.
pub record CountsOf (added : List Addition) (planned : Planned) : Type 0 where
  pub chunks : planned.chunks ≡ min (put_count Content added) (2 ^ 64 - 1)
  pub bytes : planned.bytes ≡ min (put_bytes Content added) (2 ^ 128 - 1)
  pub meta : planned.meta ≡ min (put_count Stream added) (2 ^ 64 - 1)

-- ---- a plan

-- The archive of a name is whole in the source, and in the target, and says the same.
abbrev pub IsEqual : Files → RepoState → Files → RepoState → List ℕ → Type 0
IsEqual there source files target name = (whole : WholeArchive) × (SaysIn there source name whole × SaysIn files target name whole)

-- Of these names each that the target has is equal there; for the others this would be added, all but records.
pub record PlansAll (there : Files) (source : RepoState) (block : ℕ) (files : Files) (target : RepoState) (names : List (List ℕ)) (added : List Addition)
    : Type 0 where
  pub present : (name : List ℕ) → IsAmong names name → IsSome (archive_named name target.manifest.archives) → IsEqual there source files target name
  pub lists : PlansNames there source block target.keys target.manifest [] names added

-- The same, and so much of it would be put.
pub record Plans (there : Files) (source : RepoState) (block : ℕ) (files : Files) (target : RepoState) (names : List (List ℕ)) (planned : Planned)
    : Type 0 where
  pub added : List Addition
  pub all : PlansAll there source block files target names added
  pub fresh : PutsFresh target.keys target.log [] added
  pub counts : CountsOf added planned

-- ---- refusals

-- The archive of a name is whole in the source, and isn't whole in the target, or says something else there.
pub record Differs (there : Files) (source : RepoState) (files : Files) (target : RepoState) (name : List ℕ) : Type 0 where
  pub whole : WholeArchive
  pub says : SaysIn there source name whole
  pub differs : SaysIn files target name whole → ⊥

-- Why the archive of a name isn't planned: it isn't whole in the source, and where the target lacks the name no item that is too long is reached before; the
-- target has another archive of the name; or the target lacks the name, and an item is reached that is too long. Or a device failed, or memory was refused.
abbrev pub RefusesName : Option Told → RepoState → ℕ → Option Told → RepoState → List ℕ → PlanFault → Type 0
RefusesName told source block other target name (Source fault) = (fault ≢ Repos.Memory) × (IsOfFiles fault → IfSome told (λ s.
    RefusesWhole (told_files s) source.log source.keys source.manifest.archives name fault
    × (archive_named name target.manifest.archives ≡ None → HasNoLong (told_files s) source block name)))
RefusesName told source block other target name (Target fault) = fault ≡ Repos.Device
RefusesName told source block other target name (Taken taken) = (taken ≡ name) × (IsSome (archive_named name target.manifest.archives)
    × WhereBoth told other (λ there files. Differs there source files target name))
RefusesName told source block other target name (NotFound missing) = ⊥
RefusesName told source block other target name Pieces = (archive_named name target.manifest.archives ≡ None)
    × IfSome told (λ s. HasLongItem (told_files s) (source_of (told_files s) source block) name)
RefusesName told source block other target name Memory = Unit {0}

-- Of these names, of which each is that of an archive of the source, those of a front are planned, and the next isn't, so.
pub record RefusesBehind (told : Option Told) (source : RepoState) (block : ℕ) (other : Option Told) (target : RepoState) (names : List (List ℕ))
    (fault : PlanFault) : Type 0 where
  pub found : (name : List ℕ) → IsAmong names name → IsSome (archive_named name source.manifest.archives)
  pub done : List (List ℕ)
  pub name : List ℕ
  pub rest : List (List ℕ)
  pub split : names ≡ done ++ name ∷ rest
  pub planned : WhereBoth told other (λ there files. (added : List Addition) × PlansAll there source block files target done added)
  pub refused : RefusesName told source block other target name fault

-- Why no plan is made: the source has no archive of a name, the first such; or one of the archives isn't planned; or memory was refused.
abbrev pub RefusesPlan : Option Told → RepoState → ℕ → Option Told → RepoState → List (List ℕ) → PlanFault → Type 0
RefusesPlan told source block other target names (NotFound missing) =
    (place : ℕ) × (IsMissingName source.manifest names place × (slice_get names place ≡ Some missing))
RefusesPlan told source block other target names Memory = Unit {0}
RefusesPlan told source block other target names fault = RefusesBehind told source block other target names fault
