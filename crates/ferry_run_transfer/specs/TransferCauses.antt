-- Why a transfer isn't done, by the files of both repositories, and where it is done.
use Rattle.std.specs.Prelude.{◌≡◌, ◌≢◌, ◌⊎◌, ◌++◌, ℕ, false, List, [], ◌∷◌, Option, Some, IfSome, IsSome, slice_get}
use Rattle.ferry_base.specs.Limits.{zero_id}
use Rattle.ferry_blob.specs.Blob.{OpensTo, content_id}
use Rattle.ferry_carry.specs.Chosen.{IsMissingName}
use Rattle.ferry_piece.specs.Gather.{IsAmong}
use Rattle.ferry_carry.specs.Accepting.{LimitsNames}
use Rattle.ferry_carry.specs.Listing.{BeginsNames}
use Rattle.ferry_piece.specs.Puts.{Addition}
use Rattle.ferry_carry.specs.Naming.{TagsDrawn}
use Rattle.ferry_carry.specs.Refusals.{HasLargeRecord, HasLongItem, StopsAtChunk, is_of_telling}
use Rattle.ferry_carry.specs.Telling.{AreLines}
use Rattle.ferry_piece.specs.declared.fault.CarryFault.{CarryFault}
use Rattle.ferry_piece.specs.declared.fault.CarryFault.TheVariants as Carry
use Rattle.ferry_disk.specs.Device.{Told, told_files}
use Rattle.ferry_disk.specs.Files.{Files, file_at}
use Rattle.ferry_disk.specs.declared.name.Name.TheVariants.{Nonce as NonceFile}
use Rattle.ferry_nonce.specs.declared.fault.NonceFault.TheVariants as Nonces
use Rattle.ferry_repo.specs.Archives.{archive_named}
use Rattle.ferry_repo.specs.Fault.{IsOfFiles}
use Rattle.ferry_repo.specs.Objects.{BreaksObject, HasBlob}
use Rattle.ferry_repo.specs.Opening.{OpensFilesTo, RefusesRepo, RepoState}
use Rattle.ferry_repo.specs.Whole.{HasWhole, RefusesWhole, WholeArchive}
use Rattle.ferry_repo.specs.declared.fault.RepoFault.{RepoFault}
use Rattle.ferry_repo.specs.declared.fault.RepoFault.TheVariants as Repos
use Rattle.ferry_stops.specs.Counters.{SpellsNumber}
use Rattle.ferry_stops.specs.Tells.{lines_of}
use Rattle.ferry_store.specs.Causes.{HasFewBlocks, HasLastSegment}
use Rattle.ferry_store.specs.Store.{RefusesOpen}
use Rattle.ferry_store.specs.declared.fault.StoreRefusal.{StoreRefusal}
use Rattle.ferry_store.specs.declared.fault.StoreRefusal.TheVariants as Store
use Rattle.ferry_run_transfer.specs.Rerun.{IsAbsentOrEqual, LacksName}
use Rattle.ferry_status.specs.Devices.{IsRefusedBy}
use Rattle.ferry_status.specs.Status.{carry_status}
use Rattle.ferry_carry.specs.States.{Drawn}
use Rattle.ferry_run_transfer.specs.Transfer.{KeepsArchives, NoneCollide, Request, chosen_of, from_source}
use Rattle.ferry_status.specs.declared.status.Limit.{Limit}
use Rattle.ferry_status.specs.declared.status.Limit.TheVariants as Limits
use Rattle.ferry_status.specs.declared.status.Status.{Status}
use Rattle.ferry_status.specs.declared.status.Status.TheVariants as Statuses
use Rattle.ferry_write.specs.declared.fault.WriteFault.TheVariants as Writes

-- ---- the source

-- The source's files open, and the target's at the begin, and this holds of a chosen name. These lines tell the chosen names before it, and nothing else.
pub record IsOfChosen (request : Request) (source start : Files) (lines : List (List ℕ)) (Holds : RepoState → RepoState → List ℕ → Type 0) : Type 0 where
  pub repo : RepoState
  pub opens : OpensFilesTo source request.secrets.source repo
  pub target : RepoState
  pub target_opens : OpensFilesTo start request.secrets.target target
  pub done : List (List ℕ)
  pub name : List ℕ
  pub rest : List (List ℕ)
  pub split : chosen_of request.names repo.manifest ≡ done ++ name ∷ rest
  pub told : AreLines target.manifest [] lines done
  pub holds : Holds repo target name

-- Why the source is refused: its files don't open, or a chosen archive isn't whole there.
abbrev pub RefusesSource : Request → Files → Files → List (List ℕ) → RepoFault → Type 0
RefusesSource request source start lines fault = RefusesRepo source request.secrets.source fault
    ⊎ IsOfChosen request source start lines (λ repo target name. RefusesWhole source repo.log repo.keys repo.manifest.archives name fault)

-- Of the chosen names this is the first that the source lacks.
pub record IsFirstMissing (request : Request) (source : Files) (name : List ℕ) : Type 0 where
  pub repo : RepoState
  pub opens : OpensFilesTo source request.secrets.source repo
  pub place : ℕ
  pub missing : IsMissingName repo.manifest (chosen_of request.names repo.manifest) place
  pub name_is : slice_get (chosen_of request.names repo.manifest) place ≡ Some name

-- The source's files open, and each of the chosen names is that of one of its archives.
pub record IsFound (request : Request) (source : Files) : Type 0 where
  pub repo : RepoState
  pub opens : OpensFilesTo source request.secrets.source repo
  pub found : (place : ℕ) (name : List ℕ) → slice_get (chosen_of request.names repo.manifest) place ≡ Some name
      → IsSome (archive_named name repo.manifest.archives)

-- ---- the target

-- The target's files open to a repository of which this holds.
pub record IsOfTarget (request : Request) (files : Files) (Holds : RepoState → Type 0) : Type 0 where
  pub repo : RepoState
  pub opens : OpensFilesTo files request.secrets.target repo
  pub holds : Holds repo

-- The source's files open, and the target's at the begin, and this is the id of a content that is added for the chosen names, as far as their records are
-- tagged from what this run drew.
pub record IsOfAdded (request : Request) (drawn : Drawn) (source start : Files) (id : List ℕ) : Type 0 where
  pub repo : RepoState
  pub opens : OpensFilesTo source request.secrets.source repo
  pub target : RepoState
  pub target_opens : OpensFilesTo start request.secrets.target target
  pub front : List Addition
  pub one : Addition
  pub begins : BeginsNames (from_source request source repo) target.keys target.manifest [] (chosen_of request.names repo.manifest) (front ++ one ∷ [])
  pub tags : TagsDrawn target.keys (front ++ one ∷ []) drawn.before drawn.now
  pub id_is : id ≡ content_id target.keys one.content

-- The source's files open, and the target's at the begin. These lines tell the chosen names before one, and nothing else, and this is the id of a content that
-- was to be added for that one, behind all that is added for those before it. The records are tagged from what this run drew.
pub record IsOfNext (request : Request) (drawn : Drawn) (source start : Files) (lines : List (List ℕ)) (id : List ℕ) : Type 0 where
  pub repo : RepoState
  pub opens : OpensFilesTo source request.secrets.source repo
  pub target : RepoState
  pub target_opens : OpensFilesTo start request.secrets.target target
  pub stops : StopsAtChunk (from_source request source repo) target.keys target.manifest (chosen_of request.names repo.manifest)
      (AreLines target.manifest [] lines) drawn.before drawn.now id

-- The target's manifest, behind archives that these lines tell, and nothing else, is too large with the next of the chosen names.
pub record HasLargeTarget (request : Request) (source start : Files) (lines : List (List ℕ)) : Type 0 where
  pub repo : RepoState
  pub opens : OpensFilesTo source request.secrets.source repo
  pub target : RepoState
  pub target_opens : OpensFilesTo start request.secrets.target target
  pub limits : LimitsNames request.timestamp repo.manifest target.keys target.manifest (chosen_of request.names repo.manifest)
      (AreLines target.manifest [] lines)

-- Why the target isn't written: a chunk that is live in it, and whose id is that of a content that was to be added, breaks a rule, the counter blocks of a blob
-- aren't left at the end, or the numbers of segments are used up then; or its manifest is too large, a device failed, or memory was refused.
abbrev pub StopsWriting : Request → Drawn → Files → Files → List (List ℕ) → Files → StoreRefusal → Type 0
StopsWriting request drawn source start lines image (Store.Repo (Repos.Blob id fault)) =
    IsOfTarget request start (λ repo. (id ≢ zero_id) × BreaksObject start repo.log repo.keys id fault) × IsOfNext request drawn source start lines id
StopsWriting request drawn source start lines image (Store.Repo Repos.Device) = Unit {0}
StopsWriting request drawn source start lines image (Store.Repo fault) = ⊥
StopsWriting request drawn source start lines image (Store.Write Writes.Numbers) = HasLastSegment image
StopsWriting request drawn source start lines image (Store.Write fault) = Unit {0}
StopsWriting request drawn source start lines image (Store.Nonce Nonces.Exhausted) = HasFewBlocks start image
StopsWriting request drawn source start lines image (Store.Nonce Nonces.Device) = Unit {0}
StopsWriting request drawn source start lines image (Store.Nonce fault) = ⊥
StopsWriting request drawn source start lines image Store.Committed = ⊥
StopsWriting request drawn source start lines image Store.TooLarge = HasLargeTarget request source start lines
StopsWriting request drawn source start lines image Store.Entropy = Unit {0}
StopsWriting request drawn source start lines image Store.Memory = Unit {0}

-- These lines tell a front of the chosen names, behind which is one more, and nothing else.
abbrev pub IsBehindTold : Request → Files → Files → List (List ℕ) → Type 0
IsBehindTold request source start lines = IsOfChosen request source start lines (λ repo target name. Unit {0})

-- Why the target is refused: the source has each chosen name, and the target's files don't open to be written; or they can't be written on, but for a line that
-- isn't told, in front of a name that isn't told.
abbrev pub RefusesTarget : Request → Drawn → Files → Files → List (List ℕ) → Files → StoreRefusal → Type 0
RefusesTarget request drawn source start lines image refusal = (IsFound request source × RefusesOpen request.secrets.target start refusal)
    ⊎ (StopsWriting request drawn source start lines image refusal
    × (is_of_telling (Carry.Target refusal) ≡ false → IsBehindTold request source start lines))

-- A chosen archive is whole in the source, and its name is taken in the target: the archive there isn't whole, or says something else. These lines tell the
-- chosen names before it, and nothing else.
pub record IsTaken (request : Request) (source start : Files) (lines : List (List ℕ)) (image : Files) (name : List ℕ) : Type 0 where
  pub from : RepoState
  pub source_opens : OpensFilesTo source request.secrets.source from
  pub before : RepoState
  pub target_opens : OpensFilesTo start request.secrets.target before
  pub done : List (List ℕ)
  pub rest : List (List ℕ)
  pub split : chosen_of request.names from.manifest ≡ done ++ name ∷ rest
  pub told : AreLines before.manifest [] lines done
  pub whole : WholeArchive
  pub whole_there : HasWhole source request.secrets.source name whole
  pub repo : RepoState
  pub opens : OpensFilesTo image request.secrets.target repo
  pub there : IsSome (archive_named name repo.manifest.archives)
  pub differs : HasWhole image request.secrets.target name whole → ⊥

-- ---- limits

-- A chosen archive that the target lacked has an item that is too long.
abbrev pub HasLongChosen : Request → Files → Files → List (List ℕ) → Type 0
HasLongChosen request source start lines = IsOfChosen request source start lines (λ repo target name.
    LacksName target.manifest name × HasLongItem source (from_source request source repo) name)

-- A chosen archive that the target lacked is whole, and its record would be too large.
abbrev pub HasLargeChosen : Request → Files → Files → List (List ℕ) → Type 0
HasLargeChosen request source start lines = IsOfChosen request source start lines (λ repo target name.
    LacksName target.manifest name × HasLargeRecord source (from_source request source repo) target.keys name)

-- ---- causes

-- Why a transfer isn't done, by the files of the source, by those of the target at its begin, by the lines that were told, and by what is read of the target
-- at its end.
abbrev pub RefusesTransfer : Request → Drawn → Files → Files → List (List ℕ) → Files → CarryFault → Type 0
RefusesTransfer request drawn source start lines image (Carry.Source fault) = IsOfFiles fault → RefusesSource request source start lines fault
RefusesTransfer request drawn source start lines image (Carry.Target refusal) = RefusesTarget request drawn source start lines image refusal
RefusesTransfer request drawn source start lines image (Carry.Taken name) = IsTaken request source start lines image name
RefusesTransfer request drawn source start lines image (Carry.NotFound name) = IsFirstMissing request source name
RefusesTransfer request drawn source start lines image Carry.Pieces = HasLongChosen request source start lines
RefusesTransfer request drawn source start lines image Carry.Memory = Unit {0}
RefusesTransfer request drawn source start lines image Carry.Record = HasLargeChosen request source start lines

-- A fault comes before the target is opened: the source's files don't open, a chosen name isn't among its archives, or memory was refused.
abbrev pub IsBeforeTarget : Request → CarryFault → Type 0
IsBeforeTarget request (Carry.Source fault) = IfSome request.source (λ source. RefusesRepo source request.secrets.source fault)
IsBeforeTarget request (Carry.NotFound name) = Unit {0}
IsBeforeTarget request Carry.Memory = Unit {0}
IsBeforeTarget request fault = ⊥

-- What holds of the source's files, of the target's in a run that had made no act, of the lines that it told, and of the target's files as they are read at
-- its end, where all are told.
abbrev pub WhereRead : Option Files → Option Told → Option Told → (Files → Files → List (List ℕ) → Files → Type 0) → Type 0
WhereRead source before now P = IfSome source (λ files. IfSome before (λ b. IfSome now
    (λ t. b.history.acts ≡ [] → P files (told_files b) (lines_of t.history.acts) (told_files t))))

-- Why a transfer isn't done, where the files are told.
abbrev pub RefusesAsked : Request → Drawn → Option Told → Option Told → CarryFault → Type 0
RefusesAsked request drawn before now fault =
    WhereRead request.source before now (λ source start lines image. RefusesTransfer request drawn source start lines image fault)

-- A status is that of a refusal, which says this of the files.
abbrev pub IsRefusedSo : Request → Drawn → Option Told → Option Told → Status → Type 0
IsRefusedSo request drawn before now status = IsRefusedBy carry_status (RefusesAsked request drawn before now) status

-- ---- where a transfer is done

-- What a transfer asks of its source and its target: the source's files open, and each chosen archive is whole there; the target's open, with a number in
-- the file `nonce`, each live chunk opens whose id is that of a content that this run adds, and each chosen name is absent there or its archive is equal.
pub record IsReadyFor (request : Request) (drawn : Drawn) (source start : Files) : Type 0 where
  pub from : RepoState
  pub source_opens : OpensFilesTo source request.secrets.source from
  pub whole : (name : List ℕ) → IsAmong (chosen_of request.names from.manifest) name
      → (whole : WholeArchive) × HasWhole source request.secrets.source name whole
  pub repo : RepoState
  pub opens : OpensFilesTo start request.secrets.target repo
  pub text : List ℕ
  pub nonce : file_at start NonceFile ≡ Some text
  pub number : ℕ
  pub spelled : SpellsNumber text number
  pub live : (id blob : List ℕ) → id ≢ zero_id → IsOfAdded request drawn source start id → HasBlob start repo.log id blob
      → (content : List ℕ) × OpensTo repo.keys id blob content
  pub chosen : (name : List ℕ) → IsAmong (chosen_of request.names from.manifest) name → IsAbsentOrEqual request source start repo name

-- a limit that is met
abbrev pub MeetsLimit : Request → Files → Files → List (List ℕ) → Files → Limit → Type 0
MeetsLimit request source start lines image Limits.Nonce = HasFewBlocks start image
MeetsLimit request source start lines image Limits.Manifest = HasLargeTarget request source start lines
MeetsLimit request source start lines image Limits.Archive = HasLargeChosen request source start lines
MeetsLimit request source start lines image Limits.Segment = HasLastSegment image
MeetsLimit request source start lines image Limits.Item = HasLongChosen request source start lines

-- It is done, unless memory was refused, a device failed, or a limit was met.
abbrev pub IsDoneUnless : Request → Files → Files → List (List ℕ) → Files → Status → Type 0
IsDoneUnless request source start lines image Statuses.Done = Unit {0}
IsDoneUnless request source start lines image Statuses.Memory = Unit {0}
IsDoneUnless request source start lines image Statuses.SourceDevice = Unit {0}
IsDoneUnless request source start lines image Statuses.TargetDevice = Unit {0}
IsDoneUnless request source start lines image Statuses.EntropyDevice = Unit {0}
IsDoneUnless request source start lines image (Statuses.Limit limit) = MeetsLimit request source start lines image limit
IsDoneUnless request source start lines image status = ⊥

-- Where what is asked is there, and no contents collide among those that were added and those that were live in the target at its begin, a transfer is done
-- unless that.
abbrev pub EndsDone : Request → Drawn → Option Told → Option Told → Status → Type 0
EndsDone request drawn before now status = IfSome request.source (λ source. IfSome before (λ b. IfSome now (λ t. b.history.acts ≡ []
    → (ready : IsReadyFor request drawn source (told_files b))
    → (keeps : KeepsArchives request (told_files b) ready.repo.manifest (lines_of t.history.acts) (told_files t))
    → NoneCollide request (told_files b) keeps.begun
    → IsDoneUnless request source (told_files b) (lines_of t.history.acts) (told_files t) status)))
