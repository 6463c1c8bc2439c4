-- What the command that copies archives leaves in its target, whatever a stop of the machine does, and what it has copied at its end.
use Rattle.std.specs.Prelude.{◌≡◌, ◌≢◌, ◌⊎◌, ℕ, List, [], ◌∷◌, ◌++◌, map, Option, Some, None, option_map, IfSome}
use Rattle.std.specs.List.{AllByRecursion}
use Rattle.ferry_base.specs.Limits.{zero_id}
use Rattle.ferry_blob.specs.Blob.{OpensTo, content_id}
use Rattle.ferry_carry.specs.Accepting.{AreNamedNext, AreNextOf}
use Rattle.ferry_carry.specs.Carrying.{IsRecordText, Origin}
use Rattle.ferry_carry.specs.Copied.{IsCopyOf}
use Rattle.ferry_piece.specs.Gather.{HoldsWithin, IsAmong, NoCollision}
use Rattle.ferry_carry.specs.Grow.{IsNamedBy, KeepsNames}
use Rattle.ferry_carry.specs.Listing.{BeginsNames, ListsNames}
use Rattle.ferry_carry.specs.Naming.{DrawsSalts, TaggedRecord}
use Rattle.ferry_piece.specs.Puts.{Addition, AddsAll, AddsFirst, Within, contents_in}
use Rattle.ferry_carry.specs.Telling.{AreLines, IsReport, TellsWhole}
use Rattle.ferry_carry.specs.declared.options.Carried.{Carried}
use Rattle.ferry_carry.specs.declared.options.Options.{Options}
use Rattle.ferry_disk.specs.Act.{History, files_now}
use Rattle.ferry_disk.specs.Device.{Told, told_files}
use Rattle.ferry_disk.specs.Files.{Files}
use Rattle.ferry_disk.specs.Moments.{Moments}
use Rattle.ferry_manifest.specs.Manifest.Text.{ManifestText}
use Rattle.ferry_manifest.specs.declared.manifest.ArchiveRef.{ArchiveRef}
use Rattle.ferry_repo.specs.Archives.{archive_named}
use Rattle.ferry_repo.specs.Objects.{HasBlob}
use Rattle.ferry_repo.specs.Opening.{RepoState, OpensFilesTo}
use Rattle.ferry_repo.specs.Whole.{HasWhole, WholeArchive}
use Rattle.ferry_segment.specs.Entry.{LogEntry}
use Rattle.ferry_stops.specs.Chance.{EachStop}
use Rattle.ferry_stops.specs.Entries.{Shows}
use Rattle.ferry_stops.specs.Tells.{lines_of}
use Rattle.ferry_store.specs.Store.{WritesEach}
use Rattle.ferry_status.specs.declared.status.Secrets.{Secrets}

-- ---- what is asked for

-- the names that a transfer chose: those that are given, and where none is given those of all archives of the source
abbrev pub chosen_of : List (List ℕ) → ManifestText → List (List ℕ)
chosen_of [] manifest = map (λ (entry : ArchiveRef). entry.name) manifest.archives
chosen_of (name ∷ names) manifest = name ∷ names

-- what a transfer is asked for: the secrets of both repositories, the length of the pieces that contents are cut into in the target, how many of them may
-- be pending, the time of the manifest, where it is given, the names that are given, and the files of the source, where they are told
pub record Request : Type 0 where
  pub secrets : Secrets
  pub block : ℕ
  pub checkpoint : ℕ
  pub timestamp : Option (List ℕ)
  pub names : List (List ℕ)
  pub source : Option Files

abbrev pub asked : Secrets → Options → List (List ℕ) → Option Told → Request
asked secrets options names told = record {
  secrets = secrets;
  block = options.block;
  checkpoint = options.checkpoint;
  timestamp = options.timestamp;
  names = names;
  source = option_map (λ (t : Told). told_files t) told;
}

-- the source that archives are copied from
abbrev pub from_source : Request → Files → RepoState → Origin
from_source request source repo = record { files = Some source; repo = repo; block = request.block; most = request.checkpoint; time = request.timestamp }

-- ---- what is there

-- No contents collide among those that were added and those that were live in the files that a target began with.
pub record NoneCollide (request : Request) (start : Files) (added : List Addition) : Type 0 where
  pub repo : RepoState
  pub opens : OpensFilesTo start request.secrets.target repo
  pub scope : List (List ℕ)
  pub apart : NoCollision repo.keys scope
  pub among : AllByRecursion (IsAmong scope) (contents_in added)
  pub live : HoldsWithin scope start repo

-- The archive of a name is whole in the source. In the target it is whole and says the same, where no contents collide among those that were added and those
-- that were live at the start.
pub record Arrives (request : Request) (source start image : Files) (added : List Addition) (repo : RepoState) (name : List ℕ) : Type 0 where
  pub whole : WholeArchive
  pub whole_there : HasWhole source request.secrets.source name whole
  pub entry : ArchiveRef
  pub entry_is : archive_named name repo.manifest.archives ≡ Some entry
  pub text : List ℕ
  pub id : entry.id ≡ content_id repo.keys text
  pub record_is : IsRecordText repo.keys text whole
  pub there : NoneCollide request start added → HasWhole image request.secrets.target name whole

-- The archive of a name is whole in the source. In the target its entry has the id of a record with its fields, and with the ids of the pieces of its stream,
-- which spells its items with the chunks of their contents, cut.
pub record IsCutThere (request : Request) (source : Files) (repo : RepoState) (name : List ℕ) : Type 0 where
  pub whole : WholeArchive
  pub whole_there : HasWhole source request.secrets.source name whole
  pub entry : ArchiveRef
  pub entry_is : archive_named name repo.manifest.archives ≡ Some entry
  pub text : List ℕ
  pub id : entry.id ≡ content_id repo.keys text
  pub salt : List ℕ
  pub copy : IsCopyOf repo.keys request.block whole.items whole.fields salt text

-- Of these names each is cut so that a manifest lacks.
abbrev pub AreCutThere : Request → ManifestText → RepoState → List (List ℕ) → Files → Type 0
AreCutThere request before repo done source = (name : List ℕ) → IsAmong done name → archive_named name before.archives ≡ None
    → IsCutThere request source repo name

-- Each chunk that is live in these files was live in those that they began with, with the same blob, or its blob opens.
abbrev pub BringsWhatOpens : Request → Files → Files → RepoState → Type 0
BringsWhatOpens request start image repo = (before : RepoState) → OpensFilesTo start request.secrets.target before → (id blob : List ℕ) → id ≢ zero_id
    → HasBlob image repo.log id blob → HasBlob start before.log id blob ⊎ ((content : List ℕ) × OpensTo before.keys id blob content)

-- Behind the entries that these files showed, the first of these additions were made one after another, and nothing else: what was live isn't put again,
-- nothing is put twice, no more are pending than may be, and a commit comes only before a piece where so many are, and with the manifest behind the record of
-- an archive.
abbrev pub AddsBehind : Request → Files → Files → List Addition → Type 0
AddsBehind request start image all = (before : RepoState) → OpensFilesTo start request.secrets.target before → (entries : List LogEntry)
    → Shows start (Some entries) → (after : List LogEntry)
    × (Shows image (Some after) × AddsFirst Within before.keys request.checkpoint entries all after)

-- The same with all of them.
abbrev pub AddsAllBehind : Request → Files → Files → List Addition → Type 0
AddsAllBehind request start image added = (before : RepoState) → OpensFilesTo start request.secrets.target before → (entries : List LogEntry)
    → Shows start (Some entries) → (after : List LogEntry)
    × (Shows image (Some after) × AddsAll Within before.keys request.checkpoint entries added after)

-- Where the source's files open, these are what is added for the chosen names to a target that opened so, as far as it came.
abbrev pub BeginsChosen : Request → RepoState → List Addition → Files → Type 0
BeginsChosen request before begun files = (repo : RepoState) → OpensFilesTo files request.secrets.source repo
    → BeginsNames (from_source request files repo) before.keys before.manifest [] (chosen_of request.names repo.manifest) begun

abbrev pub IsBegun : Request → Files → List Addition → Type 0
IsBegun request start begun =
    (before : RepoState) → OpensFilesTo start request.secrets.target before → IfSome request.source (BeginsChosen request before begun)

-- Where the source's files open, these names are a front of those that are chosen.
abbrev pub IsChosenFront : Request → List (List ℕ) → Files → Type 0
IsChosenFront request done files = (repo : RepoState) → OpensFilesTo files request.secrets.source repo
    → (rest : List (List ℕ)) × (chosen_of request.names repo.manifest ≡ done ++ rest)

-- Where the source's files open, a manifest is the one behind the archives of these names: each of those that are new with its time in the source, its item
-- fields those of both manifests, its time the one of the request or the later of both, and the rest as it was.
abbrev pub IsBehindNames : Request → ManifestText → List (List ℕ) → ManifestText → Files → Type 0
IsBehindNames request before done manifest files = (repo : RepoState) → OpensFilesTo files request.secrets.source repo
    → (ids : List (List ℕ)) × AreNextOf request.timestamp repo.manifest before done ids manifest

-- Files open under the target's secret, with the settings that these had, and each archive of these is named there, and says the same where it was whole. Of
-- the chosen names those of a front arrived, cut anew where they weren't there, and beside them and those that were there no other is named. What chunks
-- came, open, and each was put because none was live under its id; what was added is the first of what is added for the chosen names. These lines tell a
-- front of those that arrived, and behind them perhaps the whole.
pub record KeepsArchives (request : Request) (start : Files) (before : ManifestText) (lines : List (List ℕ)) (image : Files) : Type 0 where
  pub repo : RepoState
  pub opens : OpensFilesTo image request.secrets.target repo
  pub config : image.config ≡ start.config
  pub names : KeepsNames before repo.manifest
  pub wholes : (name : List ℕ) (whole : WholeArchive) → HasWhole start request.secrets.target name whole
      → HasWhole image request.secrets.target name whole
  pub done : List (List ℕ)
  pub front : IfSome request.source (IsChosenFront request done)
  pub begun : List Addition
  pub adds : AddsBehind request start image begun
  pub begins : IsBegun request start begun
  pub next : IfSome request.source (IsBehindNames request before done repo.manifest)
  pub arrived : IfSome request.source (λ files. AllByRecursion (Arrives request files start image begun repo) done)
  pub cut : IfSome request.source (AreCutThere request before repo done)
  pub only : IsNamedBy before done repo.manifest
  pub opening : BringsWhatOpens request start image repo
  pub told : IsReport before lines done

-- ---- each stop

-- In a run that had made no act, over files that open, each stop at each moment leaves files that open with each archive that was there, and with
-- those of a front of the chosen names, of which all are there that were told up to the moment.
abbrev pub TransferShows : Request → History → History → Type 0
TransferShows request before now = before.acts ≡ [] → (repo : RepoState) → OpensFilesTo (files_now before) request.secrets.target repo
    → Moments (λ moment. EachStop (KeepsArchives request (files_now before) repo.manifest (lines_of moment.acts)) moment) before now

-- At each moment of the command: its stops, the counter blocks of all runs, those of its own and the number in the file `nonce`, and its first act.
abbrev pub TransferEach : Request → History → History → Type 0
TransferEach request before now = WritesEach (TransferShows request) before now

-- ---- the end

-- The source's files open, and these are all names that are chosen.
abbrev pub IsChosen : Request → List (List ℕ) → Files → Type 0
IsChosen request done files =
    (repo : RepoState) × (OpensFilesTo files request.secrets.source repo × (done ≡ chosen_of request.names repo.manifest))

-- The source's files open, and this is all that is added for the chosen names to a target that opened so, with these records, by whose ids the archives that
-- are new come into its manifest, which is no larger with any of them than the content of an object may be.
abbrev pub ListsChosen : Request → RepoState → ManifestText → List TaggedRecord → List Addition → Files → Type 0
ListsChosen request before manifest records added files = (repo : RepoState) × (OpensFilesTo files request.secrets.source repo
    × (ListsNames (from_source request files repo) before.keys before.manifest [] (chosen_of request.names repo.manifest) records added
    × AreNamedNext request.timestamp repo.manifest before.keys before.manifest (chosen_of request.names repo.manifest) records manifest))

-- The target's files opened, and now they open with each archive that was there. All chosen names arrived and were told, and behind them the whole, with the
-- numbers of these names and of what was put. What was begun is all that is added for them, of which all was added. From the source of random bytes the salts
-- were drawn of the records that were added, each with that of the manifest behind it, and nothing else.
pub record HasTransferred (request : Request) (drawn drawn_now : Option (List ℕ)) (before now : History) : Type 0 where
  pub repo : RepoState
  pub opens : OpensFilesTo (files_now before) request.secrets.target repo
  pub keeps : KeepsArchives request (files_now before) repo.manifest (lines_of now.acts) (files_now now)
  pub all : IfSome request.source (IsChosen request keeps.done)
  pub carried : Carried
  pub told_all : TellsWhole repo.manifest keeps.done keeps.begun carried before now
  pub adds : AddsAllBehind request (files_now before) (files_now now) keeps.begun
  pub records : List TaggedRecord
  pub drew : DrawsSalts records drawn drawn_now
  pub lists : IfSome request.source (ListsChosen request repo keeps.repo.manifest records keeps.begun)

-- The same of a run that had made no act.
abbrev pub TransferEnds : Request → Option (List ℕ) → Option (List ℕ) → History → History → Type 0
TransferEnds request drawn drawn_now before now = before.acts ≡ [] → HasTransferred request drawn drawn_now before now

-- ---- at each end

-- Over files that opened, behind a run that had made no act, what is read of them keeps the archives, however it ended.
abbrev pub TransferLeaves : Request → History → History → Type 0
TransferLeaves request before now = before.acts ≡ [] → (repo : RepoState) → OpensFilesTo (files_now before) request.secrets.target repo
    → KeepsArchives request (files_now before) repo.manifest (lines_of now.acts) (files_now now)

-- The same, and these lines tell all of the archives that came, so that no other did.
abbrev pub LeavesTold : Request → History → History → Type 0
LeavesTold request before now = before.acts ≡ [] → (repo : RepoState) → OpensFilesTo (files_now before) request.secrets.target repo
    → (keeps : KeepsArchives request (files_now before) repo.manifest (lines_of now.acts) (files_now now))
    × AreLines repo.manifest [] (lines_of now.acts) keeps.done
