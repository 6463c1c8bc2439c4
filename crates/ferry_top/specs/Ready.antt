-- What a command asks of what its devices tell, and that it is done where that is there.
use Rattle.std.specs.Prelude.{ℕ, List, Option, Some, None}
use Rattle.ferry_check.specs.Verify.{IsNamed, Verifies}
use Rattle.ferry_disk.specs.Device.{Told, told_files}
use Rattle.ferry_disk.specs.Files.{Files, contents_at}
use Rattle.ferry_disk.specs.declared.name.Name.TheVariants.{Config}
use Rattle.ferry_refs.specs.Refs.{AllRead}
use Rattle.ferry_repo.specs.Opening.{OpensFilesTo, RepoState}
use Rattle.ferry_repo.specs.declared.secret.Secret.{Secret}
use Rattle.ferry_run_compact.specs.Compact.{IsCompactedUnless, ReadsTarget}
use Rattle.ferry_run_delete.specs.Delete.{LimitsDeletion}
use Rattle.ferry_run_plan.specs.Planning.{CanBePlanned, planned_for}
use Rattle.ferry_run_tag.specs.Tag.{LimitsTagging, OpensNew}
use Rattle.ferry_carry.specs.States.{Drawn}
use Rattle.ferry_run_transfer.specs.Transfer.{KeepsArchives, NoneCollide, Request, asked}
use Rattle.ferry_run_transfer.specs.TransferCauses.{IsReadyFor, MeetsLimit}
use Rattle.ferry_status.specs.declared.status.Limit.{Limit as LimitKind}
use Rattle.ferry_status.specs.declared.status.Secrets.{Secrets}
use Rattle.ferry_status.specs.declared.status.Status.{Status}
use Rattle.ferry_status.specs.declared.status.Status.TheVariants.{Done, Memory, SourceDevice, TargetDevice, EntropyDevice, OutputDevice, Limit}
use Rattle.ferry_status.specs.Opened.{OpensNumbered, OpensWith}
use Rattle.ferry_stops.specs.Tells.{lines_of}
use Rattle.ferry_top.specs.Init.{IsReady, time_or}
use Rattle.ferry_top.specs.Key.{IsIdLine}
use Rattle.ferry_top.specs.Keys.{IsListing}
use Rattle.ferry_top.specs.List.{IsArchiveListing}
use Rattle.ferry_top.specs.Items.{ShowsWhole}
use Rattle.ferry_words.specs.declared.command.Command.{Command}
use Rattle.ferry_words.specs.declared.command.Command.TheVariants.{Keys, Key, List as ListArchives, ListItems, Extract, Check}
use Rattle.ferry_words.specs.declared.command.Command.TheVariants.{Init, MakeKey, Transfer, Plan, Delete, Compact, TagArchives}
use Rattle.ferry_view.specs.Items.{IsFile, IsItemListing}

-- A device tells, and this holds of it.
abbrev pub Tells : Option Told → (Told → Type 0) → Type 0
Tells None P = ⊥
Tells (Some t) P = P t

-- what a command of the source asks of its files: that they have what it shows
abbrev pub HasShown : Command → Secret → Files → Type 0
HasShown Keys secret files = (text : List ℕ) × IsListing files text
HasShown Key secret files = (text : List ℕ) × IsIdLine secret (contents_at files Config) text
HasShown ListArchives secret files = (text : List ℕ) × IsArchiveListing secret files text
HasShown (ListItems name) secret files = (text : List ℕ) × ShowsWhole secret (λ f repo. IsItemListing f repo name) files text
HasShown (Extract name path) secret files = (text : List ℕ) × ShowsWhole secret (λ f repo. IsFile f repo name path) files text
HasShown Check secret files = OpensWith secret Verifies files
HasShown command secret files = ⊥

-- what a transfer asks, with what it kept at its end: no contents collide among those that it added and those that were live at its begin
abbrev pub IsReadyToCopy : Request → Drawn → Files → Told → Told → Type 0
IsReadyToCopy request drawn source start now = (ready : IsReadyFor request drawn source (told_files start))
    × ((keeps : KeepsArchives request (told_files start) ready.repo.manifest (lines_of now.history.acts) (told_files now))
    × NoneCollide request (told_files start) keeps.begun)

-- what each command asks of what the source and the target tell before it, and `transfer` and `tag-archives` also of what the target tells behind it,
-- `transfer` of what was drawn too
abbrev pub IsReadyTo : Command → Secrets → Drawn → (source before now : Option Told) → Type 0
IsReadyTo (Init iterations timestamp) secrets drawn source before now = Tells before (λ b. IsReady secrets.target (time_or timestamp) (told_files b))
IsReadyTo (MakeKey iterations) secrets drawn source before now = Unit {0}
IsReadyTo (Transfer block checkpoint timestamp names) secrets drawn source before now = Tells source (λ s. Tells before (λ b. Tells now (λ t.
    IsReadyToCopy (asked secrets (record { block = block; checkpoint = checkpoint; timestamp = timestamp }) names (Some s)) drawn (told_files s) b t)))
IsReadyTo (Plan block names) secrets drawn source before now =
    Tells source (λ s. Tells before (λ b. CanBePlanned (planned_for secrets block names (Some s)) (told_files s) (told_files b)))
IsReadyTo (Delete timestamp name) secrets drawn source before now =
    Tells before (λ b. Tells now (λ t.
    (ready : OpensNumbered secrets.target (told_files b)) × (IsNamed ready.repo name × AllRead (told_files b) ready.repo)))
IsReadyTo (Compact threshold) secrets drawn source before now = Tells before (λ b. Tells now (λ t. ReadsTarget (told_files b)))
IsReadyTo (TagArchives timestamp) secrets drawn source before now = Tells before (λ b. Tells now (λ t.
    (ready : OpensNumbered secrets.target (told_files b)) × (AllRead (told_files b) ready.repo
    × OpensNew (told_files b) ready.repo drawn.before drawn.now (told_files t))))
IsReadyTo command secrets drawn source before now = Tells source (λ s. HasShown command secrets.source (told_files s))

-- the limits that a command can meet, each with what it says then
abbrev pub Meets : Command → Secrets → (source before now : Option Told) → LimitKind → Type 0
Meets (Transfer block checkpoint timestamp names) secrets source before now limit = Tells source (λ s. Tells before (λ b. Tells now (λ t.
    MeetsLimit (asked secrets (record { block = block; checkpoint = checkpoint; timestamp = timestamp }) names (Some s)) (told_files s) (told_files b)
    (lines_of t.history.acts) (told_files t) limit)))
Meets (Delete timestamp name) secrets source before now limit = Tells before (λ b. Tells now (λ t. (repo : RepoState)
    × (OpensFilesTo (told_files b) secrets.target repo
    × LimitsDeletion name timestamp repo t.history.start (told_files t) limit)))
Meets (TagArchives timestamp) secrets source before now limit = Tells before (λ b. Tells now (λ t. (repo : RepoState)
    × (OpensFilesTo (told_files b) secrets.target repo
    × LimitsTagging timestamp repo (told_files b) t.history.start (told_files t) limit)))
Meets (Compact threshold) secrets source before now limit = Tells now (λ t. IsCompactedUnless (told_files t) (Limit limit))
Meets command secrets source before now limit = ⊥

-- It is done, unless memory was refused, a device failed, or a limit was met, so.
abbrev pub IsDoneOr : (LimitKind → Type 0) → Status → Type 0
IsDoneOr IsMet Done = Unit {0}
IsDoneOr IsMet Memory = Unit {0}
IsDoneOr IsMet SourceDevice = Unit {0}
IsDoneOr IsMet TargetDevice = Unit {0}
IsDoneOr IsMet EntropyDevice = Unit {0}
IsDoneOr IsMet OutputDevice = Unit {0}
IsDoneOr IsMet (Limit limit) = IsMet limit
IsDoneOr IsMet status = ⊥
