-- What the command that plans a transfer prints, and what it says where it makes no plan.
use Rattle.std.specs.Prelude.{◌≡◌, ◌⊎◌, ◌++◌, ℕ, List, codes, decimal, Option, Some, None, IfSome}
use Rattle.ferry_disk.specs.Device.{KeptWhere, Told, heard, told_files}
use Rattle.ferry_disk.specs.Files.{Files}
use Rattle.ferry_piece.specs.Gather.{IsAmong}
use Rattle.ferry_plan.specs.Plan.{HasNoLong, Plans, RefusesPlan, WhereBoth}
use Rattle.ferry_plan.specs.declared.fault.PlanFault.{PlanFault}
use Rattle.ferry_plan.specs.declared.fault.PlanFault.TheVariants as Faults
use Rattle.ferry_plan.specs.declared.planning.Planned.{Planned}
use Rattle.ferry_repo.specs.Fault.{IsOfFiles}
use Rattle.ferry_repo.specs.Opening.{OpensFilesTo, RefusesRepo, RepoState}
use Rattle.ferry_repo.specs.Whole.{HasWhole, WholeArchive}
use Rattle.ferry_status.specs.Devices.{Devices, Written}
use Rattle.ferry_status.specs.Status.{repo_status, target_failed, target_status}
use Rattle.ferry_status.specs.declared.status.Secrets.{Secrets}
use Rattle.ferry_status.specs.declared.status.Limit.TheVariants as Limits
use Rattle.ferry_status.specs.declared.status.Refusal.TheVariants.{Repo}
use Rattle.ferry_status.specs.declared.status.Status.{Status}
use Rattle.ferry_status.specs.declared.status.Status.TheVariants as Statuses
use Rattle.ferry_status.specs.Output.{PrintsText}
use Rattle.ferry_run_transfer.specs.Rerun.{IsAbsentOrEqual, LacksName}
use Rattle.ferry_run_transfer.specs.Transfer.{Request, asked, chosen_of}
use Rattle.ferry_run_transfer.specs.TransferCauses.{IsFirstMissing, IsFound}

-- the line of a plan: the pieces of contents that would be put, their bytes, and the pieces of item streams
abbrev pub plan_line : Planned → List ℕ
plan_line planned =
    decimal planned.chunks ++ (codes " chunks " ++ (decimal planned.bytes ++ (codes " bytes " ++ (decimal planned.meta ++ codes " meta\n"))))

-- Both repositories open, and this holds of the source, of the target, and of the names that are chosen.
pub record OpensBoth (request : Request) (source start : Files) (Holds : RepoState → RepoState → List (List ℕ) → Type 0) : Type 0 where
  pub repo : RepoState
  pub opens : OpensFilesTo source request.secrets.source repo
  pub target : RepoState
  pub target_opens : OpensFilesTo start request.secrets.target target
  pub holds : Holds repo target (chosen_of request.names repo.manifest)

-- The text is the line of the plan of the chosen names.
abbrev pub IsPlan : Request → Files → Files → List ℕ → Type 0
IsPlan request source start text = (planned : Planned) × ((text ≡ plan_line planned)
    × OpensBoth request source start (λ repo target names. Plans source repo request.block start target names planned))

-- Both repositories open, and a plan of the chosen names is refused so.
abbrev pub RefusesChosen : Request → Told → Told → PlanFault → Type 0
RefusesChosen request source target fault = OpensBoth request (told_files source) (told_files target)
    (λ repo state names. RefusesPlan (Some source) repo request.block (Some target) state names fault)

-- What a status says of the files that both devices tell, where no plan is made: the source doesn't open, or has each chosen name while the target doesn't
-- open; a chosen archive isn't whole in the source, is another one in the target, or isn't there in the source; or an item of one that the target lacks is too
-- long.
abbrev pub RefusesPlanning : Request → Told → Told → Status → Type 0
RefusesPlanning request source target (Statuses.SourceRefused (Repo fault)) = IsOfFiles fault
    × (RefusesRepo (told_files source) request.secrets.source fault ⊎ RefusesChosen request source target (Faults.Source fault))
RefusesPlanning request source target (Statuses.TargetRefused (Repo fault)) =
    IsOfFiles fault × (IsFound request (told_files source) × RefusesRepo (told_files target) request.secrets.target fault)
RefusesPlanning request source target (Statuses.Taken name) = RefusesChosen request source target (Faults.Taken name)
RefusesPlanning request source target (Statuses.NotFound name) = IsFirstMissing request (told_files source) name
RefusesPlanning request source target (Statuses.Limit Limits.Item) = RefusesChosen request source target Faults.Pieces
RefusesPlanning request source target Statuses.SourceDevice = Unit {0}
RefusesPlanning request source target Statuses.TargetDevice = Unit {0}
RefusesPlanning request source target Statuses.Memory = Unit {0}
RefusesPlanning request source target status = ⊥

-- no plan was made
abbrev pub IsNoPlan : Status → Type 0
IsNoPlan Statuses.Done = ⊥
IsNoPlan Statuses.No = ⊥
IsNoPlan (Statuses.Usage word) = ⊥
IsNoPlan Statuses.EntropyDevice = ⊥
IsNoPlan Statuses.OutputDevice = ⊥
IsNoPlan status = Unit {0}

-- The plan was made, and its line written; or none is made, nothing was written, and where both devices tell their files the status says why.
abbrev pub PrintsPlan : Request → Option Told → Option Told → Written → Status → Written → Type 0
PrintsPlan request source target before status after =
    ((text : List ℕ) × (WhereBoth source target (λ s t. IsPlan request s t text) × PrintsText (λ sent. sent ≡ text) before status after))
    ⊎ ((after ≡ before) × (IsNoPlan status × IfSome source (λ s. IfSome target (λ t. RefusesPlanning request s t status))))

-- What a transfer of the chosen archives would put is counted and printed, or that is refused. The target is only read, and no random bytes are used.
pub record PlansTransfer (request : Request) (before : Devices) (status : Status) (after : Devices) : Type 0 where
  pub entropy : after.entropy ≡ before.entropy
  pub target : KeptWhere (target_failed status) (heard before.target.told) after.target.told
  pub prints : PrintsPlan request before.source.told before.target.told before.output status after.output

-- what a plan is asked for: a transfer of these names
abbrev pub planned_for : Secrets → ℕ → List (List ℕ) → Option Told → Request
planned_for secrets block names told = asked secrets (record { block = block; checkpoint = 1; timestamp = None }) names told

-- the status where no plan is made
abbrev pub plan_status : PlanFault → Status
plan_status (Faults.Source fault) = repo_status fault
plan_status (Faults.Target fault) = target_status fault
plan_status (Faults.Taken name) = Statuses.Taken name
plan_status (Faults.NotFound name) = Statuses.NotFound name
plan_status Faults.Pieces = Statuses.Limit Limits.Item
plan_status Faults.Memory = Statuses.Memory

-- ---- where nothing refuses

-- A plan can be made: both repositories open, each chosen archive is whole in the source, and absent in the target or equal, and no item of an absent one is
-- too long.
pub record CanBePlanned (request : Request) (source start : Files) : Type 0 where
  pub from : RepoState
  pub source_opens : OpensFilesTo source request.secrets.source from
  pub repo : RepoState
  pub opens : OpensFilesTo start request.secrets.target repo
  pub whole : (name : List ℕ) → IsAmong (chosen_of request.names from.manifest) name
      → (whole : WholeArchive) × HasWhole source request.secrets.source name whole
  pub chosen : (name : List ℕ) → IsAmong (chosen_of request.names from.manifest) name → IsAbsentOrEqual request source start repo name
  pub short : (name : List ℕ) → IsAmong (chosen_of request.names from.manifest) name → LacksName repo.manifest name
      → HasNoLong source from request.block name

-- The plan is made, unless memory was refused or a device failed.
abbrev pub IsPlannedUnless : Status → Type 0
IsPlannedUnless Statuses.Done = Unit {0}
IsPlannedUnless Statuses.Memory = Unit {0}
IsPlannedUnless Statuses.SourceDevice = Unit {0}
IsPlannedUnless Statuses.TargetDevice = Unit {0}
IsPlannedUnless Statuses.OutputDevice = Unit {0}
IsPlannedUnless status = ⊥
