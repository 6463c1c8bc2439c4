-- What the command that compacts a repository leaves in its target, whatever a stop of the machine does, and what it says where it doesn't.
use Rattle.std.specs.Prelude.{◌≡◌, ◌⊎◌, ◌++◌, ℕ, true, List, [], ◌∷◌, codes, decimal, Ok, Err, IfSome}
use Rattle.ferry_compact.specs.Choice.{chosen_in}
use Rattle.ferry_compact.specs.Compact.{Compacts, KeepsBlocks, NumbersStay, RemovesFront, ShowsLive}
use Rattle.ferry_config.specs.Config.{config_of}
use Rattle.ferry_config.specs.declared.config.Config.{Config}
use Rattle.ferry_compact.specs.declared.fault.CompactFault.{CompactFault}
use Rattle.ferry_compact.specs.declared.fault.CompactFault.TheVariants as Faults
use Rattle.ferry_disk.specs.Act.{History, TellOf, files_now, with_act}
use Rattle.ferry_disk.specs.Device.{told_files}
use Rattle.ferry_disk.specs.Files.{Files, contents_at}
use Rattle.ferry_disk.specs.Moments.{Between, Moments}
use Rattle.ferry_disk.specs.declared.name.Name.TheVariants.{Config as ConfigFile}
use Rattle.ferry_log.specs.Log.{IsDamaged, IsLog, IsUncommitted, Located}
use Rattle.ferry_log.specs.State.{IsStateOf, LogState}
use Rattle.ferry_repo.specs.Fault.{IsOfFiles}
use Rattle.ferry_repo.specs.declared.fault.RepoFault.{RepoFault}
use Rattle.ferry_repo.specs.declared.fault.RepoFault.TheVariants as Repos
use Rattle.ferry_stops.specs.Chance.{EachStop}
use Rattle.ferry_store.specs.Causes.{HasLastSegment}
use Rattle.ferry_store.specs.State.{IsStep}
use Rattle.ferry_store.specs.declared.fault.StoreRefusal.{StoreRefusal}
use Rattle.ferry_store.specs.declared.fault.StoreRefusal.TheVariants as Stores
use Rattle.ferry_status.specs.Devices.{Devices}
use Rattle.ferry_status.specs.declared.status.Limit.TheVariants as Limits
use Rattle.ferry_status.specs.declared.status.Refusal.TheVariants as Refusals
use Rattle.ferry_status.specs.declared.status.Status.{Status}
use Rattle.ferry_status.specs.declared.status.Status.TheVariants as Statuses
use Rattle.ferry_write.specs.Session.{SettlesFirst}
use Rattle.ferry_write.specs.declared.fault.WriteFault.TheVariants as Writes

-- the line that is told behind a compaction, with the number of segments that were removed
abbrev pub compacted_line : ℕ → List ℕ
compacted_line count = codes "compacted " ++ (decimal count ++ (10 ∷ []))

-- Files have the objects of a log, and the settings that these had.
pub record KeepsObjects (log : List Located) (start image : Files) : Type 0 where
  pub live : ShowsLive log image
  pub config : image.config ≡ start.config

-- ---- each stop

-- At each moment of the command: where a run had made no act, over files that have a log, each stop leaves its objects, and no others; and the counter blocks
-- of all runs, those of its own and the number in the file `nonce`, and its first act.
abbrev pub CompactEach : History → History → Type 0
CompactEach before now = (before.acts ≡ [] → (transaction : ℕ) (log : List Located) → IsLog (files_now before) transaction log
    → Moments (EachStop (KeepsObjects log (files_now before))) before now) × (KeepsBlocks before now × (NumbersStay before now × SettlesFirst before now))

-- ---- the end

-- The target's log was read, and its settings; it was compacted so, in segments of the greatest size that these have, and then the number of segments was told
-- that were removed.
pub record HasCompacted (threshold : ℕ) (before now : History) : Type 0 where
  pub state : LogState
  pub reads : IsStateOf (files_now before) state
  pub config : Config
  pub settings : config_of (contents_at (files_now before) ConfigFile) ≡ Ok config
  pub count : ℕ
  pub compacted : History
  pub compacts : Compacts config.limit state threshold count before compacted
  pub tells : now ≡ with_act (TellOf (compacted_line count)) true compacted

-- Over files that have a log, behind a run that had made no act, what is read of them has its objects, and no others.
abbrev pub CompactLeaves : History → History → Type 0
CompactLeaves before now = before.acts ≡ [] → (transaction : ℕ) (log : List Located) → IsLog (files_now before) transaction log
    → KeepsObjects log (files_now before) (files_now now)

-- While the segments up to the transaction were as they had been, something was written; then a front of the chosen ones was removed, one after another, and
-- perhaps the next one; and then perhaps a line was told.
pub record RemovesThenTells (transaction : ℕ) (chosen : List ℕ) (before now : History) : Type 0 where
  pub compacted : History
  pub removes : RemovesFront transaction chosen before compacted
  pub line : List ℕ
  pub tells : IsStep (TellOf line) compacted now

-- Where the log reads, in a run that had made no act: while the segments up to the last commit were as they had been, something was written; and then a front
-- of the chosen ones was removed, the lowest number first, each before the next, and perhaps the next one. Nothing comes behind but a line that is told.
abbrev pub CompactRemoves : ℕ → History → History → Type 0
CompactRemoves threshold before now = before.acts ≡ [] → (state : LogState) → IsStateOf (files_now before) state
    → RemovesThenTells state.transaction (chosen_in threshold state.extents) before now

-- The log of files reads, and their settings.
abbrev pub ReadsTarget : Files → Type 0
ReadsTarget files =
    ((state : LogState) × IsStateOf files state) × ((config : Config) × (config_of (contents_at files ConfigFile) ≡ Ok config))

-- ---- refusals

-- what a fault of compacting is as a refusal of a store
abbrev pub compact_refusal : CompactFault → StoreRefusal
compact_refusal (Faults.Damaged segment at) = Stores.Repo (Repos.Damaged segment at)
compact_refusal Faults.Device = Stores.Write Writes.Device
compact_refusal Faults.Memory = Stores.Memory
compact_refusal Faults.Numbers = Stores.Write Writes.Numbers

-- Why the log or the settings of files aren't read: the settings are looked at where the log reads.
abbrev pub RefusesSettings : Files → RepoFault → Type 0
RefusesSettings files Repos.NoCommit = IsUncommitted files
RefusesSettings files (Repos.Damaged segment at) = IsDamaged files segment at
RefusesSettings files (Repos.Config fault) =
    ((state : LogState) × IsStateOf files state) × (config_of (contents_at files ConfigFile) ≡ Err fault)
RefusesSettings files Repos.Device = Unit {0}
RefusesSettings files Repos.Memory = Unit {0}
RefusesSettings files fault = ⊥

-- What a status says of the target's files at the begin and at the end, where they aren't compacted: the log or the settings don't read, or the numbers of
-- segments are used up.
abbrev pub RefusesCompacting : Files → Files → Status → Type 0
RefusesCompacting start image Statuses.Memory = Unit {0}
RefusesCompacting start image Statuses.TargetDevice = Unit {0}
RefusesCompacting start image (Statuses.TargetRefused (Refusals.Repo fault)) = IsOfFiles fault × RefusesSettings start fault
RefusesCompacting start image (Statuses.Limit Limits.Segment) = HasLastSegment image
RefusesCompacting start image status = ⊥

-- ---- the whole of what is claimed

-- The segments of the target are compacted of which so many hundredths or more are unused. Where its log and its settings read that is done, unless memory
-- is refused, the device fails or the numbers of segments are used up, as the refusal says; where they don't read, nothing is done; where it is done, it is
-- as `HasCompacted` has it. However it ends, segments are removed as `CompactRemoves` has it; and whatever a stop leaves at any moment, each object is
-- there that was, and no other; the counter blocks of the runs before stay apart, and no number of the file `nonce` is below the one that it began with.
-- Source, output and random bytes are not used.
pub record CompactsTarget (threshold : ℕ) (before : Devices) (status : Status) (after : Devices) : Type 0 where
  pub source : after.source ≡ before.source
  pub output : after.output ≡ before.output
  pub entropy : after.entropy ≡ before.entropy
  pub refused : (status ≡ Statuses.Done)
      ⊎ IfSome before.target.told (λ b. IfSome after.target.told (λ t. RefusesCompacting (told_files b) (told_files t) status))
  pub ended : status ≡ Statuses.Done → Between before.target.told after.target.told (λ h g. h.acts ≡ [] → HasCompacted threshold h g)
  pub left : Between before.target.told after.target.told CompactLeaves
  pub removed : Between before.target.told after.target.told (CompactRemoves threshold)
  pub shut : Between before.target.told after.target.told (λ h g. (ReadsTarget (files_now h) → ⊥) → g ≡ h)
  pub each : Between before.target.told after.target.told CompactEach

-- ---- where nothing refuses

-- The target is compacted, unless memory was refused, its device failed, or the numbers of segments are used up.
abbrev pub IsCompactedUnless : Files → Status → Type 0
IsCompactedUnless image Statuses.Done = Unit {0}
IsCompactedUnless image Statuses.Memory = Unit {0}
IsCompactedUnless image Statuses.TargetDevice = Unit {0}
IsCompactedUnless image (Statuses.Limit Limits.Segment) = HasLastSegment image
IsCompactedUnless image status = ⊥
