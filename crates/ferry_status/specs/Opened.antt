-- What is said of files that open under a secret: what a command leaves that changes archives of a target, and that it is done or refused.
use Rattle.std.specs.Prelude.{◌≡◌, ◌⊎◌, ℕ, Bool, true, false, List, [], Option, Some, IfSome, Result, IsErrAnd}
use Rattle.ferry_disk.specs.Act.{History, files_now}
use Rattle.ferry_disk.specs.Device.{Told, told_files}
use Rattle.ferry_disk.specs.Files.{Files}
use Rattle.ferry_disk.specs.Moments.{Between, Moments}
use Rattle.ferry_piece.specs.Fault.{target_fault}
use Rattle.ferry_piece.specs.declared.fault.CarryFault.{CarryFault}
use Rattle.ferry_repo.specs.Opening.{OpensFilesTo, RepoState}
use Rattle.ferry_repo.specs.declared.secret.Secret.{Secret}
use Rattle.ferry_status.specs.Devices.{Devices, IsRefusedBy}
use Rattle.ferry_status.specs.Status.{carry_status, is_of_work}
use Rattle.ferry_status.specs.declared.status.Limit.{Limit as LimitKind}
use Rattle.ferry_status.specs.declared.status.Status.{Status}
use Rattle.ferry_status.specs.declared.status.Status.TheVariants.{Done, Memory, TargetDevice, EntropyDevice, Limit}
use Rattle.ferry_stops.specs.Chance.{EachStop}
use Rattle.ferry_stops.specs.Tells.{lines_of}
use Rattle.ferry_store.specs.State.{HasNumber}
use Rattle.ferry_store.specs.Store.{OpenLeaves, RefusesOpen, WritesEach}
use Rattle.ferry_store.specs.declared.fault.StoreRefusal.{StoreRefusal}

-- The files open under the secret, and this holds of them and of the repository that they open to.
pub record OpensWith (secret : Secret) (Holds : Files → RepoState → Type 0) (files : Files) : Type 0 where
  pub repo : RepoState
  pub opens : OpensFilesTo files secret repo
  pub holds : Holds files repo

-- The files open under the secret, and their file `nonce` has a number.
pub record OpensNumbered (secret : Secret) (files : Files) : Type 0 where
  pub repo : RepoState
  pub opens : OpensFilesTo files secret repo
  pub nonce : HasNumber files

-- It is done, unless memory was refused, the target or the source of random bytes failed, a limit was met, so, or the status is one of these others.
abbrev pub IsDoneUnless : (LimitKind → Type 0) → (Status → Type 0) → Status → Type 0
IsDoneUnless IsMet IsOther Done = Unit {0}
IsDoneUnless IsMet IsOther Memory = Unit {0}
IsDoneUnless IsMet IsOther TargetDevice = Unit {0}
IsDoneUnless IsMet IsOther EntropyDevice = Unit {0}
IsDoneUnless IsMet IsOther (Limit limit) = IsMet limit
IsDoneUnless IsMet IsOther status = IsOther status

-- ---- a command that opens its target to be written

-- A fault is one of these files, which don't open to be written.
abbrev pub IsOfOpening : Secret → Files → CarryFault → Type 0
IsOfOpening secret files fault = (refusal : StoreRefusal) × ((fault ≡ target_fault refusal) × RefusesOpen secret files refusal)

-- A fault comes before the target is opened, or is one of its opening.
abbrev pub ComesBefore : (CarryFault → Type 0) → Secret → Files → CarryFault → Type 0
ComesBefore Before secret files fault = Before fault ⊎ IsOfOpening secret files fault

-- The file `nonce` of the target's files has a number, or the answer is such a fault.
abbrev pub NeedsNumber : {T : Type 0} → (CarryFault → Type 0) → Secret → Option Told → Result T CarryFault → Type 0
NeedsNumber Before secret before result =
    IfSome before (λ t. HasNumber (told_files t) ⊎ IsErrAnd result (ComesBefore Before secret (told_files t)))

-- The same of the status of a command: where the target's file `nonce` is absent or has no number, the command isn't done, and is refused for that where it
-- comes to the target and that opens.
abbrev pub EndsNumbered : (CarryFault → Type 0) → Secret → Option Told → Status → Type 0
EndsNumbered Before secret before status =
    IfSome before (λ t. HasNumber (told_files t) ⊎ IsRefusedBy carry_status (ComesBefore Before secret (told_files t)) status)

-- ---- a command that changes archives

-- Over the files of a run that had made no act, which open under the secret, this holds of what they open to.
abbrev pub WhereOpened : Secret → History → (RepoState → Type 0) → Type 0
WhereOpened secret before Holds = before.acts ≡ [] → (repo : RepoState) → OpensFilesTo (files_now before) secret repo → Holds repo

-- At each moment of the command, whose stops leave files with the archives that were there, unchanged or changed.
abbrev pub ChangesEach : Secret → (Files → RepoState → Bool → Files → Type 0) → History → History → Type 0
ChangesEach secret Keeps before now = WritesEach (λ h g. WhereOpened secret h (λ repo.
    Moments (EachStop (λ image. (changed : Bool) × Keeps (files_now h) repo changed image)) h g)) before now

-- What is read of files that opened has the archives that were there, unchanged or changed.
abbrev pub ChangesLeave : Secret → (Files → RepoState → Bool → Files → Type 0) → History → History → Type 0
ChangesLeave secret Keeps before now = WhereOpened secret before (λ repo. (changed : Bool) × Keeps (files_now before) repo changed (files_now now))

-- It has them unchanged, and no line was told.
abbrev pub LeavesAll : Secret → (Files → RepoState → Bool → Files → Type 0) → History → History → Type 0
LeavesAll secret Keeps before now = WhereOpened secret before (λ repo.
    Keeps (files_now before) repo false (files_now now) × (lines_of now.acts ≡ lines_of before.acts))

-- Why nothing is changed in a run that had made no act: its target's files don't open to be written; or they open, and the command is refused so.
abbrev pub RefusesChange : Secret → (Files → RepoState → CarryFault → Type 0) → Option Told → CarryFault → Type 0
RefusesChange secret Refuses before fault = IfSome before (λ t. t.history.acts ≡ []
    → IsOfOpening secret (told_files t) fault ⊎ OpensWith secret (λ files repo. Refuses files repo fault) (told_files t))

-- Archives of the target are changed. Where that isn't done, the refusal says why; where it is done in a run that had made no act, this holds of the target
-- before and behind it. However it ends, the archives that were there are there, unchanged or changed; where it is refused, but for a device that failed and
-- want of memory, they are unchanged; where the target doesn't open, or has no number in the file `nonce`, it is refused, and nothing is done. Whatever a
-- stop leaves at any moment opens with the archives, unchanged or changed; the counter blocks of the runs before stay apart, and none of this run's, and no
-- number of the file `nonce`, is below the one that it began with. Source and output are not used.
pub record ChangesArchives (secret : Secret) (Keeps : Files → RepoState → Bool → Files → Type 0) (Ends : History → History → Type 0)
    (Refuses : Option Told → Files → RepoState → CarryFault → Type 0) (before : Devices) (status : Status) (after : Devices) : Type 0 where
  pub source : after.source ≡ before.source
  pub output : after.output ≡ before.output
  pub refused : (status ≡ Done) ⊎ IsRefusedBy carry_status (RefusesChange secret (Refuses after.target.told) before.target.told) status
  pub ended : status ≡ Done → Between before.target.told after.target.told (λ h g. h.acts ≡ [] → Ends h g)
  pub left : Between before.target.told after.target.told (ChangesLeave secret Keeps)
  pub kept : is_of_work status ≡ true → Between before.target.told after.target.told (LeavesAll secret Keeps)
  pub shut : Between before.target.told after.target.told (OpenLeaves secret)
  pub number : EndsNumbered (λ fault. ⊥) secret before.target.told status
  pub each : Between before.target.told after.target.told (ChangesEach secret Keeps)
