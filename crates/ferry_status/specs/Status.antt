-- The numbers of the statuses, their fault lines, and which status comes of which fault.
use Rattle.std.specs.Prelude.{ℕ, Bool, true, false, List, [], ◌∷◌, ◌++◌, codes, decimal}
use Rattle.ferry_piece.specs.declared.fault.CarryFault.{CarryFault}
use Rattle.ferry_piece.specs.declared.fault.CarryFault.TheVariants as Carry
use Rattle.ferry_log.specs.declared.fault.LogFault.{LogFault}
use Rattle.ferry_log.specs.declared.fault.LogFault.TheVariants as Log
use Rattle.ferry_nonce.specs.Fault.{number_of_fault as nonce_number}
use Rattle.ferry_nonce.specs.declared.fault.NonceFault.{NonceFault}
use Rattle.ferry_nonce.specs.declared.fault.NonceFault.TheVariants as Nonces
use Rattle.ferry_store.specs.declared.fault.StoreRefusal.{StoreRefusal}
use Rattle.ferry_store.specs.declared.fault.StoreRefusal.TheVariants as Store
use Rattle.ferry_status.specs.declared.status.Limit.{Limit as LimitKind}
use Rattle.ferry_status.specs.declared.status.Limit.TheVariants as Limits
use Rattle.ferry_status.specs.declared.status.Status.{Status}
use Rattle.ferry_status.specs.declared.status.Status.TheVariants.{Done, No, Usage, Memory, SourceDevice, TargetDevice, EntropyDevice, OutputDevice}
use Rattle.ferry_status.specs.declared.status.Status.TheVariants.{SourceRefused, TargetRefused, Taken, NotFound, Limit}
use Rattle.ferry_status.specs.declared.status.Refusal.{Refusal}
use Rattle.ferry_status.specs.declared.status.Refusal.TheVariants.{Repo, Nonce, Committed}
use Rattle.ferry_write.specs.declared.fault.WriteFault.{WriteFault}
use Rattle.ferry_write.specs.declared.fault.WriteFault.TheVariants as Writes
use Rattle.ferry_repo.specs.Reason.{reason}
use Rattle.ferry_text.specs.Text.{escaped}
use Rattle.ferry_view.specs.declared.fault.ViewFault.{ViewFault}
use Rattle.ferry_view.specs.declared.fault.ViewFault.TheVariants as View
use Rattle.ferry_repo.specs.declared.fault.RepoFault.{RepoFault}
use Rattle.ferry_repo.specs.declared.fault.RepoFault.TheVariants.{NoCommit, Damaged, Device, Memory as RepoMemory}

-- the number that the program ends with
abbrev pub status_number : Status → ℕ
status_number Done = 0
status_number No = 1
status_number (Usage word) = 2
status_number Memory = 3
status_number SourceDevice = 4
status_number TargetDevice = 5
status_number EntropyDevice = 6
status_number OutputDevice = 7
status_number (SourceRefused refusal) = 8
status_number (TargetRefused refusal) = 9
status_number (Taken name) = 10
status_number (NotFound what) = 11
status_number (Limit limit) = 12

-- the status where the source's log doesn't open
abbrev pub log_status : LogFault → Status
log_status Log.NoCommit = SourceRefused (Repo NoCommit)
log_status (Log.Damaged segment at) = SourceRefused (Repo (Damaged segment at))
log_status Log.Device = SourceDevice
log_status Log.Memory = Memory

-- the status where the source doesn't open
abbrev pub repo_status : RepoFault → Status
repo_status Device = SourceDevice
repo_status RepoMemory = Memory
repo_status fault = SourceRefused (Repo fault)

-- the status where the output didn't take all that was read
abbrev pub output_status : ViewFault → Status
output_status View.Output = OutputDevice
output_status fault = Memory

-- the status where an archive isn't shown to its end; this isn't there, where that is why
abbrev pub view_status : ViewFault → List ℕ → Status
view_status (View.Repo fault) missing = repo_status fault
view_status View.NotFound missing = NotFound missing
view_status View.Output missing = OutputDevice
view_status View.Memory missing = Memory

-- the status where the target doesn't open
abbrev pub target_status : RepoFault → Status
target_status Device = TargetDevice
target_status RepoMemory = Memory
target_status fault = TargetRefused (Repo fault)

-- the status where no entries can be written
abbrev pub write_status : WriteFault → Status
write_status Writes.Device = TargetDevice
write_status Writes.Memory = Memory
write_status Writes.Numbers = Limit Limits.Segment

-- the status where no counter blocks can be drawn
abbrev pub nonce_status : NonceFault → Status
nonce_status Nonces.Device = TargetDevice
nonce_status Nonces.Memory = Memory
nonce_status Nonces.Exhausted = Limit Limits.Nonce
nonce_status fault = TargetRefused (Nonce fault)

-- the status where a store can't be made, opened or written
abbrev pub store_status : StoreRefusal → Status
store_status (Store.Repo fault) = target_status fault
store_status (Store.Write fault) = write_status fault
store_status (Store.Nonce fault) = nonce_status fault
store_status Store.Committed = TargetRefused Committed
store_status Store.TooLarge = Limit Limits.Manifest
store_status Store.Entropy = EntropyDevice
store_status Store.Memory = Memory

-- the status where archives aren't copied
abbrev pub carry_status : CarryFault → Status
carry_status (Carry.Source fault) = repo_status fault
carry_status (Carry.Target refusal) = store_status refusal
carry_status (Carry.Taken name) = Taken name
carry_status (Carry.NotFound name) = NotFound name
carry_status Carry.Pieces = Limit Limits.Item
carry_status Carry.Memory = Memory
carry_status Carry.Record = Limit Limits.Archive

-- whether a status is that of a refusal which is no failed device's, and not for want of memory
abbrev pub is_of_work : Status → Bool
is_of_work (SourceRefused refusal) = true
is_of_work (TargetRefused refusal) = true
is_of_work (Taken name) = true
is_of_work (NotFound what) = true
is_of_work (Limit limit) = true
is_of_work status = false

-- whether a status says that the target is refused, or that an archive isn't there
abbrev pub is_unread : Status → Bool
is_unread (TargetRefused refusal) = true
is_unread (NotFound what) = true
is_unread status = false

-- ---- lines

-- the fault line of the first wrong word
abbrev pub usage_line : ℕ → List ℕ
usage_line word = codes "usage: word " ++ (decimal word ++ (10 ∷ []))

-- why files are refused
abbrev pub refusal_reason : Refusal → List ℕ
refusal_reason (Repo fault) = reason fault
refusal_reason (Nonce fault) = codes "nonce " ++ decimal (nonce_number fault)
refusal_reason Committed = codes "committed"

-- the fault line of a source and of a target that is refused
abbrev pub source_line : Refusal → List ℕ
source_line refusal = codes "source refused: " ++ (refusal_reason refusal ++ (10 ∷ []))

abbrev pub target_line : Refusal → List ℕ
target_line refusal = codes "target refused: " ++ (refusal_reason refusal ++ (10 ∷ []))

-- the fault line of a limit that is met
abbrev pub limit_line : LimitKind → List ℕ
limit_line Limits.Nonce = codes "limit: nonce\n"
limit_line Limits.Manifest = codes "limit: manifest\n"
limit_line Limits.Archive = codes "limit: record\n"
limit_line Limits.Segment = codes "limit: segment\n"
limit_line Limits.Item = codes "limit: item\n"

-- the fault line of a name that is taken
abbrev pub taken_line : List ℕ → List ℕ
taken_line name = codes "name taken: " ++ (escaped name ++ (10 ∷ []))

-- the fault line of what isn't there
abbrev pub missing_line : List ℕ → List ℕ
missing_line what = codes "not found: " ++ (escaped what ++ (10 ∷ []))

-- the line of a repository that doesn't verify: its first fault
abbrev pub bad_line : RepoFault → List ℕ
bad_line fault = codes "bad " ++ (reason fault ++ (10 ∷ []))

-- the fault line, nothing where a status has none
abbrev pub fault_line : Status → List ℕ
fault_line Done = []
fault_line No = []
fault_line (Usage word) = usage_line word
fault_line Memory = codes "memory\n"
fault_line SourceDevice = codes "source device failed\n"
fault_line TargetDevice = codes "target device failed\n"
fault_line EntropyDevice = codes "entropy failed\n"
fault_line OutputDevice = []
fault_line (SourceRefused refusal) = source_line refusal
fault_line (TargetRefused refusal) = target_line refusal
fault_line (Taken name) = taken_line name
fault_line (NotFound what) = missing_line what
fault_line (Limit limit) = limit_line limit

-- ---- which device a status says has failed

-- whether it is the source's
abbrev pub source_failed : Status → Bool
source_failed SourceDevice = true
source_failed status = false

-- whether it is the target's
abbrev pub target_failed : Status → Bool
target_failed TargetDevice = true
target_failed status = false

-- whether it is the source of random bytes
abbrev pub entropy_failed : Status → Bool
entropy_failed EntropyDevice = true
entropy_failed status = false

-- whether it is the output
abbrev pub output_failed : Status → Bool
output_failed OutputDevice = true
output_failed status = false
