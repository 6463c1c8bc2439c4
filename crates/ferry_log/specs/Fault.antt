-- What the answers of the log say of the device, and of the files.
use Rattle.std.specs.Prelude.{Bool, true, false}
use Rattle.ferry_disk.specs.Files.{Files}
use Rattle.ferry_disk.specs.declared.shelf.StoreFault.{StoreFault}
use Rattle.ferry_disk.specs.declared.shelf.StoreFault.TheVariants as Store
use Rattle.ferry_log.specs.Log.{IsUncommitted, IsDamaged}
use Rattle.ferry_log.specs.declared.fault.LogFault.{LogFault}
use Rattle.ferry_log.specs.declared.fault.LogFault.TheVariants.{NoCommit, Damaged, Device, Memory}

-- whether a log's device failed
abbrev pub log_failed : LogFault → Bool
log_failed Device = true
log_failed fault = false

-- Why a log can't be opened: a relation of the files, but for the device and for want of memory.
abbrev pub IsRefused : Files → LogFault → Type 0
IsRefused files NoCommit = IsUncommitted files
IsRefused files (Damaged segment at) = IsDamaged files segment at
IsRefused files Device = Unit {0}
IsRefused files Memory = Unit {0}

-- a shelf's fault as one of the log
abbrev pub store_fault : StoreFault → LogFault
store_fault Store.Failed = Device
store_fault Store.Memory = Memory
