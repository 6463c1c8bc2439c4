-- Why a repository isn't compacted.
use Rattle.std.specs.Prelude.{◌≤◌, ℕ, Bool, true, false, IsSome}
use Rattle.std.specs.FinMap.{get}
use Rattle.ferry_compact.specs.declared.fault.CompactFault.{CompactFault}
use Rattle.ferry_compact.specs.declared.fault.CompactFault.TheVariants.{Damaged, Device, Memory, Numbers}
use Rattle.ferry_disk.specs.Files.{Files}
use Rattle.ferry_disk.specs.declared.shelf.StoreFault.{StoreFault}
use Rattle.ferry_disk.specs.declared.shelf.StoreFault.TheVariants as Store
use Rattle.ferry_log.specs.declared.fault.LogFault.{LogFault}
use Rattle.ferry_log.specs.declared.fault.LogFault.TheVariants as Log
use Rattle.ferry_write.specs.declared.fault.WriteFault.{WriteFault}
use Rattle.ferry_write.specs.declared.fault.WriteFault.TheVariants as Write

-- whether the device failed
abbrev pub compact_failed : CompactFault → Bool
compact_failed Device = true
compact_failed fault = false

-- the number of a fault
abbrev pub fault_number : CompactFault → ℕ
fault_number (Damaged segment at) = 1
fault_number Device = 2
fault_number Memory = 3
fault_number Numbers = 4

-- a device's fault, one of a session, and one of reading an entry's head, as one of compacting
abbrev pub store_fault : StoreFault → CompactFault
store_fault Store.Failed = Device
store_fault Store.Memory = Memory

abbrev pub write_fault : WriteFault → CompactFault
write_fault Write.Device = Device
write_fault Write.Memory = Memory
write_fault Write.Numbers = Numbers

abbrev pub log_fault : LogFault → CompactFault
log_fault Log.NoCommit = Memory
log_fault (Log.Damaged segment at) = Damaged segment at
log_fault Log.Device = Device
log_fault Log.Memory = Memory

-- What a refusal says of the files as they are read behind it: an entry that was read reads still, and a segment has the greatest number that one may have
-- where the numbers are used up.
abbrev pub RefusesCompact : Files → CompactFault → Type 0
RefusesCompact files (Damaged segment at) = ⊥
RefusesCompact files Device = Unit {0}
RefusesCompact files Memory = Unit {0}
RefusesCompact files Numbers = (number : ℕ) × ((4294967295 ≤ number) × IsSome (get files.segments number))
