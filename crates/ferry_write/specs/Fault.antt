-- What the faults of a session say of the device.
use Rattle.std.specs.Prelude.{ℕ, Bool, true, false}
use Rattle.ferry_disk.specs.declared.shelf.StoreFault.{StoreFault}
use Rattle.ferry_disk.specs.declared.shelf.StoreFault.TheVariants as Store
use Rattle.ferry_write.specs.declared.fault.WriteFault.{WriteFault}
use Rattle.ferry_write.specs.declared.fault.WriteFault.TheVariants.{Device, Memory, Numbers}

-- whether a session's device failed
abbrev pub write_failed : WriteFault → Bool
write_failed Device = true
write_failed fault = false

-- a depot's fault as one of a session
abbrev pub store_fault : StoreFault → WriteFault
store_fault Store.Failed = Device
store_fault Store.Memory = Memory

-- the number of a fault
abbrev pub fault_number : WriteFault → ℕ
fault_number Device = 1
fault_number Memory = 2
fault_number Numbers = 3
