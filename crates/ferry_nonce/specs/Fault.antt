-- The numbers of the faults in printed lines, and which of them are those of the device.
use Rattle.std.specs.Prelude.{ℕ, Bool, true, false}
use Rattle.ferry_disk.specs.declared.shelf.StoreFault.{StoreFault}
use Rattle.ferry_disk.specs.declared.shelf.StoreFault.TheVariants as Store
use Rattle.ferry_nonce.specs.declared.fault.NonceFault.{NonceFault}
use Rattle.ferry_nonce.specs.declared.fault.NonceFault.TheVariants.{Missing, Text, Exhausted, Device, Memory}

-- the number of a fault
abbrev pub number_of_fault : NonceFault → ℕ
number_of_fault Missing = 1
number_of_fault Text = 2
number_of_fault Exhausted = 3
number_of_fault Device = 4
number_of_fault Memory = 5

-- whether a counter's device failed
abbrev pub nonce_failed : NonceFault → Bool
nonce_failed Device = true
nonce_failed fault = false

-- a device's fault as one of the counter
abbrev pub store_fault : StoreFault → NonceFault
store_fault Store.Failed = Device
store_fault Store.Memory = Memory
