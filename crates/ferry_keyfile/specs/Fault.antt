-- The numbers of the faults in printed lines.
use Rattle.std.specs.Prelude.{ℕ}
use Rattle.ferry_keyfile.specs.declared.fault.KeyFileFault.{KeyFileFault}
use Rattle.ferry_keyfile.specs.declared.fault.KeyFileFault.TheVariants.{Header, Body, Memory}

-- the number of a fault
abbrev pub number_of_fault : KeyFileFault → ℕ
number_of_fault Header = 1
number_of_fault Body = 2
number_of_fault Memory = 3
