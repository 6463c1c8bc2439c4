-- The numbers of the faults in printed lines.
use Rattle.std.specs.Prelude.{ℕ}
use Rattle.ferry_config.specs.declared.fault.ConfigFault.{ConfigFault}
use Rattle.ferry_config.specs.declared.fault.ConfigFault.TheVariants.{Section, Version, Id, Key, Number, Repeat, Memory}

-- the number of a fault
abbrev pub number_of_fault : ConfigFault → ℕ
number_of_fault Section = 1
number_of_fault Version = 2
number_of_fault Id = 3
number_of_fault Key = 4
number_of_fault Number = 5
number_of_fault Repeat = 6
number_of_fault Memory = 7
