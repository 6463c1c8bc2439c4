-- The numbers of the faults in printed lines.
use Rattle.std.specs.Prelude.{ℕ}
use Rattle.ferry_keyblob.specs.declared.fault.KeyFault.{KeyFault}
use Rattle.ferry_keyblob.specs.declared.fault.KeyFault.TheVariants.{Pack, Field, Algorithm, Iterations, Passphrase, Memory}

-- the number of a fault
abbrev pub number_of_fault : KeyFault → ℕ
number_of_fault Pack = 1
number_of_fault Field = 2
number_of_fault Algorithm = 3
number_of_fault Iterations = 4
number_of_fault Passphrase = 5
number_of_fault Memory = 6
