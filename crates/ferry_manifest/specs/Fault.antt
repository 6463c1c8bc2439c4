-- The numbers of the faults in printed lines.
use Rattle.std.specs.Prelude.{ℕ}
use Rattle.ferry_manifest.specs.declared.fault.MetaFault.{MetaFault}
use Rattle.ferry_manifest.specs.declared.fault.MetaFault.TheVariants.{Pack, Field, TagMissing, Tag, TooLarge, Memory}

-- the number of a fault
abbrev pub number_of_fault : MetaFault → ℕ
number_of_fault Pack = 1
number_of_fault Field = 2
number_of_fault TagMissing = 3
number_of_fault Tag = 4
number_of_fault TooLarge = 5
number_of_fault Memory = 6
