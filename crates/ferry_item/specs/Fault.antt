-- The numbers of the faults in printed lines.
use Rattle.std.specs.Prelude.{ℕ}
use Rattle.ferry_item.specs.declared.fault.ItemFault.{ItemFault}
use Rattle.ferry_item.specs.declared.fault.ItemFault.TheVariants.{Pack, Path, Chunks, Healed, Rest, Memory}

-- the number of a fault
abbrev pub number_of_fault : ItemFault → ℕ
number_of_fault Pack = 1
number_of_fault Path = 2
number_of_fault Chunks = 3
number_of_fault Healed = 4
number_of_fault Rest = 5
number_of_fault Memory = 6
