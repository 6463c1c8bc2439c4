-- The numbers of the faults in printed lines.
use Rattle.std.specs.Prelude.{ℕ}
use Rattle.ferry_blob.specs.declared.fault.BlobFault.{BlobFault}
use Rattle.ferry_blob.specs.declared.fault.BlobFault.TheVariants.{Kind, Short, Mac, Compressed, Id}

-- the number of a fault
abbrev pub number_of_fault : BlobFault → ℕ
number_of_fault Kind = 1
number_of_fault Short = 2
number_of_fault Mac = 3
number_of_fault Compressed = 4
number_of_fault Id = 5
