-- A line that a command tells in its target.
use Rattle.ferry_store.specs.declared.fault.StoreRefusal.{StoreRefusal}
use Rattle.ferry_store.specs.declared.fault.StoreRefusal.TheVariants.{Write, Memory}
use Rattle.ferry_write.specs.declared.fault.WriteFault.TheVariants as Writes

-- Why a line isn't told: the target failed, or memory was refused.
abbrev pub RefusesTelling : StoreRefusal → Type 0
RefusesTelling (Write Writes.Device) = Unit {0}
RefusesTelling Memory = Unit {0}
RefusesTelling refusal = ⊥
