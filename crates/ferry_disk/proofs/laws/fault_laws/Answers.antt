use Rattle.ferry_disk.specs.Device.{store_failed}
use Rattle.ferry_disk.proofs.FaultLemmas.{acts_end, keeps_end}
use Rattle.ferry_disk.proofs.laws.fault_laws.Goals as goal

pub returns : goal.returns
returns c = record {
  act = λ step before now result a. acts_end step before now result a;
  same = λ before now result k. keeps_end store_failed before now result k;
}
