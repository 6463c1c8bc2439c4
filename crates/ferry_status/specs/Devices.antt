-- What the four devices of a run tell and count, and what each status says of them.
use Rattle.std.specs.Prelude.{◌≡◌, ℕ, true, List, Option}
use Rattle.ferry_disk.specs.Device.{Told, Rose, RoseWhere, KeptWhere, heard}
use Rattle.ferry_disk.specs.Faults.{FailedWhere}
use Rattle.ferry_status.specs.Status.{source_failed, target_failed, entropy_failed, output_failed}
use Rattle.ferry_status.specs.declared.status.Status.{Status}

-- a repository's device: what it tells, and its count of faults
pub record Store : Type 0 where
  pub told : Option Told
  pub faults : ℕ

-- the source of random bytes: those that it has handed out, and its count of faults
pub record Drawn : Type 0 where
  pub bytes : Option (List ℕ)
  pub faults : ℕ

-- the output: what was written to it, and its count of faults
pub record Written : Type 0 where
  pub bytes : Option (List ℕ)
  pub faults : ℕ

-- all four
pub record Devices : Type 0 where
  pub source : Store
  pub target : Store
  pub entropy : Drawn
  pub output : Written

abbrev pub store : Option Told → ℕ → Store
store told faults = record { told = told; faults = faults }

abbrev pub drawn : Option (List ℕ) → ℕ → Drawn
drawn bytes faults = record { bytes = bytes; faults = faults }

abbrev pub written : Option (List ℕ) → ℕ → Written
written bytes faults = record { bytes = bytes; faults = faults }

abbrev pub devices : Store → Store → Drawn → Written → Devices
devices source target entropy output = record { source = source; target = target; entropy = entropy; output = output }

-- A status is that of a fault, which says this.
pub record IsRefusedBy {Fault : Type 0} (status_of : Fault → Status) (Says : Fault → Type 0) (status : Status) : Type 0 where
  pub fault : Fault
  pub status_is : status ≡ status_of fault
  pub refuses : Says fault

-- The table of causes. A failed device is the status only where its count of faults rose, and at every other status that count is what it
-- was, but for the output's, whose fault line may fail. A failed call of a repository is the last one. The source tells what it told.
pub record HasCauses (status : Status) (before after : Devices) : Type 0 where
  pub source : RoseWhere (source_failed status) before.source.faults after.source.faults
  pub kept : KeptWhere (source_failed status) (heard before.source.told) after.source.told
  pub target : RoseWhere (target_failed status) before.target.faults after.target.faults
  pub target_ends : FailedWhere (target_failed status) before.target.told after.target.told
  pub entropy : RoseWhere (entropy_failed status) before.entropy.faults after.entropy.faults
  pub output : output_failed status ≡ true → Rose before.output.faults after.output.faults
