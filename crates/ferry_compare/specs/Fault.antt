-- The faults of a comparison: whose repository's they are, and whose device's.
use Rattle.std.specs.Prelude.{◌≡◌, Bool, true, false, Option, Some, None}
use Rattle.ferry_repo.specs.Fault.{repo_failed}
use Rattle.ferry_repo.specs.declared.fault.RepoFault.{RepoFault}
use Rattle.ferry_repo.specs.declared.fault.RepoFault.TheVariants as Fault
use Rattle.ferry_compare.specs.declared.fault.CompareFault.{CompareFault}
use Rattle.ferry_compare.specs.declared.fault.CompareFault.TheVariants.{Source, Target, Memory}

-- the fault where a part of the source doesn't read
abbrev pub source_fault : RepoFault → CompareFault
source_fault Fault.Memory = Memory
source_fault fault = Source fault

-- the fault where a part of the target doesn't read, none where its files refuse that part: then it isn't the same as the source's
abbrev pub target_fault : RepoFault → Option CompareFault
target_fault Fault.Device = Some (Target Fault.Device)
target_fault Fault.Memory = Some Memory
target_fault fault = None

-- whether the source's device failed
abbrev pub source_failed : CompareFault → Bool
source_failed (Source fault) = repo_failed fault
source_failed (Target fault) = false
source_failed Memory = false

-- whether the target's device failed
abbrev pub target_failed : CompareFault → Bool
target_failed (Source fault) = false
target_failed (Target fault) = repo_failed fault
target_failed Memory = false

-- A fault that is the target's: of its device, or want of memory.
abbrev pub IsTargetFault : CompareFault → Type 0
IsTargetFault (Source fault) = ⊥
IsTargetFault (Target fault) = repo_failed fault ≡ true
IsTargetFault Memory = Unit {0}

-- What a refusal says of the target: that its device failed.
abbrev pub RefusesTarget : CompareFault → Type 0
RefusesTarget (Source fault) = Unit {0}
RefusesTarget (Target fault) = repo_failed fault ≡ true
RefusesTarget Memory = Unit {0}
