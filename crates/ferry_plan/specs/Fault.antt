-- The faults of planning: those of the source, of the target, and its own.
use Rattle.std.specs.Prelude.{ℕ, Bool, false}
use Rattle.ferry_compare.specs.declared.fault.CompareFault.{CompareFault}
use Rattle.ferry_compare.specs.declared.fault.CompareFault.TheVariants as Compares
use Rattle.ferry_plan.specs.declared.fault.PlanFault.{PlanFault}
use Rattle.ferry_plan.specs.declared.fault.PlanFault.TheVariants.{Source, Target, Taken, NotFound, Pieces, Memory}
use Rattle.ferry_repo.specs.Fault.{IsOfFiles, repo_failed}
use Rattle.ferry_repo.specs.declared.fault.RepoFault.{RepoFault}
use Rattle.ferry_repo.specs.declared.fault.RepoFault.TheVariants as Repos

-- the number of a fault
abbrev pub number_of_fault : PlanFault → ℕ
number_of_fault (Source fault) = 1
number_of_fault (Target fault) = 2
number_of_fault (Taken name) = 3
number_of_fault (NotFound name) = 4
number_of_fault Pieces = 5
number_of_fault Memory = 6

-- that of a source that isn't read
abbrev pub source_fault : RepoFault → PlanFault
source_fault Repos.Memory = Memory
source_fault fault = Source fault

-- that of archives that aren't compared
abbrev pub compare_fault : CompareFault → PlanFault
compare_fault (Compares.Source fault) = source_fault fault
compare_fault (Compares.Target fault) = Target fault
compare_fault Compares.Memory = Memory

-- whether the source's device failed
abbrev pub shelf_failed : PlanFault → Bool
shelf_failed (Source fault) = repo_failed fault
shelf_failed fault = false

-- whether the target's device failed
abbrev pub target_failed : PlanFault → Bool
target_failed (Target fault) = repo_failed fault
target_failed fault = false

-- A fault says something of the names or of the files: no device failed, and memory wasn't refused.
abbrev pub IsOfWork : PlanFault → Type 0
IsOfWork (Source fault) = IsOfFiles fault
IsOfWork (Target fault) = ⊥
IsOfWork (Taken name) = Unit {0}
IsOfWork (NotFound name) = Unit {0}
IsOfWork Pieces = Unit {0}
IsOfWork Memory = ⊥
