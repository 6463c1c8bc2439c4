-- The faults of copying: those of the source, of the target, and its own.
use Rattle.std.specs.Prelude.{◌≡◌, ◌≢◌, ℕ, Bool, false}
use Rattle.ferry_piece.specs.declared.fault.CarryFault.{CarryFault}
use Rattle.ferry_piece.specs.declared.fault.CarryFault.TheVariants.{Source, Target, Taken, NotFound, Pieces, Memory, Record}
use Rattle.ferry_compare.specs.declared.fault.CompareFault.{CompareFault}
use Rattle.ferry_compare.specs.declared.fault.CompareFault.TheVariants as Compares
use Rattle.ferry_nonce.specs.declared.fault.NonceFault.TheVariants as Nonces
use Rattle.ferry_repo.specs.Fault.{repo_failed}
use Rattle.ferry_repo.specs.declared.fault.RepoFault.{RepoFault}
use Rattle.ferry_repo.specs.declared.fault.RepoFault.TheVariants as Repos
use Rattle.ferry_store.specs.Fault.{depot_failed, source_failed as entropy_failed}
use Rattle.ferry_store.specs.declared.fault.StoreRefusal.{StoreRefusal}
use Rattle.ferry_store.specs.declared.fault.StoreRefusal.TheVariants as Stores

-- the number of a fault
abbrev pub number_of_fault : CarryFault → ℕ
number_of_fault (Source fault) = 1
number_of_fault (Target refusal) = 2
number_of_fault (Taken name) = 3
number_of_fault (NotFound name) = 4
number_of_fault Pieces = 5
number_of_fault Memory = 6
number_of_fault Record = 7

-- that of a source that isn't read
abbrev pub source_fault : RepoFault → CarryFault
source_fault Repos.Memory = Memory
source_fault fault = Source fault

-- that of a target that isn't written
abbrev pub target_fault : StoreRefusal → CarryFault
target_fault Stores.Memory = Memory
target_fault refusal = Target refusal

-- that of archives that aren't compared
abbrev pub compare_fault : CompareFault → CarryFault
compare_fault (Compares.Source fault) = Source fault
compare_fault (Compares.Target fault) = Target (Stores.Repo fault)
compare_fault Compares.Memory = Memory

-- whether the source's device failed
abbrev pub shelf_failed : CarryFault → Bool
shelf_failed (Source fault) = repo_failed fault
shelf_failed fault = false

-- whether the target's device failed
abbrev pub target_failed : CarryFault → Bool
target_failed (Target refusal) = depot_failed refusal
target_failed fault = false

-- whether the source of random bytes failed
abbrev pub random_failed : CarryFault → Bool
random_failed (Target refusal) = entropy_failed refusal
random_failed fault = false

-- A fault is one of the source.
abbrev pub IsOfSource : CarryFault → Type 0
IsOfSource (Source fault) = Unit {0}
IsOfSource fault = ⊥

-- A refusal is of what was asked for, or a limit: no device failed, and memory wasn't refused.
pub record IsOfWork (fault : CarryFault) : Type 0 where
  pub shelf : shelf_failed fault ≡ false
  pub target : target_failed fault ≡ false
  pub random : random_failed fault ≡ false
  pub memory : fault ≢ Memory

-- A fault says that an archive isn't there, or that the target's files don't read or don't open to be written.
abbrev pub IsOfReading : CarryFault → Type 0
IsOfReading (NotFound name) = Unit {0}
IsOfReading (Target (Stores.Repo Repos.Device)) = ⊥
IsOfReading (Target (Stores.Repo Repos.Memory)) = ⊥
IsOfReading (Target (Stores.Repo fault)) = Unit {0}
IsOfReading (Target (Stores.Nonce Nonces.Missing)) = Unit {0}
IsOfReading (Target (Stores.Nonce Nonces.Text)) = Unit {0}
IsOfReading (Target Stores.Committed) = Unit {0}
IsOfReading fault = ⊥
