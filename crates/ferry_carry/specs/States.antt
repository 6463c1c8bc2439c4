-- A source and a target at some time, as calls that use them see them.
use Rattle.std.specs.Prelude.{ℕ, List, Option}
use Rattle.ferry_disk.specs.Device.{Told}
use Rattle.ferry_repo.specs.declared.repo.Repo.{Repo}
use Rattle.ferry_store.specs.declared.store.Store.{Store}

-- a source: what its device tells, how many of its calls failed, and the repository
pub record SourceState : Type 0 where
  pub told : Option Told
  pub faults : ℕ
  pub repo : Repo

abbrev pub source_state : Option Told → ℕ → Repo → SourceState
source_state told faults repo = record { told = told; faults = faults; repo = repo }

-- a target: what its device tells, how many of its calls failed, and the store that writes it
pub record TargetState : Type 0 where
  pub told : Option Told
  pub faults : ℕ
  pub store : Store

abbrev pub target_state : Option Told → ℕ → Store → TargetState
target_state told faults store = record { told = told; faults = faults; store = store }

-- what a source of random bytes had handed out before a run, and what at its end, where it tells
pub record Drawn : Type 0 where
  pub before : Option (List ℕ)
  pub now : Option (List ℕ)

abbrev pub drawn_from : Option (List ℕ) → Option (List ℕ) → Drawn
drawn_from before now = record { before = before; now = now }
