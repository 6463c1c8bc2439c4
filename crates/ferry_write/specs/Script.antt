-- What a body of several calls did: all its steps, or a front of them and perhaps one that wasn't done.
use Rattle.std.specs.Prelude.{◌≡◌, ℕ, false, not, ◌⊎◌, List, [], ◌∷◌, ◌++◌, map, nat_lt, if◌then◌else◌, Option, Result, MatchResult, IfSome}
use Rattle.std.specs.List.{filter}
use Rattle.ferry_disk.specs.Act.{Step, RemoveOf, SettleAll, History, with_act}
use Rattle.ferry_disk.specs.Device.{Told, told_files, HasCause}
use Rattle.ferry_disk.specs.Faults.{EndsAtFault}
use Rattle.ferry_disk.specs.Files.{Files, segment_numbers}
use Rattle.ferry_disk.specs.Moments.{Between, with_steps}
use Rattle.ferry_write.specs.Fault.{write_failed}
use Rattle.ferry_write.specs.declared.fault.WriteFault.{WriteFault}

-- all these steps are done
abbrev pub DoesAll : List Step → History → History → Type 0
DoesAll steps before now = now ≡ with_steps steps before

-- all acts between are done
abbrev pub AllDone : History → History → Type 0
AllDone before now = (steps : List Step) × DoesAll steps before now

-- A front of these steps is done, and perhaps the next one was tried and isn't done.
pub record StopsIn (steps : List Step) (before now : History) : Type 0 where
  pub front : List Step
  pub rest : List Step
  pub parts : steps ≡ front ++ rest
  pub now_is : (now ≡ with_steps front before)
      ⊎ ((step : Step) × (more : List Step) × (rest ≡ step ∷ more) × (now ≡ with_act step false (with_steps front before)))

-- A body of these steps: `Ok` did all of them, a fault stopped in them. No call follows one that failed, and a failed device is one that
-- counted a fault.
pub record Ran {T : Type 0} (steps : List Step) (before now : Option Told) (count after : ℕ) (result : Result T WriteFault) : Type 0 where
  pub runs : MatchResult result (λ _. Between before now (DoesAll steps)) (λ _. Between before now (StopsIn steps))
  pub ends : EndsAtFault write_failed before now result
  pub cause : HasCause write_failed count after result

-- The removals of those of these segments whose number isn't below an end.
abbrev pub removals : ℕ → List ℕ → List Step
removals end [] = []
removals end (n ∷ ns) = if nat_lt n end then removals end ns else RemoveOf n ∷ removals end ns

-- All is made stable, and of the segments that are there those are removed whose number isn't below an end.
pub record Clears {T : Type 0} (end : ℕ) (before now : Option Told) (count after : ℕ) (result : Result T WriteFault) : Type 0 where
  pub numbers : List ℕ
  pub ran : Ran ((SettleAll ∷ []) ++ removals end numbers) before now count after result
  pub listed : IfSome before (λ t. numbers ≡ segment_numbers (told_files t))

-- the numbers of the segments that are there and aren't below an end, increasing
abbrev pub numbers_from : ℕ → Files → List ℕ
numbers_from end files = filter (λ n. not (nat_lt n end)) (segment_numbers files)

-- a Settle, and then the removals of those segments
abbrev pub clear_steps : ℕ → Files → List Step
clear_steps end files = SettleAll ∷ map RemoveOf (numbers_from end files)
