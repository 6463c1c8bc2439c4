-- The moments of a run, and what holds at each: where a stop of the machine may come.
use Rattle.std.specs.Prelude.{◌≡◌, true, false, ◌⊎◌, List, [], ◌∷◌, ◌++◌, Option, Some, None}
use Rattle.ferry_disk.specs.Act.{Step, Act, History, with_act}
use Rattle.ferry_disk.specs.Device.{Told}

-- What holds of the history that a device told before and the one that it tells now; where it tells nothing, nothing is said.
abbrev pub Between : Option Told → Option Told → (History → History → Type 0) → Type 0
Between None now P = Unit {0}
Between (Some before) now P = (told : Told) × (now ≡ Some told) × P before.history told.history

-- the history after these steps, all done
abbrev pub with_steps : List Step → History → History
with_steps [] history = history
with_steps (step ∷ steps) history = with_steps steps (with_act step true history)

-- what holds of a history, after each front of these steps, and after each with its last step not done
abbrev pub EachMoment : (History → Type 0) → History → List Step → Type 0
EachMoment P history [] = P history
EachMoment P history (step ∷ steps) = P history × P (with_act step false history) × EachMoment P (with_act step true history) steps

-- From one history to a later one, all acts between are done but perhaps the last, and P holds at each moment between, both ends
-- included.
pub record Moments (P : History → Type 0) (before now : History) : Type 0 where
  pub steps : List Step
  pub each : EachMoment P before steps
  pub now_is : (now ≡ with_steps steps before) ⊎ ((step : Step) × (now ≡ with_act step false (with_steps steps before)))
  pub last : P now

-- ---- a moment by itself

-- the last act taken as not done
abbrev pub last_undone : List Act → List Act
last_undone [] = []
last_undone (act ∷ []) = record act { done = false } ∷ []
last_undone (act ∷ (next ∷ acts)) = act ∷ last_undone (next ∷ acts)

-- A moment of a piece of a run: a front of its acts, or that front with its last act taken as not done.
pub record IsMoment (before now moment : History) : Type 0 where
  pub front : List Act
  pub rest : List Act
  pub now_is : now ≡ record before { acts = before.acts ++ (front ++ rest) }
  pub moment_is : (moment ≡ record before { acts = before.acts ++ front }) ⊎ (moment ≡ record before { acts = before.acts ++ last_undone front })
