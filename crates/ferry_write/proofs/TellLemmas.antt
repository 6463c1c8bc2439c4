-- Lemmas on specs/Script.antt: a session's calls tell no line.
use Rattle.std.proofs.Common.{ℕ, List, [], ◌∷◌, ◌++◌, Option, Result, refl}
use Rattle.std.specs.List.{AllByRecursion}
use Rattle.ferry_disk.proofs.MomentLemmas.{between_map}
use Rattle.ferry_disk.specs.Act.{Step, AppendTo, SyncOf, RemoveOf, ReplaceBy, SettleAll, TellOf, History}
use Rattle.ferry_disk.specs.Device.{Told}
use Rattle.ferry_disk.specs.Moments.{Between}
use Rattle.ferry_stops.proofs.TellLemmas.{untold_each}
use Rattle.ferry_stops.specs.Tells.{TellsNoLine, TellsNothing}
use Rattle.ferry_write.proofs.PlainLemmas.{LeavesFiles, begin_leaves, commit_leaves, delete_leaves, put_leaves}
use Rattle.ferry_write.proofs.ScriptLemmas.{ran_stops, stop_moments}
use Rattle.ferry_write.specs.Room.{commit_steps, delete_steps, put_steps}
use Rattle.ferry_write.specs.Script.{Clears, Ran, StopsIn, removals}
use Rattle.ferry_write.specs.declared.fault.WriteFault.{WriteFault}
use Rattle.ferry_write.specs.declared.session.Session.{Session}

-- ---- steps

no_line : (step : Step) → LeavesFiles step → TellsNoLine step
no_line (AppendTo segment bytes) leaves = tt
no_line (SyncOf segment) leaves = tt
no_line (RemoveOf segment) leaves = tt
no_line (ReplaceBy name bytes) leaves = tt
no_line SettleAll leaves = tt
no_line (TellOf line) leaves = absurd leaves

no_lines : (steps : List Step) → AllByRecursion LeavesFiles steps → AllByRecursion TellsNoLine steps
no_lines [] leaves = tt
no_lines (x ∷ xs) leaves = (no_line x leaves.0, no_lines xs leaves.1)

stop_untold : (steps : List Step) (before now : History) → AllByRecursion LeavesFiles steps → StopsIn steps before now → TellsNothing before now
stop_untold steps before now leaves stop =
    (stop_moments (TellsNothing before) steps before now (untold_each before before steps (no_lines steps leaves) refl) stop).last

-- what a body of such steps did, all of them or some
pub ran_untold : {T : Type 0} (steps : List Step) (a b : Option Told) (n m : ℕ) (result : Result T WriteFault) → AllByRecursion LeavesFiles steps
    → Ran steps a b n m result → Between a b TellsNothing
ran_untold steps a b n m result leaves ran =
    between_map a b (StopsIn steps) TellsNothing (λ before now stop. stop_untold steps before now leaves stop) (ran_stops steps a b n m result ran)

-- ---- the calls

pub begin_untold : {T : Type 0} (end : ℕ) (a b : Option Told) (n m : ℕ) (result : Result T WriteFault) → Clears end a b n m result → Between a b TellsNothing
begin_untold end a b n m result clears =
    ran_untold ((SettleAll ∷ []) ++ removals end clears.numbers) a b n m result (begin_leaves end clears.numbers) clears.ran

pub put_untold : {T : Type 0} (s : Session) (head blob : List ℕ) (a b : Option Told) (n m : ℕ) (result : Result T WriteFault)
    → Ran (put_steps s head blob) a b n m result → Between a b TellsNothing
put_untold s head blob a b n m result ran = ran_untold (put_steps s head blob) a b n m result (put_leaves s head blob) ran

pub delete_untold : {T : Type 0} (s : Session) (entry : List ℕ) (a b : Option Told) (n m : ℕ) (result : Result T WriteFault)
    → Ran (delete_steps s entry) a b n m result → Between a b TellsNothing
delete_untold s entry a b n m result ran = ran_untold (delete_steps s entry) a b n m result (delete_leaves s entry) ran

pub commit_untold : {T : Type 0} (s : Session) (a b : Option Told) (n m : ℕ) (result : Result T WriteFault) → Ran (commit_steps s.last s.size) a b n m result
    → Between a b TellsNothing
commit_untold s a b n m result ran = ran_untold (commit_steps s.last s.size) a b n m result (commit_leaves s) ran
