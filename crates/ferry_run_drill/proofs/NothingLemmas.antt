-- A drill that memory refused before it began.
use Rattle.std.proofs.Common.{ℕ, inl, refl, Option, Some, None, IfSome}
use Rattle.ferry_disk.specs.Device.{Told, told_files}
use Rattle.ferry_status.specs.Devices.{Devices}
use Rattle.ferry_status.specs.declared.status.Status.TheVariants as Statuses
use Rattle.ferry_store.proofs.StepLemmas.{here_each}
use Rattle.ferry_store.proofs.CallLemmas.{first_here}
use Rattle.ferry_store.specs.Store.{InitLeaves}
use Rattle.ferry_write.specs.Session.{SettlesFirst}
use Rattle.ferry_run_drill.proofs.WorkLemmas.{leaves_here}
use Rattle.ferry_run_drill.specs.Drill.{TellsStart}
use Rattle.ferry_run_drill.specs.Drilling.{DrillsTarget}

says_nothing : (told : Option Told) → IfSome told (λ t. TellsStart (told_files t) Statuses.Memory)
says_nothing None = tt
says_nothing (Some t) = tt

pub drills_nothing : (count : ℕ) (all : Devices) → DrillsTarget count all Statuses.Memory all
drills_nothing count all = record {
  source = refl;
  prints = inl refl;
  start = says_nothing all.target.told;
  first = here_each SettlesFirst all.target.told first_here;
  kept = here_each InitLeaves all.target.told leaves_here;
  drops = tt;
  completes = inl refl;
}
