-- What the whole command leaves.
use Rattle.std.specs.Prelude.{◌≡◌, ℕ, IfSome, ◌⊎◌}
use Rattle.ferry_disk.specs.Device.{told_files}
use Rattle.ferry_disk.specs.Moments.{Between}
use Rattle.ferry_status.specs.Devices.{Devices}
use Rattle.ferry_status.specs.declared.status.Status.{Status}
use Rattle.ferry_status.specs.declared.status.Status.TheVariants.{Memory}
use Rattle.ferry_store.specs.Store.{InitLeaves}
use Rattle.ferry_write.specs.Session.{SettlesFirst}
use Rattle.ferry_run_drill.specs.Complete.{EndsDone}
use Rattle.ferry_run_drill.specs.Drill.{DropsWhere, PrintsDrill, TellsStart}

-- A source of so many archives is made in memory, and copied into a new repository in the target, which is checked. The line says that it is done, or the first
-- fault of a target that doesn't verify. The source that was handed in is not used. Where a segment of the target is committed, it is refused, and nothing is
-- done there; else it is done where no contents collide, unless memory was refused, a device failed, or a limit was met. The first hundred random bytes serve
-- nothing.
pub record DrillsTarget (count : ℕ) (before : Devices) (status : Status) (after : Devices) : Type 0 where
  pub source : after.source ≡ before.source
  pub prints : PrintsDrill count after.target.told before.output status after.output
  pub start : IfSome before.target.told (λ t. TellsStart (told_files t) status)
  pub first : Between before.target.told after.target.told SettlesFirst
  pub kept : Between before.target.told after.target.told InitLeaves
  pub drops : DropsWhere before.target.told after.target.told before.entropy.bytes after.entropy.bytes status
  pub completes : (status ≡ Memory) ⊎ EndsDone count before.target.told after.target.told status
