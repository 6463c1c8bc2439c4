-- What the command that copies archives does: the whole of what is claimed of it.
use Rattle.ferry_status.specs.Opened.{EndsNumbered}
use Rattle.std.specs.Prelude.{◌≡◌, ◌⊎◌, true, IfSome}
use Rattle.ferry_disk.specs.Moments.{Between}
use Rattle.ferry_status.specs.Devices.{Devices}
use Rattle.ferry_status.specs.Status.{is_of_work}
use Rattle.ferry_run_transfer.specs.Putting.{LeavesFirst, TransferPuts, is_spared}
use Rattle.ferry_carry.specs.States.{drawn_from}
use Rattle.ferry_run_transfer.specs.Transfer.{LeavesTold, Request, TransferEach, TransferEnds, TransferLeaves}
use Rattle.ferry_run_transfer.specs.TransferCauses.{EndsDone, IsFound, IsRefusedSo, IsBeforeTarget}
use Rattle.ferry_status.specs.declared.status.Status.{Status}
use Rattle.ferry_status.specs.declared.status.Status.TheVariants.{Done}
use Rattle.ferry_store.specs.Store.{OpenLeaves}

-- Archives are copied into the target. Where what is asked for is there, that is done, unless memory is refused, a device fails or a limit is met; where it
-- isn't done, the refusal says why. Where the source doesn't open, or lacks a chosen name, neither the target nor the source of random bytes is used. Where
-- the target doesn't open, or has no number in the file `nonce`, it is refused, and nothing is done there. Where it is done, all chosen archives are there
-- and were told, each tagged with bytes that this run drew. However it ends, each archive that the target had is unchanged; where it is refused, but for a
-- device that failed and want of memory, no archive came that wasn't told. All that was put at any moment, up to the last commit and behind it, is the first
-- of what is added for the chosen names, the last of it perhaps in part; each refusal but the used up numbers of segments leaves it whole. Whatever a stop
-- leaves at any moment opens, with each archive that the target had and those of a front of the chosen names, those that were told among them; the counter
-- blocks of the runs before stay apart, and none of this run's, and no number of the file `nonce`, is below the one that it began with. The output is not
-- used.
pub record Transfers (request : Request) (before : Devices) (status : Status) (after : Devices) : Type 0 where
  pub output : after.output ≡ before.output
  pub completes : EndsDone request (drawn_from before.entropy.bytes after.entropy.bytes) before.target.told after.target.told status
  pub refused : (status ≡ Done) ⊎ IsRefusedSo request (drawn_from before.entropy.bytes after.entropy.bytes) before.target.told after.target.told status
  pub ended : status ≡ Done → Between before.target.told after.target.told
      (TransferEnds request before.entropy.bytes after.entropy.bytes)
  pub untouched : IfSome request.source (λ source. (IsFound request source → ⊥) → (after.target ≡ before.target) × (after.entropy ≡ before.entropy))
  pub left : Between before.target.told after.target.told (TransferLeaves request)
  pub shut : Between before.target.told after.target.told (OpenLeaves request.secrets.target)
  pub number : EndsNumbered (IsBeforeTarget request) request.secrets.target before.target.told status
  pub only_told : is_of_work status ≡ true → Between before.target.told after.target.told (LeavesTold request)
  pub puts : Between before.target.told after.target.told (TransferPuts request)
  pub put : is_spared status ≡ true → Between before.target.told after.target.told (LeavesFirst request)
  pub each : Between before.target.told after.target.told (TransferEach request)
