-- What a body of a transfer did: at each moment, at its end, and with its devices.
use Rattle.std.specs.Prelude.{ℕ, Option, Result, IfOk}
use Rattle.ferry_disk.specs.Act.{History}
use Rattle.ferry_disk.specs.Device.{Told, HasCause}
use Rattle.ferry_disk.specs.Faults.{EndsAtFault}
use Rattle.ferry_disk.specs.Moments.{Between}
use Rattle.ferry_write.specs.Script.{AllDone}
use Rattle.ferry_piece.specs.Fault.{target_failed}
use Rattle.ferry_piece.specs.declared.fault.CarryFault.{CarryFault}

-- What a body of several calls of the target did: this at each moment, and that at its end where it is `Ok`. No call of the target follows one
-- that failed, and a failed target is one that counted a fault.
pub record Works {T : Type 0} (Each : History → History → Type 0) (End : T → History → History → Type 0) (before now : Option Told) (count after : ℕ)
    (result : Result T CarryFault) : Type 0 where
  pub each : Between before now Each
  pub end : IfOk result (λ x. Between before now (λ h g. AllDone h g × End x h g))
  pub ends : EndsAtFault target_failed before now result
  pub cause : HasCause target_failed count after result
