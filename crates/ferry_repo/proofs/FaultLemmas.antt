-- Lemmas on specs/Fault.antt: a fault of a part is the device's where the repository's is.
use Rattle.std.proofs.Common.{◌≡◌, Result, Ok, Err, IfErr, refl}
use Rattle.std.specs.Result.{IsErrAnd}
use Rattle.ferry_disk.specs.Device.{store_failed}
use Rattle.ferry_disk.specs.declared.shelf.StoreFault.{StoreFault}
use Rattle.ferry_disk.specs.declared.shelf.StoreFault.TheVariants as Store
use Rattle.ferry_log.specs.Fault.{log_failed}
use Rattle.ferry_log.specs.declared.fault.LogFault.{LogFault}
use Rattle.ferry_log.specs.declared.fault.LogFault.TheVariants as Log
use Rattle.ferry_repo.specs.Fault.{repo_failed, log_fault, store_fault}

pub failed_log : (fault : LogFault) → repo_failed (log_fault fault) ≡ log_failed fault
failed_log Log.NoCommit = refl
failed_log (Log.Damaged segment at) = refl
failed_log Log.Device = refl
failed_log Log.Memory = refl

pub failed_store : (fault : StoreFault) → repo_failed (store_fault fault) ≡ store_failed fault
failed_store Store.Failed = refl
failed_store Store.Memory = refl

pub ruleset conversions = (failed_log, failed_store)

-- what follows from the error that a `?` hands on
pub gives_err : {T E : Type 0} (r : Result T E) (P Q : E → Type 0) → IsErrAnd r P → ((fault : E) → P fault → Q fault) → IfErr r Q
gives_err (Ok value) P Q h f = tt
gives_err (Err fault) P Q h f = f fault h
