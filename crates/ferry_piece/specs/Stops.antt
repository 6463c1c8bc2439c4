-- What stops what is added to a target: a refusal of the target, and what it says of its files.
use Rattle.std.specs.Prelude.{◌≢◌, Bool, true, false, Option, IfSome}
use Rattle.ferry_disk.specs.Device.{Told, told_files}
use Rattle.ferry_mac.specs.declared.keys.Keys.{Keys}
use Rattle.ferry_store.specs.Causes.{StopsAt}
use Rattle.ferry_store.specs.declared.fault.StoreRefusal.TheVariants.{TooLarge}
use Rattle.ferry_piece.specs.declared.fault.CarryFault.{CarryFault}
use Rattle.ferry_piece.specs.declared.fault.CarryFault.TheVariants.{Target, Memory}

-- whether a fault is the target's, or want of memory
abbrev pub is_target : CarryFault → Bool
is_target (Target refusal) = true
is_target Memory = true
is_target fault = false

-- What a refusal of the target says of its files as they are then.
abbrev pub StopsTarget : Option Told → Keys → CarryFault → Type 0
StopsTarget now keys (Target refusal) = IfSome now (λ t. StopsAt t.history.start (told_files t) keys refusal)
StopsTarget now keys fault = Unit {0}

-- The same of a body that puts no manifest, so that none is too large.
abbrev pub StopsPieces : Option Told → Keys → CarryFault → Type 0
StopsPieces now keys (Target refusal) = IfSome now (λ t. (refusal ≢ TooLarge) × StopsAt t.history.start (told_files t) keys refusal)
StopsPieces now keys fault = Unit {0}
