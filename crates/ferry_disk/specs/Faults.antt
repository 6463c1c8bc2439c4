-- Over a device that tells, whether a body makes no call after one that failed: by the number of the first that did.
use Rattle.std.specs.Prelude.{◌≡◌, ℕ, Bool, true, false, Option, Some, None, Result, MatchResult, option_map}
use Rattle.ferry_disk.specs.Device.{Told, first_failed}

-- the number of the first call that failed, as a device tells it
abbrev pub failed_told : Option Told → Option (Option ℕ)
failed_told told = option_map (λ t. t.failed) told

-- Where a call failed, it was the last, and is the first that failed where none had before.
abbrev pub FailedWhere : Bool → Option Told → Option Told → Type 0
FailedWhere false before now = failed_told now ≡ failed_told before
FailedWhere true before None = before ≡ None
FailedWhere true before (Some now) = Some now.failed ≡ option_map (λ t. first_failed t.failed now.calls) before

-- A body of any calls made none after one that failed: a failed device is the answer exactly where a call failed.
abbrev pub EndsAtFault : {T F : Type 0} → (F → Bool) → Option Told → Option Told → Result T F → Type 0
EndsAtFault is_device before now result =
    MatchResult result (λ _. failed_told now ≡ failed_told before) (λ fault. FailedWhere (is_device fault) before now)
