-- How the devices of the program count their faults.
use Rattle.std.specs.Prelude.{ℕ, Bool, if◌then◌else◌, Result, Ok, Err}
use Rattle.ferry_disk.specs.Device.{counted}

-- the count of faults after an answer: one more, up to 2^64 - 1, where the device failed
abbrev pub count_after : {T F : Type 0} → (F → Bool) → ℕ → Result T F → ℕ
count_after is_device before (Ok x) = before
count_after is_device before (Err fault) = if is_device fault then counted before else before
