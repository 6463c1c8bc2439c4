-- The bytes of a source in memory, which count up, and which faults of a source are those of its device.
use Rattle.std.specs.Prelude.{ℕ, zero, suc, ◌+◌, ◌%◌, Bool, true, List, [], ◌∷◌, ◌++◌}
use Rattle.ferry_disk.specs.declared.entropy.EntropyFault.{EntropyFault}

-- the bytes of this many places from `at` on: that of place n is n mod 256
abbrev pub stream : ℕ → ℕ → List ℕ
stream at zero = []
stream at (suc count) = stream at count ++ ((at + count) % 256) ∷ []

-- whether a source failed: that is its one fault
abbrev pub entropy_failed : EntropyFault → Bool
entropy_failed fault = true
