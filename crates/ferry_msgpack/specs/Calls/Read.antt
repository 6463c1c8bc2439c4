-- What a call of `read` answers.
use Rattle.std.specs.Prelude.{◌≡◌, ℕ, ◌-◌, ◌≤◌, ◌⊎◌, List, length, take, drop, Result, Ok, Err}
use Rattle.ferry_msgpack.specs.declared.fault.PackFault.{PackFault}
use Rattle.ferry_msgpack.specs.declared.fault.PackFault.TheVariants.{Memory}
use Rattle.ferry_msgpack.specs.declared.value.Value.{Value}
use Rattle.ferry_msgpack.specs.Tree.{Tree}
use Rattle.ferry_msgpack.specs.Spelling.{Spells}
use Rattle.ferry_msgpack.specs.View.{value_view}

-- the bytes from start to stop spell the value
pub record StandsAt (bytes : List ℕ) (start : ℕ) (t : Tree) (stop : ℕ) : Type 0 where
  pub order : start ≤ stop
  pub within : stop ≤ length bytes
  pub spelled : Spells t (take (stop - start) (drop start bytes))

-- the value and the place behind it, unless memory ran out
abbrev pub IsValueUnlessMemory : Result (Value × ℕ) PackFault → Tree → ℕ → Type 0
IsValueUnlessMemory (Ok x) t stop = (value_view x.0 ≡ t) × (x.1 ≡ stop)
IsValueUnlessMemory (Err fault) t stop = fault ≡ Memory

-- this fault, unless memory ran out
abbrev pub IsFaultUnlessMemory : Result (Value × ℕ) PackFault → PackFault → Type 0
IsFaultUnlessMemory (Ok x) fault = ⊥
IsFaultUnlessMemory (Err found) fault = (found ≡ fault) ⊎ (found ≡ Memory)
