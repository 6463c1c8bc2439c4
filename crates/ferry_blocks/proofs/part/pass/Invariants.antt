use Rattle.std.proofs.Common.{◌≡◌, ◌+◌, ◌-◌, ◌≤◌, ℕ, List, length, take, drop}
use Rattle.ferry_blocks.specs.Passes.{Passes}
use Rattle.ferry_blocks.proofs.part.pass.Given as goal

-- the entries so far are gone over
abbrev pub invariant-loop-size : goal.invariant-loop-size
invariant-loop-size l = record {
  within : l.size ≤ l.left;
  passed : (bytes : List ℕ) (from : ℕ) → length (drop from bytes) ≡ l.left → l.part ≡ take (length l.part) (drop from bytes)
      → Passes bytes from (from + l.size) l.end;
}

abbrev pub decreases-loop-size : goal.decreases-loop-size
decreases-loop-size l = length l.part - l.size
