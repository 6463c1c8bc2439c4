use Rattle.std.proofs.Common.{◌≡◌, ◌+◌, ◌*◌, ◌%◌, ◌≤◌, ℕ, List, take}
use Rattle.ferry_aes.specs.CounterMode.{output_blocks}
use Rattle.ferry_aes.specs.Planes.{AreRoundKeys, HasHigherBytes}
use Rattle.ferry_aes.proofs.counter.pairs_of_groups.Given as goal

abbrev pub invariant-loop-number : goal.invariant-loop-number
invariant-loop-number l =
    (w : List (List ℕ)) → AreRoundKeys w l.keys
    → (take (256 * l.number) l.into ≡ output_blocks w l.counter (16 * l.number))
    × (8 ≤ (l.counter + 16 * l.number) % 256 → (l.counter + 16 * l.number) % 256 ≤ 248 → HasHigherBytes w (l.counter + 16 * l.number) l.higher)
