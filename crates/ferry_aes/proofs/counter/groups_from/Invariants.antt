use Rattle.std.proofs.Common.{◌≡◌, ◌*◌, ℕ, List, length, take}
use Rattle.ferry_aes.specs.CounterMode.{output_blocks}
use Rattle.ferry_aes.specs.Planes.{AreRoundKeys}
use Rattle.ferry_aes.proofs.counter.groups_from.Given as goal

abbrev pub invariant-loop-number : goal.invariant-loop-number
invariant-loop-number l =
    (w : List (List ℕ)) → AreRoundKeys w l.keys → take (128 * l.from) l.initial.into ≡ take (length l.initial.into) (output_blocks w l.counter (8 * l.from))
    → take (128 * l.number) l.into ≡ take (length l.initial.into) (output_blocks w l.counter (8 * l.number))
