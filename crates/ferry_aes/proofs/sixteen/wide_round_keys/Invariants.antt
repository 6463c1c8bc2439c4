use Rattle.std.proofs.Common.{◌≡◌, ◌<◌, ℕ, List, length, []}
use Rattle.std.specs.Prelude.{slice_index_or}
use Rattle.ferry_aes.specs.Planes.{half, IsRoundKey, AreRoundKeys}
use Rattle.ferry_aes.proofs.sixteen.wide_round_keys.Given as goal

abbrev pub invariant-loop-number : goal.invariant-loop-number
invariant-loop-number l =
    (length l.wide ≡ 15)
    × ((w : List (List ℕ)) → AreRoundKeys w l.keys → (n : ℕ) → n < l.number → (h : ℕ) → h < 2 → IsRoundKey w n (half h (slice_index_or l.wide n [])))
