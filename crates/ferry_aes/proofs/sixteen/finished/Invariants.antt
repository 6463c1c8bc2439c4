use Rattle.std.proofs.Common.{◌≡◌, ◌-◌, ◌<◌, ℕ, List}
use Rattle.ferry_aes.specs.State.{state_of}
use Rattle.ferry_aes.specs.Rounds.{sub_bytes, add_round_key}
use Rattle.ferry_aes.specs.Cipher.{after_round}
use Rattle.ferry_aes.specs.Planes.{state_at, half, AreWideRoundKeys}
use Rattle.ferry_aes.proofs.sixteen.finished.Given as goal

abbrev pub invariant-loop-number : goal.invariant-loop-number
invariant-loop-number l =
    (w : List (List ℕ)) (input : List ℕ) (h i : ℕ) → AreWideRoundKeys w l.keys → h < 2 → i < 8
    → state_at (half h l.subbed) i ≡ sub_bytes (add_round_key w 0 (state_of input))
    → state_at (half h l.state) i ≡ after_round w (state_of input) (l.number - 1)
