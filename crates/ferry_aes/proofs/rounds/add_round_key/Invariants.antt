use Rattle.std.proofs.Common.{◌≡◌, ℕ, ◌<◌, ◌≤◌, length, get_or}
use Rattle.ferry_aes.proofs.StateLemmas.{key_added}
use Rattle.ferry_aes.proofs.rounds.add_round_key.Given as goal

abbrev pub invariant-loop-i : goal.invariant-loop-i
invariant-loop-i l =
    (length l.state ≡ 16)
    × ((k : ℕ) → k < l.i → get_or l.state k 0 ≡ key_added l.words l.round l.initial.state k)
    × ((k : ℕ) → l.i ≤ k → get_or l.state k 0 ≡ get_or l.initial.state k 0)
