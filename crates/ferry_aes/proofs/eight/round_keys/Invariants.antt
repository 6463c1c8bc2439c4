use Rattle.std.proofs.Common.{◌≡◌, ◌<◌, ℕ, length, []}
use Rattle.std.specs.Prelude.{slice_index_or}
use Rattle.ferry_aes.specs.Planes.{IsRoundKey}
use Rattle.ferry_aes.proofs.eight.round_keys.Given as goal

abbrev pub invariant-loop-number : goal.invariant-loop-number
invariant-loop-number l = (length l.keys ≡ 15) × ((n : ℕ) → n < l.number → IsRoundKey l.words n (slice_index_or l.keys n []))
