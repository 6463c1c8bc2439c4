use Rattle.std.proofs.Common.{arith}
use Rattle.ferry_aes.proofs.StateLemmas.{add_round_key_from_bytes}
use Rattle.ferry_aes.proofs.rounds.add_round_key.Goals as goal

pub returns : goal.returns
returns c = add_round_key_from_bytes _ _ _ _ c.loop-i.invariant.0 (λ k l. c.loop-i.invariant.1 k (omega arith))
