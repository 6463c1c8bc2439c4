use Rattle.std.proofs.Common.{arith}
use Rattle.ferry_lanes.proofs.BytesLemmas.{xor_lists_by_places}
use Rattle.ferry_lanes.proofs.kernels.xor_into.Goals as goal

pub returns : goal.returns
returns c = record {
  sum = xor_lists_by_places _ _ _ c.requires.same_length c.loop-i.auto.into (λ k l. c.loop-i.invariant.0 k (omega arith));
}
