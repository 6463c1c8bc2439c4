use Rattle.std.proofs.Common.{arith}
use Rattle.ferry_lanes.proofs.BytesLemmas.{leading_zeros_at, zeros_in_front}
use Rattle.ferry_lanes.proofs.kernels.zero_prefix.Goals as goal

pub returns-then-bytes-i-ne0-clause-count : goal.returns-then-bytes-i-ne0-clause-count
returns-then-bytes-i-ne0-clause-count c = leading_zeros_at _ _ (omega arith) c.loop-i.invariant (λ l. c.if-bytes-i-ne0.true)

pub returns-then-bytes-i-ne0-clause-zeros : goal.returns-then-bytes-i-ne0-clause-zeros
returns-then-bytes-i-ne0-clause-zeros c = zeros_in_front _ _ c.loop-i.invariant

pub returns-clause-count : goal.returns-clause-count
returns-clause-count c = leading_zeros_at _ _ (omega arith) (λ k l. c.loop-i.invariant k (omega arith)) (λ l. absurd (omega arith))

pub returns-clause-zeros : goal.returns-clause-zeros
returns-clause-zeros c = zeros_in_front _ _ (λ k l. c.loop-i.invariant k (omega arith))
