use Rattle.std.proofs.Common.{length}
use Rattle.ferry_lanes.proofs.BytesLemmas.{TellsEqualBelow}
use Rattle.ferry_lanes.proofs.kernels.same.Given as goal

abbrev pub invariant-loop-a : goal.invariant-loop-a
invariant-loop-a l = TellsEqualBelow l.left l.right (length l.yielded) l.difference
