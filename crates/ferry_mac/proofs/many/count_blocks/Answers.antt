use Rattle.std.proofs.Common.{arith}
use Rattle.ferry_mac.proofs.many.count_blocks.Goals as goal

pub overflow_add-lanes : goal.overflow_add-lanes
overflow_add-lanes g c =
    omega (arith, c.requires.fits c.loop-l.l c.loop-l-test.true, c.loop-l.invariant.done_behind c.loop-l.l (omega arith))
