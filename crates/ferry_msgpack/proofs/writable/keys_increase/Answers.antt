use Rattle.std.proofs.Common.{arith}
use Rattle.ferry_msgpack.specs.View.{pairs_view}
use Rattle.ferry_msgpack.specs.WritableTest.{keys_increase}
use Rattle.ferry_msgpack.proofs.WritableTestLemmas.{keys_end}
use Rattle.ferry_msgpack.proofs.writable.keys_increase.Goals as goal

pub returns : goal.returns
returns c = keys_end c.args.pairs.now c.loop-i.i (keys_increase (pairs_view c.args.pairs.now)) (omega arith) (omega arith) c.loop-i.invariant
