use Rattle.std.proofs.Common.{◌≡◌}
use Rattle.ferry_msgpack.specs.View.{pairs_view}
use Rattle.ferry_msgpack.specs.WritableTest.{keys_increase}
use Rattle.ferry_msgpack.proofs.WritableTestLemmas.{keys_from}
use Rattle.ferry_msgpack.proofs.writable.keys_increase.Given as goal

abbrev pub invariant-loop-i : goal.invariant-loop-i
invariant-loop-i l = keys_from l.pairs l.i ≡ keys_increase (pairs_view l.pairs)
