use Rattle.std.proofs.Common.{◌≡◌, drop}
use Rattle.ferry_msgpack.specs.View.{pairs_view}
use Rattle.ferry_fields.specs.Fields.{value_of}
use Rattle.ferry_fields.proofs.fields.value_of.Given as goal

abbrev pub invariant-loop-place : goal.invariant-loop-place
invariant-loop-place l = value_of l.name (pairs_view l.pairs) ≡ value_of l.name (pairs_view (drop l.place l.pairs))
