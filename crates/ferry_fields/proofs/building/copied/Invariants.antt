use Rattle.std.proofs.Common.{◌≡◌, take}
use Rattle.ferry_msgpack.specs.View.{pairs_view}
use Rattle.ferry_fields.proofs.building.copied.Given as goal

abbrev pub invariant-loop-place : goal.invariant-loop-place
invariant-loop-place l = pairs_view l.copy.entries ≡ pairs_view (take l.place l.pairs)
