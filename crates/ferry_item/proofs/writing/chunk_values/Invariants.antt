use Rattle.std.proofs.Common.{◌≡◌, take}
use Rattle.ferry_msgpack.specs.View.{items_view}
use Rattle.ferry_item.specs.Writing.{AreInRange, chunk_trees}
use Rattle.ferry_item.proofs.writing.chunk_values.Given as goal

abbrev pub invariant-loop-place : goal.invariant-loop-place
invariant-loop-place l = record {
  values : items_view l.values.items ≡ chunk_trees (take l.place l.chunks);
  range : AreInRange (take l.place l.chunks);
}
