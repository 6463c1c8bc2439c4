use Rattle.std.proofs.Common.{◌≡◌, drop}
use Rattle.ferry_msgpack.specs.View.{items_view}
use Rattle.ferry_item.specs.Item.{chunks_of}
use Rattle.ferry_item.proofs.ReadLemmas.{chunks_with}
use Rattle.ferry_item.proofs.chunks.chunks_of.Given as goal

abbrev pub invariant-loop-place : goal.invariant-loop-place
invariant-loop-place l = chunks_with l.chunks.items (items_view (drop l.place l.items)) ≡ chunks_of (items_view l.items)
