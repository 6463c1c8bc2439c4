use Rattle.std.proofs.Common.{◌≡◌, take}
use Rattle.ferry_msgpack.specs.View.{items_view, pairs_view}
use Rattle.ferry_msgpack.proofs.copy.+copy.Given as goal

abbrev pub invariant-copy_items-loop-item : goal.invariant-copy_items-loop-item
invariant-copy_items-loop-item l = items_view l.copies.items ≡ items_view (take l.item-index l.items.items)

abbrev pub invariant-copy_pairs-loop-key : goal.invariant-copy_pairs-loop-key
invariant-copy_pairs-loop-key l = pairs_view l.copies.items ≡ pairs_view (take l.key-index l.pairs.items)
