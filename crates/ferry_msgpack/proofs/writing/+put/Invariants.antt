use Rattle.std.proofs.Common.{◌≡◌, ◌+◌, ◌*◌}
use Rattle.ferry_msgpack.specs.View.{value_view, items_view, pairs_view}
use Rattle.ferry_msgpack.specs.Writable.{depth, items_depth, pairs_depth}
use Rattle.ferry_msgpack.proofs.Appending.{with_items, with_pairs}
use Rattle.ferry_msgpack.proofs.writing.+put.Given as goal

abbrev pub decreases-put_value : goal.decreases-put_value
decreases-put_value l = 2 * depth (value_view l.value.now)

abbrev pub decreases-put_items : goal.decreases-put_items
decreases-put_items l = 2 * items_depth (items_view l.items.now.items) + 1

abbrev pub decreases-put_pairs : goal.decreases-put_pairs
decreases-put_pairs l = 2 * pairs_depth (pairs_view l.pairs.now.items) + 1

abbrev pub invariant-put_items-loop-item : goal.invariant-put_items-loop-item
invariant-put_items-loop-item l = l.into.items ≡ with_items l.fn.into.items l.items.items l.item-index

abbrev pub invariant-put_pairs-loop-key : goal.invariant-put_pairs-loop-key
invariant-put_pairs-loop-key l = l.into.items ≡ with_pairs l.fn.into.items l.pairs.items l.key-index
