use Rattle.std.proofs.Common.{◌≡◌, ◌+◌, ◌-◌, ◌*◌}
use Rattle.ferry_msgpack.specs.Tree.{no_pairs}
use Rattle.ferry_msgpack.specs.View.{items_view, pairs_view}
use Rattle.ferry_msgpack.specs.Reading.{value_at, items_at, pairs_at}
use Rattle.ferry_msgpack.proofs.Loops.{with_front}
use Rattle.ferry_msgpack.proofs.reading.+value.Given as goal

abbrev pub decreases-value_of : goal.decreases-value_of
decreases-value_of l = 4 * l.depth

abbrev pub decreases-array_of : goal.decreases-array_of
decreases-array_of l = 4 * l.depth + 2

abbrev pub decreases-table_of : goal.decreases-table_of
decreases-table_of l = 4 * l.depth + 2

abbrev pub decreases-items_of : goal.decreases-items_of
decreases-items_of l = 4 * l.depth + 1

abbrev pub decreases-pairs_of : goal.decreases-pairs_of
decreases-pairs_of l = 4 * l.depth + 1

abbrev pub invariant-items_of-items : goal.invariant-items_of-items
invariant-items_of-items l =
    with_front (items_view l.items.items) (items_at (value_at l.depth) (l.count - l.counter) l.rest) ≡ items_at (value_at l.depth) l.count l.bytes

abbrev pub invariant-pairs_of-pairs : goal.invariant-pairs_of-pairs
invariant-pairs_of-pairs l =
    pairs_at (value_at l.depth) (l.count - l.counter) (pairs_view l.found.entries) l.rest ≡ pairs_at (value_at l.depth) l.count no_pairs l.bytes
