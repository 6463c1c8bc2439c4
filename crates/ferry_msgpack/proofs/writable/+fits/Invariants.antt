use Rattle.std.proofs.Common.{◌≡◌, ◌-◌}
use Rattle.ferry_msgpack.specs.Tree.{array, table}
use Rattle.ferry_msgpack.specs.View.{items_view, pairs_view}
use Rattle.ferry_msgpack.specs.WritableTest.{fits_within}
use Rattle.ferry_msgpack.proofs.WritableTestLemmas.{items_from, pairs_from}
use Rattle.ferry_msgpack.proofs.writable.+fits.Given as goal

abbrev pub invariant-array_fits-loop-item : goal.invariant-array_fits-loop-item
invariant-array_fits-loop-item l = items_from (l.depth - 1) l.items.items l.item-index ≡ fits_within l.depth (array (items_view l.items.items))

abbrev pub invariant-table_fits-loop-key : goal.invariant-table_fits-loop-key
invariant-table_fits-loop-key l = pairs_from (l.depth - 1) l.pairs.items l.key-index ≡ fits_within l.depth (table (pairs_view l.pairs.items))
