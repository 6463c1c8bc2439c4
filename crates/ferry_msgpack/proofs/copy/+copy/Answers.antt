use Rattle.std.proofs.Common.{ap, ◌∙◌, arith}
use Rattle.ferry_msgpack.specs.View.{items_view, pairs_view}
use Rattle.ferry_msgpack.proofs.Copying.{item_copied, pair_copied}
use Rattle.ferry_msgpack.proofs.copy.+copy.Goals as goal

pub copy_items-loop-item-preserved : goal.copy_items-loop-item-preserved
copy_items-loop-item-preserved t c =
    ap items_view c.in_ok-push.ensures.items
    ∙ item_copied c.loop-item.copies.items c.args.items.now.items c.deref-item-items.result.now c.loop-item.item-index c.in_ok-copy_value.field-0
    c.item-item.result c.deref-item-items.ensures.value c.loop-item-test.true c.item-item.is c.loop-item.invariant c.in_ok-copy_value.ensures

pub copy_pairs-loop-key-preserved : goal.copy_pairs-loop-key-preserved
copy_pairs-loop-key-preserved t c =
    ap pairs_view c.in_ok-push.ensures.items
    ∙ pair_copied c.loop-key.copies.items c.args.pairs.now.items c.deref-key-items.result.now c.loop-key.key-index _ c.loop-key-item.result
    c.deref-key-items.ensures.value c.loop-key-test.true c.loop-key-item.is c.loop-key.invariant (grind arith) c.in_ok-copy_value.ensures
