use Rattle.std.proofs.Common.{List, ℕ, length, subst, ap, ◌∙◌, arith}
use Rattle.std.proofs.lemmas.Result.{err_from_is_err_and}
use Rattle.ferry_msgpack.specs.Calls.Write.{Begins}
use Rattle.ferry_msgpack.proofs.Appending.{items_len, pairs_len, item_fits, pair_fits, item_depth, pair_depth, with_items-more, with_items-all, with_pairs-all}
use Rattle.ferry_msgpack.proofs.Appending.{Begins-more, Begins-key, pair_written}
use Rattle.ferry_msgpack.proofs.writing.+put.Goals as goal

pub put_items-put_array_head-requires : goal.put_items-put_array_head-requires
put_items-put_array_head-requires t c = let h = items_len c.args.items.now.items c.requires in omega (arith, h, c.args.items.now.ok.0, c.len.ensures)

pub put_pairs-put_map_head-requires : goal.put_pairs-put_map_head-requires
put_pairs-put_map_head-requires t c = let h = pairs_len c.args.pairs.now.items c.requires in omega (arith, h, c.args.pairs.now.ok.0, c.len.ensures)

pub put_items-put_value-requires : goal.put_items-put_value-requires
put_items-put_value-requires t c =
    let below =
    item_depth c.args.items.now.items c.deref-item-items.result.now c.loop-item.item-index c.item-item.result c.deref-item-items.ensures.value
    c.loop-item-test.true c.item-item.is in (
      omega arith,
      item_fits c.args.items.now.items c.deref-item-items.result.now c.loop-item.item-index c.item-item.result c.deref-item-items.ensures.value
          c.requires c.loop-item-test.true c.item-item.is,
    )

pub put_items-returns-in_err-put_value-clause-err :
    goal.put_items-returns-in_err-put_value-clause-err
put_items-returns-in_err-put_value-clause-err t c =
    let p = err_from_is_err_and c.from_residual-in_err-put_value.result c.from_residual-in_err-put_value.ensures.1 in
    rw (p.1) (Begins-more c.args.into.now.items c.loop-item.into.items c.put_value.new.into.items _ c.loop-item.invariant c.in_err-put_value.ensures.err)

pub put_items-loop-item-preserved : goal.put_items-loop-item-preserved
put_items-loop-item-preserved t c =
    c.in_ok-put_value.ensures.ok ∙ with_items-more c.args.into.now.items c.loop-item.into.items c.args.items.now.items c.deref-item-items.result.now
    c.loop-item.item-index c.item-item.result c.deref-item-items.ensures.value c.loop-item-test.true c.item-item.is c.loop-item.invariant

pub put_items-returns-clause-ok : goal.put_items-returns-clause-ok
put_items-returns-clause-ok t c =
    with_items-all c.args.into.now.items c.loop-item.into.items c.args.items.now.items c.deref-item-items.result.now c.loop-item.item-index
    c.deref-item-items.ensures.value c.loop-item-test.false c.loop-item.invariant

pub put_pairs-put_raw-requires : goal.put_pairs-put_raw-requires
put_pairs-put_raw-requires t c =
    let h =
    pair_fits c.args.pairs.now.items c.deref-key-items.result.now c.loop-key.key-index c.loop-key-item.result c.deref-key-items.ensures.value c.requires
    c.loop-key-test.true c.loop-key-item.is in
    omega (arith, h.0, ap length c.deref.ensures.value)

pub put_pairs-returns-in_err-put_raw-clause-err : goal.put_pairs-returns-in_err-put_raw-clause-err
put_pairs-returns-in_err-put_raw-clause-err t c =
    let p = err_from_is_err_and c.from_residual-in_err-put_raw.result c.from_residual-in_err-put_raw.ensures.1 in
    rw (p.1) (Begins-more c.args.into.now.items c.loop-key.into.items c.put_raw.new.into.items _ c.loop-key.invariant c.in_err-put_raw.ensures.err)

pub put_pairs-put_value-requires : goal.put_pairs-put_value-requires
put_pairs-put_value-requires t c =
    let below =
    pair_depth c.args.pairs.now.items c.deref-key-items.result.now c.loop-key.key-index c.loop-key-item.result c.deref-key-items.ensures.value
    c.loop-key-test.true c.loop-key-item.is in (
      omega arith,
      (pair_fits c.args.pairs.now.items c.deref-key-items.result.now c.loop-key.key-index c.loop-key-item.result c.deref-key-items.ensures.value
          c.requires c.loop-key-test.true c.loop-key-item.is).1,
    )

pub put_pairs-returns-in_err-put_value-clause-err :
    goal.put_pairs-returns-in_err-put_value-clause-err
put_pairs-returns-in_err-put_value-clause-err t c =
    let p = err_from_is_err_and c.from_residual-in_err-put_value.result c.from_residual-in_err-put_value.ensures.1 in
    rw (p.1) (Begins-key c.args.into.now.items c.loop-key.into.items c.put_value.new.into.items _ _ c.loop-key.invariant
    (subst (λ (s : List ℕ). Begins s c.put_value.new.into.items) c.in_ok-put_raw.ensures.ok c.in_err-put_value.ensures.err))

pub put_pairs-loop-key-preserved : goal.put_pairs-loop-key-preserved
put_pairs-loop-key-preserved t c =
    pair_written c.args.into.now.items c.loop-key.into.items c.put_raw.new.into.items c.put_value.new.into.items c.deref.result.now c.args.pairs.now.items
    c.deref-key-items.result.now c.loop-key.key-index c.loop-key-item.result
    c.deref-key-items.ensures.value c.loop-key-test.true c.loop-key-item.is c.loop-key.invariant c.deref.ensures.value c.in_ok-put_raw.ensures.ok
    c.in_ok-put_value.ensures.ok

pub put_pairs-returns-clause-ok : goal.put_pairs-returns-clause-ok
put_pairs-returns-clause-ok t c =
    with_pairs-all c.args.into.now.items c.loop-key.into.items c.args.pairs.now.items c.deref-key-items.result.now c.loop-key.key-index
    c.deref-key-items.ensures.value c.loop-key-test.false c.loop-key.invariant
