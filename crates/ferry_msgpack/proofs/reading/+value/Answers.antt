use Rattle.std.proofs.Common.{ap, sym, ◌∙◌}
use Rattle.std.proofs.lemmas.Result.{err_from_is_err_and}
use Rattle.ferry_msgpack.specs.FirstView.{count_view}
use Rattle.ferry_msgpack.specs.Tree.{no_pairs, put}
use Rattle.ferry_msgpack.specs.View.{value_view, items_view, pairs_view}
use Rattle.ferry_msgpack.specs.Reading.{value_at, items_at, pairs_at}
use Rattle.ferry_msgpack.proofs.Levels.{at_bottom, at_array, at_table, at_flat}
use Rattle.ferry_msgpack.proofs.Loops.{items_go_on, items_fail, items_done, pairs_go_on, pairs_repeat, key_fails, pair_fails, pairs_done}
use Rattle.ferry_msgpack.proofs.ViewLemmas.{pairs_view-insert_entry, has_key-lookup, items_view-push}
use Rattle.ferry_msgpack.proofs.reading.+value.Goals as goal

pub value_of-returns-then-depth-eq0 : goal.value_of-returns-then-depth-eq0
value_of-returns-then-depth-eq0 t c =
    rw (at_bottom c.args.depth c.args.bytes.now c.first_of-first.result c.if-depth-eq0.true c.in-len1-up.len_at_least c.first_of-first.ensures)
    c.flat_of.ensures

pub value_of-returns-in-Array : goal.value_of-returns-in-Array
value_of-returns-in-Array t c =
    rw (at_array c.args.depth c.args.bytes.now (count_view c.in-Array.count) c.if-depth-eq0.false c.in-len1-up.len_at_least c.in-Array.ensures)
    c.array_of.ensures

pub value_of-returns-in-Table : goal.value_of-returns-in-Table
value_of-returns-in-Table t c =
    rw (at_table c.args.depth c.args.bytes.now (count_view c.in-Table.count) c.if-depth-eq0.false c.in-len1-up.len_at_least c.in-Table.ensures)
    c.table_of.ensures

pub value_of-returns-in_default-first : goal.value_of-returns-in_default-first
value_of-returns-in_default-first t c =
    rw (at_flat c.args.depth c.args.bytes.now c.first_of-first.result c.in-len1-up.len_at_least c.first_of-first.ensures c.in_default-first.not-Array
    c.in_default-first.not-Table) c.flat_of-in_default-first.ensures

pub items_of-returns-in_err-item : goal.items_of-returns-in_err-item
items_of-returns-in_err-item t c =
    let p = err_from_is_err_and c.from_residual.result c.from_residual.ensures.1 in
    rw (p.1, p.2) (items_fail (value_at c.args.depth) (items_view c.items.items.items) c.args.count c.items.counter c.items.rest.now
    (items_at (value_at c.args.depth) c.args.count c.args.bytes.now) c.items.invariant c.in_err-item.field-0.0 c.items-test.true c.in_err-item.ensures)

pub items_of-items-preserved : goal.items_of-items-preserved
items_of-items-preserved t c =
    let grown = ap items_view c.in_ok-push.ensures.items ∙ items_view-push c.items.items.items c.in_ok-item.item in
    rw grown (items_go_on (value_at c.args.depth) (items_view c.items.items.items) c.args.count c.items.counter c.items.rest.now
    (items_at (value_at c.args.depth) c.args.count c.args.bytes.now) c.items.invariant (value_view c.in_ok-item.item) c.in_ok-item.after.now
    c.items-test.true c.in_ok-item.ensures)

pub items_of-returns : goal.items_of-returns
items_of-returns t c =
    items_done (value_at c.args.depth) (items_view c.items.items.items) c.args.count c.items.counter c.items.rest.now
    (items_at (value_at c.args.depth) c.args.count c.args.bytes.now) c.items.invariant c.items-test.false

pub pairs_of-returns-in_err-key : goal.pairs_of-returns-in_err-key
pairs_of-returns-in_err-key t c =
    let p = err_from_is_err_and c.from_residual.result c.from_residual.ensures.1 in
    rw (p.1, p.2) (key_fails (value_at c.args.depth) (pairs_view c.pairs.found.entries) c.args.count c.pairs.counter c.pairs.rest.now
    (pairs_at (value_at c.args.depth) c.args.count no_pairs c.args.bytes.now) c.pairs.invariant c.in_err-key.field-0.0 c.pairs-test.true
    c.in_err-key.ensures)

pub pairs_of-returns-then-contains_key : goal.pairs_of-returns-then-contains_key
pairs_of-returns-then-contains_key t c =
    let again = sym (has_key-lookup c.in_ok-key.key.now c.pairs.found.entries) ∙ sym c.contains_key.ensures ∙ c.if-contains_key.true in
    pairs_repeat (value_at c.args.depth) (pairs_view c.pairs.found.entries) c.args.count c.pairs.counter c.pairs.rest.now
    (pairs_at (value_at c.args.depth) c.args.count no_pairs c.args.bytes.now) c.pairs.invariant c.in_ok-key.key.now c.in_ok-key.after.now
    c.pairs-test.true c.in_ok-key.ensures again

pub pairs_of-returns-in_err-value : goal.pairs_of-returns-in_err-value
pairs_of-returns-in_err-value t c =
    let p = err_from_is_err_and c.from_residual-in_err-value.result c.from_residual-in_err-value.ensures.1 in
    let new = sym (has_key-lookup c.in_ok-key.key.now c.pairs.found.entries) ∙ sym c.contains_key.ensures ∙ c.if-contains_key.false in
    rw (p.1, p.2) (pair_fails (value_at c.args.depth) (pairs_view c.pairs.found.entries) c.args.count c.pairs.counter c.pairs.rest.now
    (pairs_at (value_at c.args.depth) c.args.count no_pairs c.args.bytes.now) c.pairs.invariant c.in_err-value.field-0.0 c.in_ok-key.key.now
    c.in_ok-key.after.now c.pairs-test.true c.in_ok-key.ensures new c.in_err-value.ensures)

pub pairs_of-pairs-preserved : goal.pairs_of-pairs-preserved
pairs_of-pairs-preserved t c =
    let new = sym (has_key-lookup c.in_ok-key.key.now c.pairs.found.entries) ∙ sym c.contains_key.ensures ∙ c.if-contains_key.false in
    let grown = ap pairs_view c.in_ok-insert.ensures.entries ∙ pairs_view-insert_entry c.pairs.found.entries c.in_ok-from_slice.field-0 c.in_ok-value.value
    ∙ ap (λ k. put k (value_view c.in_ok-value.value) (pairs_view c.pairs.found.entries)) c.in_ok-from_slice.ensures.items in
    rw grown (pairs_go_on (value_at c.args.depth) (pairs_view c.pairs.found.entries) c.args.count c.pairs.counter c.pairs.rest.now
    (pairs_at (value_at c.args.depth) c.args.count no_pairs c.args.bytes.now) c.pairs.invariant c.in_ok-key.key.now c.in_ok-key.after.now
    (value_view c.in_ok-value.value) c.in_ok-value.after.now c.pairs-test.true c.in_ok-key.ensures new c.in_ok-value.ensures)

pub pairs_of-returns : goal.pairs_of-returns
pairs_of-returns t c =
    rw (ap pairs_view c.in_ok-pairs_in_order.ensures) (pairs_done (value_at c.args.depth) (pairs_view c.pairs.found.entries) c.args.count c.pairs.counter
    c.pairs.rest.now (pairs_at (value_at c.args.depth) c.args.count no_pairs c.args.bytes.now) c.pairs.invariant c.pairs-test.false)
