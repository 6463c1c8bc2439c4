use Rattle.std.proofs.lemmas.Result.{err_from_is_err_and}
use Rattle.ferry_msgpack.specs.View.{value_view}
use Rattle.ferry_msgpack.specs.Reading.{value_at}
use Rattle.ferry_msgpack.proofs.ApartLemmas.{contents_go_on, contents_fail, contents_done}
use Rattle.ferry_msgpack.proofs.apart.contents_in.Goals as goal

pub returns-in_err-item : goal.returns-in_err-item
returns-in_err-item c =
    let p = err_from_is_err_and c.from_residual.result c.from_residual.ensures.1 in
    rw (p.1, p.2) (contents_fail (value_at 62) _ c.args.count c.items.counter c.items.rest.now _ c.items.invariant c.in_err-item.field-0.0
    c.items-test.true c.in_err-item.ensures)

pub items-preserved : goal.items-preserved
items-preserved c =
    rw (c.in_ok-contents.ensures, c.raw32_of.ensures) (contents_go_on (value_at 62) _ c.args.count c.items.counter c.items.rest.now _ c.items.invariant
    (value_view c.in_ok-item.item) c.in_ok-item.after.now c.items-test.true c.in_ok-item.ensures)

pub returns : goal.returns
returns c = contents_done (value_at 62) _ c.args.count c.items.counter c.items.rest.now _ c.items.invariant c.items-test.false
