use Rattle.std.proofs.Common.{drop, sym, ◌∙◌}
use Rattle.std.proofs.lemmas.Result.{err_from_is_err_and}
use Rattle.ferry_msgpack.specs.View.{value_view}
use Rattle.ferry_item.proofs.FrontLemmas.{item_at, fault_at, nothing_front, fault_front}
use Rattle.ferry_item.proofs.front.item_at.Goals as goal

pub returns-in_ok-item_of_value-in-Ok-clause-item : goal.returns-in_ok-item_of_value-in-Ok-clause-item
returns-in_ok-item_of_value-in-Ok-clause-item c =
    item_at c.args.bytes.now c.args.at (value_view c.in-Ok.value) c.in-Ok.stop _ c.in-Ok.ensures.found c.in_ok-item_of_value-in-Ok.ensures.item

pub returns-in_err-item_of_value-in-Ok-clause-fault : goal.returns-in_err-item_of_value-in-Ok-clause-fault
returns-in_err-item_of_value-in-Ok-clause-fault c =
    let p = err_from_is_err_and c.from_residual.result c.from_residual.ensures.1 in
    let fault = c.in_err-item_of_value-in-Ok.field-0.0 in
    let told = c.in_err-item_of_value-in-Ok.ensures.fault in
    rw (p.1, p.2) (λ h. fault_at c.args.bytes.now c.args.at (value_view c.in-Ok.value) c.in-Ok.stop fault c.in-Ok.ensures.found (told h))

pub returns-in-Some-clause-fault : goal.returns-in-Some-clause-fault
returns-in-Some-clause-fault c h =
    fault_front (drop c.args.at c.args.bytes.now) c.in-Err.rule c.in-Some.fault c.in-Err.ensures.broken (sym c.fault_of_rule.ensures ∙ c.in-Some.is) h

pub returns-in-None-clause-none : goal.returns-in-None-clause-none
returns-in-None-clause-none c h =
    nothing_front (drop c.args.at c.args.bytes.now) c.in-Err.rule c.in-Err.ensures.broken (sym c.fault_of_rule.ensures ∙ c.in-None.is)
