use Rattle.std.proofs.lemmas.Result.{err_from_is_err_and}
use Rattle.ferry_msgpack.specs.View.{value_view}
use Rattle.ferry_fields.proofs.MapLemmas.{map_of-whole, map_of-behind, map_of-broken}
use Rattle.ferry_fields.proofs.reading.only_value.Goals as goal

pub returns-in_err-value-clause-fault : goal.returns-in_err-value-clause-fault
returns-in_err-value-clause-fault c =
    let p = err_from_is_err_and c.from_residual.result c.from_residual.ensures.1 in
    rw p.1 (λ h. map_of-broken c.args.bytes.now c.in_err-value.field-0.0 (c.in_err-value.ensures.broken (λ is. h (p.2.0 is))))

pub returns-then-stop-bytes-clause-fault : goal.returns-then-stop-bytes-clause-fault
returns-then-stop-bytes-clause-fault c h =
    map_of-behind c.args.bytes.now (value_view c.in_ok-value.value) c.in_ok-value.stop c.in_ok-value.ensures.found c.if-stop-bytes.true

pub returns-clause-value : goal.returns-clause-value
returns-clause-value c =
    map_of-whole c.args.bytes.now (value_view c.in_ok-value.value) c.in_ok-value.stop c.in_ok-value.ensures.found c.if-stop-bytes.false
