use Rattle.std.proofs.Common.{◌≡◌, drop, Ok, ◌+◌, arith}
use Rattle.std.proofs.lemmas.Result.{err_from_is_err_and}
use Rattle.ferry_msgpack.specs.View.{value_view}
use Rattle.ferry_msgpack.specs.Reading.{value_at}
use Rattle.ferry_msgpack.proofs.Places.{from_place, rest_within, stands, read_only, failed_only, failed_breaks, breaks_failed, read_unbroken, read_writable}
use Rattle.ferry_msgpack.proofs.WritableLemmas.{AreBytes-from}
use Rattle.std.proofs.lemmas.List.{get_or-drop}
use Rattle.ferry_msgpack.proofs.reading.read.Goals as goal

pub returns-in_err-value-clause-only : goal.returns-in_err-value-clause-only
returns-in_err-value-clause-only c =
    let p = err_from_is_err_and c.from_residual.result c.from_residual.ensures.1 in
    let failed = rw (from_place c.args.bytes.now c.args.at) at c.in_err-value.ensures in
    rw (p.1, p.2) (failed_only (drop c.args.at c.args.bytes.now) c.in_err-value.field-0.0 failed)

pub returns-in_err-value-clause-broken : goal.returns-in_err-value-clause-broken
returns-in_err-value-clause-broken c =
    let p = err_from_is_err_and c.from_residual.result c.from_residual.ensures.1 in
    let failed = rw (from_place c.args.bytes.now c.args.at) at c.in_err-value.ensures in
    rw (p.1, p.2) (failed_breaks (drop c.args.at c.args.bytes.now) c.in_err-value.field-0.0 failed)

pub returns-in_err-value-clause-fault : goal.returns-in_err-value-clause-fault
returns-in_err-value-clause-fault c =
    let p = err_from_is_err_and c.from_residual.result c.from_residual.ensures.1 in
    let failed = rw (from_place c.args.bytes.now c.args.at) at c.in_err-value.ensures in
    rw (p.1, p.2) (breaks_failed (drop c.args.at c.args.bytes.now) c.in_err-value.field-0.0 failed)

pub overflow_sub-result : goal.overflow_sub-result
overflow_sub-result c =
    let is : value_at 64 (drop c.args.at c.args.bytes.now) ≡ Ok (value_view c.in_ok-value.value, c.in_ok-value.rest.now) =
    rw (from_place c.args.bytes.now c.args.at) at c.in_ok-value.ensures in
    rest_within c.args.bytes.now c.args.at (value_view c.in_ok-value.value) c.in_ok-value.rest.now is

pub returns-clause-found : goal.returns-clause-found
returns-clause-found c =
    let is : value_at 64 (drop c.args.at c.args.bytes.now) ≡ Ok (value_view c.in_ok-value.value, c.in_ok-value.rest.now) =
    rw (from_place c.args.bytes.now c.args.at) at c.in_ok-value.ensures in
    stands c.args.bytes.now c.args.at (value_view c.in_ok-value.value) c.in_ok-value.rest.now c.requires is

pub returns-clause-only : goal.returns-clause-only
returns-clause-only c =
    let is : value_at 64 (drop c.args.at c.args.bytes.now) ≡ Ok (value_view c.in_ok-value.value, c.in_ok-value.rest.now) =
    rw (from_place c.args.bytes.now c.args.at) at c.in_ok-value.ensures in
    read_only c.args.bytes.now c.args.at (value_view c.in_ok-value.value) c.in_ok-value.rest.now c.requires is

pub returns-clause-fault : goal.returns-clause-fault
returns-clause-fault c =
    let is : value_at 64 (drop c.args.at c.args.bytes.now) ≡ Ok (value_view c.in_ok-value.value, c.in_ok-value.rest.now) =
    rw (from_place c.args.bytes.now c.args.at) at c.in_ok-value.ensures in
    read_unbroken (drop c.args.at c.args.bytes.now) (value_view c.in_ok-value.value) c.in_ok-value.rest.now is

pub returns-clause-writable : goal.returns-clause-writable
returns-clause-writable c =
    let is : value_at 64 (drop c.args.at c.args.bytes.now) ≡ Ok (value_view c.in_ok-value.value, c.in_ok-value.rest.now) =
    rw (from_place c.args.bytes.now c.args.at) at c.in_ok-value.ensures in
    read_writable (drop c.args.at c.args.bytes.now) (value_view c.in_ok-value.value) c.in_ok-value.rest.now
    (AreBytes-from _ (λ i. rw get_or-drop (omega (arith, c.type_inv.bytes (c.args.at + i))))) is
