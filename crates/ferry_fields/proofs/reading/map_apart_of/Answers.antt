use Rattle.std.proofs.Common.{◌≡◌, ◌<◌, length, rules}
use Rattle.std.proofs.lemmas.Result.{err_from_is_err_and}
use Rattle.ferry_msgpack.specs.Apart.{apart_view}
use Rattle.ferry_fields.proofs.ApartLemmas.{apart_whole, apart_other, apart_behind, apart_broken}
use Rattle.ferry_fields.proofs.reading.map_apart_of.Goals as goal

pub returns-in_err-apart-clause-fault : goal.returns-in_err-apart-clause-fault
returns-in_err-apart-clause-fault c =
    let p = err_from_is_err_and c.from_residual.result c.from_residual.ensures.1 in
    rw p.1 (λ h. apart_broken c.args.name.now c.args.bytes.now c.in_err-apart.field-0.0 c.in_err-apart.ensures.parts (λ is. h (p.2.0 is)))

pub returns-then-not-is_empty-clause-fault : goal.returns-then-not-is_empty-clause-fault
returns-then-not-is_empty-clause-fault c h =
    let some : 0 < length c.in_ok-apart.rest.now = search rules in
    apart_behind c.args.name.now c.args.bytes.now _ c.in_ok-apart.rest.now c.in_ok-apart.ensures.parts some

pub returns-in-Some-clause-map : goal.returns-in-Some-clause-map
returns-in-Some-clause-map c =
    let none : length c.in_ok-apart.rest.now ≡ 0 = search rules in
    let read = rw c.in-Some.is at c.in_ok-apart.ensures.parts in
    apart_whole c.args.name.now c.args.bytes.now (apart_view c.in-Some.apart) c.in_ok-apart.rest.now read none

pub returns-in-None-clause-fault : goal.returns-in-None-clause-fault
returns-in-None-clause-fault c h =
    let read = rw c.in-None.is at c.in_ok-apart.ensures.parts in
    apart_other c.args.name.now c.args.bytes.now c.in_ok-apart.rest.now read
