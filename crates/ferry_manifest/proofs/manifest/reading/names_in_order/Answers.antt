use Rattle.std.proofs.Common.{◌≡◌, None, Some, get_or, [], refl, sym, ◌∙◌, arith, rules}
use Rattle.ferry_msgpack.specs.View.{value_view}
use Rattle.ferry_fields.specs.Fields.{raw_of}
use Rattle.ferry_manifest.proofs.Manifests.ReadLemmas.{names_view, names_start, names_more, names_lost, names_done}
use Rattle.ferry_manifest.proofs.manifest.reading.names_in_order.Goals as goal

pub loop-place-init : goal.loop-place-init
loop-place-init c =
    let none : c.new-names.result.keys ≡ [] = search rules in
    rw none (names_start c.args.items.now)

pub returns-in_default-clause-fault : goal.returns-in_default-clause-fault
returns-in_default-clause-fault c h =
    let vs = c.args.items.now in
    let place = c.loop-place.place in
    let none : raw_of (value_view (get_or vs place c.index-items-place.result)) ≡ None = search rules in
    (refl, names_lost c.loop-place.names.keys vs place c.index-items-place.result (omega arith) none c.loop-place.invariant)

pub loop-place-preserved : goal.loop-place-preserved
loop-place-preserved c =
    let vs = c.args.items.now in
    let place = c.loop-place.place in
    let some : raw_of (value_view (get_or vs place c.index-items-place.result)) ≡ Some c.in_ok-name.name.items = search rules in
    rw c.in_ok-insert.ensures.keys (names_more c.loop-place.names.keys c.in_ok-name.name vs place c.index-items-place.result (omega arith) some
    ∙ c.loop-place.invariant)

pub returns-clause-names : goal.returns-clause-names
returns-clause-names c =
    let all : c.new.result ≡ names_view c.loop-place.names.keys = search rules in
    rw all (sym c.loop-place.invariant ∙ names_done c.loop-place.names.keys c.args.items.now c.loop-place.place (omega arith))
