use Rattle.std.proofs.Common.{◌≡◌, true, false, Some, None, sym, rules, arith}
use Rattle.ferry_msgpack.specs.View.{value_view}
use Rattle.ferry_manifest.specs.Walk.{value_front, is_raw}
use Rattle.ferry_manifest.proofs.WalkLemmas.{name_here, key_lost, value_lost, name_later, name_nowhere}
use Rattle.ferry_manifest.proofs.place.behind_name.Goals as goal

pub returns-in_default-clause-place : goal.returns-in_default-clause-place
returns-in_default-clause-place c =
    let lost : value_front c.pairs.rest.now ≡ None = search rules in
    sym (key_lost c.args.name.now c.args.count c.pairs.place c.pairs.rest.now _ c.pairs.invariant (omega arith) lost)

pub returns-then-is_raw-clause-place : goal.returns-then-is_raw-clause-place
returns-then-is_raw-clause-place c =
    let read : value_front c.pairs.rest.now ≡ Some (value_view c.in-Some.key, c.in-Some.after_key.now) = search rules in
    let named : is_raw c.args.name.now (value_view c.in-Some.key) ≡ true = search rules in
    sym (name_here c.args.name.now c.args.count c.pairs.place c.pairs.rest.now _ c.pairs.invariant _ _ (omega arith) read named)

pub returns-in_default-2-clause-place : goal.returns-in_default-2-clause-place
returns-in_default-2-clause-place c =
    let read : value_front c.pairs.rest.now ≡ Some (value_view c.in-Some.key, c.in-Some.after_key.now) = search rules in
    let other : is_raw c.args.name.now (value_view c.in-Some.key) ≡ false = search rules in
    let lost : value_front c.in-Some.after_key.now ≡ None = search rules in
    sym (value_lost c.args.name.now c.args.count c.pairs.place c.pairs.rest.now _ c.pairs.invariant _ _ (omega arith) read other lost)

pub pairs-preserved : goal.pairs-preserved
pairs-preserved c =
    let read : value_front c.pairs.rest.now ≡ Some (value_view c.in-Some.key, c.in-Some.after_key.now) = search rules in
    let other : is_raw c.args.name.now (value_view c.in-Some.key) ≡ false = search rules in
    let found : value_front c.in-Some.after_key.now ≡ Some (value_view c.in-Some-2._value, c.in-Some-2.after.now) = search rules in
    name_later c.args.name.now c.args.count c.pairs.place c.pairs.rest.now _ c.pairs.invariant _ _ _ _ (omega arith) read other found

pub returns-clause-place : goal.returns-clause-place
returns-clause-place c = sym (name_nowhere c.args.name.now c.args.count c.pairs.place c.pairs.rest.now _ c.pairs.invariant (omega arith))
