use Rattle.std.proofs.Common.{arith, ◌≡◌, ◌+◌, true, false, Some, drop, ap, sym, ◌∙◌}
use Rattle.std.proofs.lemmas.List.{drop_all}
use Rattle.std.specs.Str.{bytes_eq}
use Rattle.ferry_msgpack.specs.View.{value_view, pairs_view}
use Rattle.ferry_fields.specs.Fields.{value_of}
use Rattle.ferry_fields.proofs.FieldLemmas.{value_of-here, value_of-other, value_of-none, pairs-drop, same_get}
use Rattle.ferry_fields.proofs.fields.value_of.Goals as goal

pub returns-then-eq : goal.returns-then-eq
returns-then-eq c =
    let es = c.args.pairs.now in
    let name = c.args.name.now in
    let place = c.loop-place.place in
    let e = c.index-pairs-place.result in
    let is : bytes_eq c.as_slice.result.now name ≡ true = sym c.eq.ensures ∙ c.if-eq.true in
    let named = rw c.as_slice.ensures.value at is in
    let here =
    c.loop-place.invariant ∙ ap (value_of name) (pairs-drop es place e (omega arith))
    ∙ value_of-here name _ _ (pairs_view (drop (place + 1) es)) named in
    record { value = ap (λ x. Some (value_view x.1)) (same_get es place c.index-pairs-place-then-eq.result e (omega arith)) ∙ sym here }

pub loop-place-preserved : goal.loop-place-preserved
loop-place-preserved c =
    let es = c.args.pairs.now in
    let name = c.args.name.now in
    let place = c.loop-place.place in
    let e = c.index-pairs-place.result in
    let other : bytes_eq c.as_slice.result.now name ≡ false = sym c.eq.ensures ∙ c.if-eq.false in
    let named = rw c.as_slice.ensures.value at other in
    c.loop-place.invariant ∙ ap (value_of name) (pairs-drop es place e (omega arith)) ∙ value_of-other name _ _ (pairs_view (drop (place + 1) es)) named

pub returns : goal.returns
returns c =
    record {
      value = sym (c.loop-place.invariant ∙ ap (λ rest. value_of c.args.name.now (pairs_view rest)) (drop_all c.loop-place.place c.args.pairs.now
          (omega arith)) ∙ value_of-none c.args.name.now);
    }
