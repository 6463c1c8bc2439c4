use Rattle.std.proofs.Common.{◌≡◌, ◌-◌, ap, sym, ◌∙◌, arith}
use Rattle.std.proofs.lemmas.Result.{err_from_is_err_and}
use Rattle.ferry_msgpack.specs.Tree.{put}
use Rattle.ferry_msgpack.specs.View.{value_view, pairs_view}
use Rattle.ferry_msgpack.specs.Reading.{value_at}
use Rattle.ferry_msgpack.proofs.ApartLemmas.{none_before, apart_goes_on, apart_repeats, apart_key_fails, apart_fails, apart_done}
use Rattle.ferry_msgpack.proofs.ViewLemmas.{pairs_view-insert_entry, has_key-lookup}
use Rattle.ferry_msgpack.proofs.apart.pairs_apart.Goals as goal

pub pairs-init : goal.pairs-init
pairs-init c =
    let none = ap pairs_view c.new-found.ensures.empty in
    let all : c.args.count - 0 ≡ c.args.count = omega arith in
    rw (none, all) (none_before c.args.name.now (value_at 63) c.args.count c.args.bytes.now)

pub returns-in_err-key : goal.returns-in_err-key
returns-in_err-key c =
    let p = err_from_is_err_and c.from_residual.result c.from_residual.ensures.1 in
    rw (p.1, p.2) (apart_key_fails c.args.name.now (value_at 63) c.args.count c.pairs.counter c.pairs.rest.now _ _ _ c.pairs.invariant
    c.in_err-key.field-0.0 c.pairs-test.true c.in_err-key.ensures)

pub returns-then-contains_key : goal.returns-then-contains_key
returns-then-contains_key c =
    let again = sym (has_key-lookup c.in_ok-key.key.now c.pairs.found.entries) ∙ sym c.contains_key.ensures ∙ c.if-contains_key.true in
    apart_repeats c.args.name.now (value_at 63) c.args.count c.pairs.counter c.pairs.rest.now _ _ _ c.pairs.invariant c.in_ok-key.key.now
    c.in_ok-key.after.now c.pairs-test.true c.in_ok-key.ensures again

pub returns-in_err-value : goal.returns-in_err-value
returns-in_err-value c =
    let p = err_from_is_err_and c.from_residual-in_err-value.result c.from_residual-in_err-value.ensures.1 in
    let new = sym (has_key-lookup c.in_ok-key.key.now c.pairs.found.entries) ∙ sym c.contains_key.ensures ∙ c.if-contains_key.false in
    let failed = rw c.eq.ensures at c.in_err-value.ensures in
    rw (p.1, p.2) (apart_fails c.args.name.now (value_at 63) c.args.count c.pairs.counter c.pairs.rest.now _ _ _ c.pairs.invariant
    c.in_err-value.field-0.0 c.in_ok-key.key.now c.in_ok-key.after.now c.pairs-test.true c.in_ok-key.ensures new failed)

pub pairs-preserved : goal.pairs-preserved
pairs-preserved c =
    let new = sym (has_key-lookup c.in_ok-key.key.now c.pairs.found.entries) ∙ sym c.contains_key.ensures ∙ c.if-contains_key.false in
    let grown = ap pairs_view c.in_ok-insert.ensures.entries ∙ pairs_view-insert_entry c.pairs.found.entries c.in_ok-from_slice.field-0 c.in_ok-value.value
    ∙ ap (λ k. put k (value_view c.in_ok-value.value) (pairs_view c.pairs.found.entries)) c.in_ok-from_slice.ensures.items in
    let read = rw c.eq.ensures at c.in_ok-value.ensures in
    rw grown (apart_goes_on c.args.name.now (value_at 63) c.args.count c.pairs.counter c.pairs.rest.now _ _ _ c.pairs.invariant c.in_ok-key.key.now
    c.in_ok-key.after.now (value_view c.in_ok-value.value) _ c.in_ok-value.after.now c.pairs-test.true c.in_ok-key.ensures new read)

pub returns : goal.returns
returns c =
    rw (ap pairs_view c.in_ok-pairs.ensures) (apart_done c.args.name.now (value_at 63) c.args.count c.pairs.counter c.pairs.rest.now _ _ _
    c.pairs.invariant c.pairs-test.false)
