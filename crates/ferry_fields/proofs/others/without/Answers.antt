use Rattle.std.proofs.Common.{◌≡◌, true, false, [], ◌∷◌, map, ap, sym, ◌∙◌, arith, rules}
use Rattle.ferry_msgpack.specs.View.{pairs_view}
use Rattle.ferry_msgpack.proofs.ViewLemmas.{Entry}
use Rattle.ferry_fields.specs.Others.{is_among}
use Rattle.ferry_fields.proofs.OtherLemmas.{without-filter, kept_with, keep_next, skip_next, kept_all, kept_none, none_left}
use Rattle.ferry_fields.proofs.others.without.Goals as goal

pub loop-name-preserved-in-Continue-1 : goal.loop-name-preserved-in-Continue-1
loop-name-preserved-in-Continue-1 c =
    let names = map (λ n. n.now) c.args.names.now in
    let e : Entry = (c.in-Some.name, c.in-Some.value) in
    let rest = c.next.new.self.rest.items in
    let next : c.loop-name.name-iterator.rest.items ≡ e ∷ rest = search rules in
    let named : is_among names c.as_slice.result.now ≡ false = sym c.is_among.ensures.among ∙ c.if-not-is_among.true in
    let other = rw c.as_slice.ensures.value at named in
    rw c.in_ok-push.ensures.items (sym (keep_next names c.loop-name.kept.items rest e other) ∙ ap (kept_with names c.loop-name.kept.items) (sym next)
    ∙ c.loop-name.invariant)

pub loop-name-preserved : goal.loop-name-preserved
loop-name-preserved c =
    let names = map (λ n. n.now) c.args.names.now in
    let e : Entry = (c.in-Some.name, c.in-Some.value) in
    let rest = c.next.new.self.rest.items in
    let next : c.loop-name.name-iterator.rest.items ≡ e ∷ rest = search rules in
    let named : is_among names c.as_slice.result.now ≡ true = sym c.is_among.ensures.among ∙ c.if-not-is_among.false in
    let field = rw c.as_slice.ensures.value at named in
    sym (skip_next names c.loop-name.kept.items rest e field) ∙ ap (kept_with names c.loop-name.kept.items) (sym next) ∙ c.loop-name.invariant

pub returns : goal.returns
returns c =
    let names = map (λ n. n.now) c.args.names.now in
    let last : c.loop-name.name-iterator.rest.items ≡ [] =
    none_left c.loop-name.name-iterator.rest.items (omega (arith, c.loop-name.name-iterator.rest.ok, c.in-None.ensures.steps.0)) in
    let all =
    sym (kept_all names c.loop-name.kept.items) ∙ ap (kept_with names c.loop-name.kept.items) (sym last) ∙ c.loop-name.invariant
    ∙ kept_none names c.args.pairs.items in
    record { others = ap pairs_view all ∙ without-filter names c.args.pairs.items }
