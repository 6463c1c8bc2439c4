use Rattle.std.proofs.Common.{◌≡◌, ◌+◌, true, false, Some, drop, get_or, ap, sym, ◌∙◌, arith}
use Rattle.std.proofs.lemmas.List.{drop_all}
use Rattle.std.specs.Str.{bytes_eq}
use Rattle.ferry_repo.specs.Archives.{archive_named}
use Rattle.ferry_repo.proofs.ArchiveLemmas.{archive_named-here, archive_named-other, archive_named-none, archives-drop, same_get}
use Rattle.ferry_compare.proofs.beginning.place_named.Goals as goal

pub returns-then-eq-clause-named : goal.returns-then-eq-clause-named
returns-then-eq-clause-named c = λ d.
    let all = c.args.archives.now in
    let name = c.args.name.now in
    let place = c.loop-place.place in
    let a = c.index-archives-place.result in
    let is : bytes_eq c.as_slice.result.now name ≡ true = sym c.eq.ensures ∙ c.if-eq.true in
    let named = ap (λ s. bytes_eq s name) (sym c.as_slice.ensures) ∙ is in
    c.loop-place.invariant ∙ ap (archive_named name) (archives-drop all place a (omega arith))
    ∙ archive_named-here name (get_or all place a) (drop (place + 1) all) named ∙ ap (λ x. Some x) (same_get all place a d (omega arith))

pub loop-place-preserved : goal.loop-place-preserved
loop-place-preserved c =
    let all = c.args.archives.now in
    let name = c.args.name.now in
    let place = c.loop-place.place in
    let a = c.index-archives-place.result in
    let other : bytes_eq c.as_slice.result.now name ≡ false = sym c.eq.ensures ∙ c.if-eq.false in
    let named = ap (λ s. bytes_eq s name) (sym c.as_slice.ensures) ∙ other in
    c.loop-place.invariant ∙ ap (archive_named name) (archives-drop all place a (omega arith))
    ∙ archive_named-other name (get_or all place a) (drop (place + 1) all) named

pub returns-clause-none : goal.returns-clause-none
returns-clause-none c = λ e.
    c.loop-place.invariant ∙ ap (archive_named c.args.name.now) (drop_all c.loop-place.place c.args.archives.now (omega arith))
    ∙ archive_named-none c.args.name.now
