use Rattle.std.proofs.Common.{◌≡◌, ◌+◌, true, false, Some, drop, get_or, ap, sym, ◌∙◌, arith}
use Rattle.std.proofs.lemmas.List.{drop_all}
use Rattle.std.specs.Str.{bytes_eq}
use Rattle.ferry_carry.proofs.flight.entry_named.Goals as goal
use Rattle.ferry_repo.proofs.ArchiveLemmas.{archive_named-here, archive_named-other, archive_named-none, archives-drop, same_get}
use Rattle.ferry_repo.specs.Archives.{archive_named}

pub returns-then-eq : goal.returns-then-eq
returns-then-eq c =
    let all = c.args.archives.now in
    let name = c.args.name.now in
    let place = c.loop-place.place in
    let a = c.index-archives-place.result in
    let entry = c.index-archives-place-then-eq in
    let is : bytes_eq c.as_slice.result.now name ≡ true = sym c.eq.ensures ∙ c.if-eq.true in
    let named = ap (λ s. bytes_eq s name) (sym c.as_slice.ensures) ∙ is in
    let here = c.loop-place.invariant ∙ ap (archive_named name) (archives-drop all place a (omega arith))
    ∙ archive_named-here name (get_or all place a) (drop (place + 1) all) named in
    record { entry = ap Some (c.in_ok-copy_entry.ensures.entry ∙ (entry.is ∙ same_get all place entry.result a (omega arith))) ∙ sym here }

pub loop-place-preserved : goal.loop-place-preserved
loop-place-preserved c =
    let all = c.args.archives.now in
    let name = c.args.name.now in
    let place = c.loop-place.place in
    let a = c.index-archives-place.result in
    let other : bytes_eq c.as_slice.result.now name ≡ false = sym c.eq.ensures ∙ c.if-eq.false in
    let named = ap (λ s. bytes_eq s name) (sym c.as_slice.ensures) ∙ other in
    c.loop-place.invariant ∙ ap (archive_named name) (archives-drop all place a (omega arith))
    ∙ archive_named-other name (get_or all place a) (drop (place + 1) all) named

pub returns : goal.returns
returns c =
    let none = c.loop-place.invariant ∙ ap (archive_named c.args.name.now) (drop_all c.loop-place.place c.args.archives.now (omega arith))
    ∙ archive_named-none c.args.name.now in
    record { entry = sym none }
