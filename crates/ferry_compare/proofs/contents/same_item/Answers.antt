use Rattle.std.proofs.Common.{◌≡◌, true, false, refl, sym, ◌∙◌}
use Rattle.ferry_item.specs.Item.{item_view}
use Rattle.ferry_repo.specs.Opening.{repo_view}
use Rattle.ferry_compare.proofs.ContentLemmas.{items_same, items_apart}
use Rattle.ferry_compare.proofs.StepLemmas.{if_ok, matched_later}
use Rattle.ferry_compare.proofs.contents.same_item.Goals as goal

pub returns-then-same_value-clause-compares : goal.returns-then-same_value-clause-compares
returns-then-same_value-clause-compares g c =
    if_ok c.same_content.result _ _ (λ same h.
    items_same (g.S.Shelf.told c.args.shelf.now) (repo_view c.args.source.now) (g.T.Shelf.told c.args.other.now) (repo_view c.args.target.now)
    (item_view c.args.item.now) (item_view c.args.beside.now) same (c.same_value.ensures.same.0 c.if-same_value.true) h) c.same_content.ensures.compares

pub returns-clause-compares : goal.returns-clause-compares
returns-clause-compares g c =
    items_apart (g.S.Shelf.told c.args.shelf.now) (repo_view c.args.source.now) (g.T.Shelf.told c.args.other.now) (repo_view c.args.target.now)
    (item_view c.args.item.now) (item_view c.args.beside.now)
    (λ e. let no : false ≡ true = sym c.if-same_value.false ∙ c.same_value.ensures.same.1 e in let not : ⊥ = cc in not)
    c.in_ok-read_content.ensures.holds

pub returns-clause-matched : goal.returns-clause-matched
returns-clause-matched g c =
    let heard = g.T.Shelf.told c.args.other.now in
    let target = repo_view c.args.target.now in
    matched_later (g.S.Shelf.told c.args.shelf.now) (g.S.Shelf.told c.read_content.new.shelf) (repo_view c.args.source.now)
    (repo_view c.read_content.new.source) heard heard target target c.in_ok-read_content.ensures.same c.in_ok-read_content.ensures.kept refl refl
    c.args.matches.now c.requires.matched
