use Rattle.std.proofs.Common.{Option, IfSome, option_map, refl, sym, ap, subst}
use Rattle.ferry_disk.specs.Device.{told_files}
use Rattle.ferry_item.specs.Item.{ItemText, item_view}
use Rattle.ferry_repo.specs.Opening.{repo_view}
use Rattle.ferry_repo.specs.Walk.{WalkState, walk_view}
use Rattle.ferry_compare.specs.Steps.{FindsBeside, TakesItem}
use Rattle.ferry_compare.proofs.StepLemmas.{on_ok, keeps_ok, log_fits, matched_later, takes_found, takes_none}
use Rattle.ferry_compare.proofs.comparison.take.Goals as goal

pub returns-in_ok-compared-in-Some-clause-takes : goal.returns-in_ok-compared-in-Some-clause-takes
returns-in_ok-compared-in-Some-clause-takes g c =
    let told = g.S.Shelf.told c.args.shelf.now in
    let source = repo_view c.args.source.now in
    let heard = g.T.Shelf.told c.args.other.now in
    let target = repo_view c.args.target.now in
    let item = item_view c.args.item.now in
    let from = option_map walk_view c.args.walk.now in
    let now = option_map walk_view c.next_beside.new.walk in
    let found = item_view c.in-Some.beside in
    let finds = subst (λ (o : Option ItemText). IfSome heard (λ t. FindsBeside (told_files t) target from o now)) (ap (option_map item_view) c.in-Some.is)
    c.in_ok-beside.ensures.finds in
    subst (λ (w : Option WalkState). TakesItem told source heard target item from w) (sym c.keep_where.ensures.kept)
    (takes_found told source heard (g.T.Shelf.told c.next_beside.new.other) target (repo_view c.next_beside.new.target) item found from now
    c.in_ok-compared-in-Some.field-0 c.in_ok-beside.ensures.same c.in_ok-beside.ensures.kept (log_fits heard target _ c.requires.target_fits)
    c.requires.walk_fits finds c.in_ok-compared-in-Some.ensures.compares)

pub returns-in-None-clause-takes : goal.returns-in-None-clause-takes
returns-in-None-clause-takes g c =
    let heard = g.T.Shelf.told c.args.other.now in
    let target = repo_view c.args.target.now in
    let from = option_map walk_view c.args.walk.now in
    let now = option_map walk_view c.next_beside.new.walk in
    let finds = subst (λ (o : Option ItemText). IfSome heard (λ t. FindsBeside (told_files t) target from o now)) (ap (option_map item_view) c.in-None.is)
    c.in_ok-beside.ensures.finds in
    on_ok c.read_content.result _ _ (λ holds.
    takes_none (g.S.Shelf.told c.args.shelf.now) (repo_view c.args.source.now) heard target (item_view c.args.item.now) from now finds holds)
    c.read_content.ensures.holds

pub same_item-compared-requires-clause-matched : goal.same_item-compared-requires-clause-matched
same_item-compared-requires-clause-matched g c =
    let told = g.S.Shelf.told c.args.shelf.now in
    let source = repo_view c.args.source.now in
    matched_later told told source source (g.T.Shelf.told c.args.other.now) (g.T.Shelf.told c.next_beside.new.other) (repo_view c.args.target.now)
    (repo_view c.next_beside.new.target) refl refl c.in_ok-beside.ensures.same c.in_ok-beside.ensures.kept c.args.matches.now c.requires.matched

pub returns-in-None-clause-matched : goal.returns-in-None-clause-matched
returns-in-None-clause-matched g c =
    let told = g.S.Shelf.told c.args.shelf.now in
    let later = g.S.Shelf.told c.read_content.new.shelf in
    on_ok c.read_content.result _ _ (λ same. matched_later told later (repo_view c.args.source.now) (repo_view c.read_content.new.source)
    (g.T.Shelf.told c.args.other.now) (g.T.Shelf.told c.next_beside.new.other) (repo_view c.args.target.now) (repo_view c.next_beside.new.target) same
    c.read_content.ensures.kept c.in_ok-beside.ensures.same c.in_ok-beside.ensures.kept c.args.matches.now c.requires.matched)
    (keeps_ok _ told later c.read_content.result c.read_content.ensures.same)
