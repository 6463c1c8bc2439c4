use Rattle.std.proofs.Common.{inl, IfSome, subst}
use Rattle.ferry_disk.specs.Device.{told_files}
use Rattle.ferry_item.specs.Item.{item_view}
use Rattle.ferry_repo.specs.Opening.{repo_view}
use Rattle.ferry_tree.specs.Filling.{FillsAll, FillsPart, RefusesFilling}
use Rattle.ferry_tree.specs.Growth.{outcome_at}
use Rattle.ferry_tree.specs.Placing.{Placed}
use Rattle.ferry_tree.specs.Restoring.{RestoresItem, PartOfItem, RefusesItem}
use Rattle.ferry_tree.specs.Shapes.{chunks_of, shape_of}
use Rattle.ferry_tree.specs.declared.planning.Shape.{Shape}
use Rattle.ferry_disk.proofs.DeviceLemmas.{told_then}
use Rattle.ferry_tree.proofs.GrowthLemmas.{holds_none}
use Rattle.ferry_tree.proofs.ItemLemmas.{item_restored, item_part, filling_refuses}
use Rattle.ferry_tree.proofs.MemoryLemmas.{always_err, if_err, on_ok, on_err}
use Rattle.ferry_tree.proofs.restoring.restore_item.Goals as goal

pub returns-in_err-shape-clause-err : goal.returns-in_err-shape-clause-err
returns-in_err-shape-clause-err g c before stands =
    let item = item_view c.args.item.now in
    let tree = g.T.Tree.told c.args.tree.now in
    always_err c.from_residual.result (PartOfItem (g.S.Shelf.told c.args.shelf.now) (repo_view c.args.repo.now) item before tree)
    (inl (0, (holds_none tree c.args.known.now (shape_of item).path before.tree stands.holds).tells))

pub returns-in-Ok-clause-restored : goal.returns-in-Ok-clause-restored
returns-in-Ok-clause-restored g c before stands =
    let told = g.S.Shelf.told c.args.shelf.now in
    let repo = repo_view c.args.repo.now in
    let item = item_view c.args.item.now in
    let middle = g.T.Tree.told c.place_item.new.tree in
    let after = g.T.Tree.told c.fill_item.new.tree in
    let index = c.place_item.new.known in
    let counts = c.args.counts.now in
    let placed = subst (λ (s : Shape). Placed (outcome_at before.tree s) s.path before.tree counts c.in-Ok.takes middle index c.place_item.new.counts)
    c.in_ok-shape.ensures.shape (c.in-Ok.ensures.placed before.tree stands.holds)
    in
    on_ok c.fill_item.result (FillsAll told repo (chunks_of item) c.in-Ok.takes middle after)
    (RestoresItem told repo item before after index c.place_item.new.counts)
    (λ fills. item_restored told repo item before counts c.place_item.new.counts c.in-Ok.takes middle after index stands.counts_are placed fills)
    c.fill_item.ensures.ok

pub returns-in-Ok-clause-err : goal.returns-in-Ok-clause-err
returns-in-Ok-clause-err g c before stands =
    let told = g.S.Shelf.told c.args.shelf.now in
    let repo = repo_view c.args.repo.now in
    let item = item_view c.args.item.now in
    let middle = g.T.Tree.told c.place_item.new.tree in
    let after = g.T.Tree.told c.fill_item.new.tree in
    let index = c.place_item.new.known in
    let counts = c.args.counts.now in
    let placed = subst (λ (s : Shape). Placed (outcome_at before.tree s) s.path before.tree counts c.in-Ok.takes middle index c.place_item.new.counts)
    c.in_ok-shape.ensures.shape (c.in-Ok.ensures.placed before.tree stands.holds)
    in
    on_err c.fill_item.result (FillsPart told repo (chunks_of item) c.in-Ok.takes middle after) (PartOfItem told repo item before after)
    (λ fills. item_part told repo item before counts c.place_item.new.counts c.in-Ok.takes middle after index placed fills) c.fill_item.ensures.err

pub returns-in-Ok-clause-refused : goal.returns-in-Ok-clause-refused
returns-in-Ok-clause-refused g c before stands =
    let told = g.S.Shelf.told c.args.shelf.now in
    let repo = repo_view c.args.repo.now in
    let item = item_view c.args.item.now in
    let middle = g.T.Tree.told c.place_item.new.tree in
    let index = c.place_item.new.known in
    let counts = c.args.counts.now in
    let placed = subst (λ (s : Shape). Placed (outcome_at before.tree s) s.path before.tree counts c.in-Ok.takes middle index c.place_item.new.counts)
    c.in_ok-shape.ensures.shape (c.in-Ok.ensures.placed before.tree stands.holds)
    in
    if_err c.fill_item.result (λ fault. IfSome told (λ t. RefusesFilling (told_files t) repo (chunks_of item) fault))
    (λ fault. IfSome told (λ t. RefusesItem (told_files t) repo item before fault))
    (λ fault refuses. told_then told (λ f. RefusesFilling f repo (chunks_of item) fault) (λ f. RefusesItem f repo item before fault)
    (λ f r. filling_refuses f repo item before fault placed.place r) refuses)
    c.fill_item.ensures.refused
