use Rattle.std.proofs.Common.{◌≡◌, ℕ, List, IfOk, false, length, sym, ◌∙◌, ap, subst}
use Rattle.ferry_tree.specs.Growth.{outcome_at, with_parents}
use Rattle.ferry_tree.specs.Index.{known_in}
use Rattle.ferry_tree.specs.Making.{CanBeMade}
use Rattle.ferry_tree.specs.Nodes.{node_view}
use Rattle.ferry_tree.specs.Placing.{Placed}
use Rattle.ferry_tree.specs.Plans.{plan_view}
use Rattle.ferry_tree.specs.Planning.{Outcome, makes, has_bad_front, outcome_of}
use Rattle.ferry_tree.proofs.GrowthLemmas.{holds_none}
use Rattle.ferry_tree.proofs.PlacingLemmas.{can_be_made, room_there, same_outcome_in}
use Rattle.ferry_tree.proofs.placing.place_item.Goals as goal

pub make_item-requires-clause-room : goal.make_item-requires-clause-room
make_item-requires-clause-room g c =
    let index = c.args.known.now in
    let shape = c.args.shape.now in
    let node = node_view c.in-Ok-Makes.node in
    let made : outcome_of (known_in index) shape ≡ makes node =
    sym c.in-Ok-Makes.ensures.plan ∙ ap plan_view c.in-Ok-Makes.field-0-is
    in
    subst (λ (p : List ℕ). has_bad_front (known_in index) p (length p) ≡ false) (sym c.as_slice.ensures) (room_there index shape node made)

pub make_item-requires-clause-holds : goal.make_item-requires-clause-holds
make_item-requires-clause-holds g c =
    let index = c.args.known.now in
    let shape = c.args.shape.now in
    let node = node_view c.in-Ok-Makes.node in
    let before = c.requires.holds.0 in
    let holds = c.requires.holds.1 in
    let made : outcome_of (known_in index) shape ≡ makes node =
    sym c.in-Ok-Makes.ensures.plan ∙ ap plan_view c.in-Ok-Makes.field-0-is
    in (
      before,
      (
        holds,
        subst (λ (p : List ℕ). CanBeMade (with_parents p (length p) before) p node) (sym c.as_slice.ensures)
            (can_be_made index (g.T.Tree.told c.args.tree.now) before shape node holds made),
      ),
    )

pub returns-in-Ok-Makes-clause-placed : goal.returns-in-Ok-Makes-clause-placed
returns-in-Ok-Makes-clause-placed g c before holds =
    let index = c.args.known.now in
    let shape = c.args.shape.now in
    let node = node_view c.in-Ok-Makes.node in
    let now = g.T.Tree.told c.make_item.new.tree in
    let is : makes node ≡ outcome_at before shape =
    sym (ap plan_view c.in-Ok-Makes.field-0-is) ∙ c.in-Ok-Makes.ensures.plan ∙ same_outcome_in index (g.T.Tree.told c.args.tree.now) before shape holds
    in
    subst (λ (o : Outcome). IfOk c.make_item.result (λ takes.
    Placed o shape.path before c.args.counts.now takes now c.make_item.new.known c.make_item.new.counts)) is
    (subst (λ (p : List ℕ). IfOk c.make_item.result (λ takes.
    Placed (makes node) p before c.args.counts.now takes now c.make_item.new.known c.make_item.new.counts)) c.as_slice.ensures
    (c.make_item.ensures.placed before holds))

pub returns-in-Err-Place-clause-err : goal.returns-in-Err-Place-clause-err
returns-in-Err-Place-clause-err g c before holds =
    (0, (holds_none (g.T.Tree.told c.args.tree.now) c.args.known.now c.args.shape.now.path before holds).tells)

pub returns-in-Err-Memory-clause-err : goal.returns-in-Err-Memory-clause-err
returns-in-Err-Memory-clause-err g c before holds =
    (0, (holds_none (g.T.Tree.told c.args.tree.now) c.args.known.now c.args.shape.now.path before holds).tells)
