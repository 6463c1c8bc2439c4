use Rattle.std.proofs.Common.{◌≤◌, ◌+◌, length, take, refl, ◌∙◌, ap, arith}
use Rattle.ferry_tree.specs.Growth.{with_folder, with_parents}
use Rattle.ferry_tree.specs.Index.{known_in}
use Rattle.ferry_tree.proofs.GrowthLemmas.{holds_none, holds_begin, holds_by, room_at, parents_at, parents_past}
use Rattle.ferry_tree.proofs.PathLemmas.{slash_is, plain_is}
use Rattle.ferry_tree.proofs.making.make_parents.Goals.{then-path-place-eq47+in_ok-make_folder, else-path-place-eq47}
use Rattle.ferry_tree.proofs.making.make_parents.Goals as goal

pub loop-place-init : goal.loop-place-init
loop-place-init g c = record {
  holds = λ before holds. holds_none (g.T.Tree.told c.args.tree.now) c.args.known.now c.args.path.now before holds;
  faults = refl;
}

pub make_folder-requires : goal.make_folder-requires
make_folder-requires g c =
    let path = c.args.path.now in
    let place = c.loop-place.place in
    let before = c.requires.holds.0 in
    let holds = c.requires.holds.1 in
    let le : place ≤ length path = omega arith in
    record {
      holds = (
        with_parents path place before,
        (
          c.loop-place.invariant.holds before holds,
          room_at (known_in c.args.known.now) before path place holds.knows
              c.requires.room le,
        ),
      );
    }

pub loop-place-preserved : goal.loop-place-preserved
loop-place-preserved g c =
    let path = c.args.path.now in
    let place = c.loop-place.place in
    elim c.if-path-place-eq47.branch [
      | then-path-place-eq47+in_ok-make_folder w ↦
          let told = g.T.Tree.told w.make_folder.new.tree in
          let index = w.make_folder.new.known in
          record {
            holds = λ before holds.
                holds_by told (g.T.Tree.told c.if-path-place-eq47.tree) index c.if-path-place-eq47.known (with_parents path (place + 1) before)
                (ap g.T.Tree.told w.tree-is) w.known-is
                (holds_begin told index (with_folder (take place path) (with_parents path place before)) (with_parents path (place + 1) before)
                (parents_at path place before (slash_is _ w.if-path-place-eq47.true))
                (w.in_ok-make_folder.ensures.made (with_parents path place before) (c.loop-place.invariant.holds before holds)));
            faults = ap g.T.Tree.faults w.tree-is ∙ w.in_ok-make_folder.ensures.cause ∙ c.loop-place.invariant.faults;
          }
      | else-path-place-eq47 w ↦
          let told = g.T.Tree.told c.loop-place.tree in
          let index = c.loop-place.known in
          record {
            holds = λ before holds.
                holds_by told (g.T.Tree.told c.if-path-place-eq47.tree) index c.if-path-place-eq47.known (with_parents path (place + 1) before)
                (ap g.T.Tree.told w.tree-is) w.known-is
                (holds_begin told index (with_parents path place before) (with_parents path (place + 1) before)
                (parents_past path place before (plain_is _ w.if-path-place-eq47.false)) (c.loop-place.invariant.holds before holds));
            faults = ap g.T.Tree.faults w.tree-is ∙ c.loop-place.invariant.faults;
          }
    ]
