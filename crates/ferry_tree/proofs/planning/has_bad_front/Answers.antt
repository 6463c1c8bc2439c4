use Rattle.std.proofs.Common.{◌<◌, length, sym, ◌∙◌, arith}
use Rattle.ferry_tree.specs.Index.{known_in}
use Rattle.ferry_tree.proofs.PathLemmas.{slash_is, plain_is, front_none, front_good, front_clear, front_bad}
use Rattle.ferry_tree.proofs.planning.has_bad_front.Goals.{else-path-place-eq47-via-then-path-place-eq47+else-is_in_the_way}
use Rattle.ferry_tree.proofs.planning.has_bad_front.Goals.{else-path-place-eq47-via-else-path-place-eq47}
use Rattle.ferry_tree.proofs.planning.has_bad_front.Goals as goal

pub loop-place-init : goal.loop-place-init
loop-place-init c = front_none (known_in c.args.known.now) c.args.path.now

pub returns-then-is_in_the_way : goal.returns-then-is_in_the_way
returns-then-is_in_the_way c =
    let path = c.args.path.now in
    let place = c.loop-place.place in
    let lt : place < length path = omega arith in
    sym (front_bad (known_in c.args.known.now) path place (length path) lt (slash_is _ c.if-path-place-eq47.true)
    (sym c.is_in_the_way.ensures ∙ c.if-is_in_the_way.true) c.loop-place.invariant)

pub loop-place-preserved : goal.loop-place-preserved
loop-place-preserved c =
    let path = c.args.path.now in
    let place = c.loop-place.place in
    elim c.else-path-place-eq47.branch [
      | else-path-place-eq47-via-then-path-place-eq47+else-is_in_the_way w ↦
          front_clear (known_in c.args.known.now) path place c.loop-place.invariant (sym w.is_in_the_way.ensures ∙ w.if-is_in_the_way.false)
      | else-path-place-eq47-via-else-path-place-eq47 w ↦
          front_good (known_in c.args.known.now) path place c.loop-place.invariant (plain_is _ w.if-path-place-eq47.false)
    ]
