use Rattle.std.proofs.Common.{refl, sym, ap, map, ◌∙◌}
use Rattle.ferry_log.specs.Opening.{counted_live}
use Rattle.ferry_log.proofs.ExtentsLemmas.{counted_next, counted_all, segments_same}
use Rattle.ferry_log.proofs.extents.count_live.Goals as goal

pub loop-place-preserved : goal.loop-place-preserved
loop-place-preserved c = (
  tt,
  tt,
  counted_next (c.in-Some.field-0-0.now, c.in-Some.place.now) c.in-Some.place.now c.loop-place.place-iterator c.next.new.self c.args.live.now.entries
      c.args.extents.now c.loop-place.extents c.count_one.new.extents
      c.in-Some.ensures.steps refl c.loop-place.invariant.2 c.count_one.ensures,
  segments_same c.in-Some.place.now c.loop-place.extents c.count_one.new.extents c.args.numbers.now c.loop-place.invariant.3 c.count_one.ensures,
)

pub returns-clause-counted : goal.returns-clause-counted
returns-clause-counted c =
    sym (counted_all c.loop-place.extents)
    ∙ (ap (λ ps. map (counted_live ps) c.loop-place.extents) (sym c.in-None.ensures.steps.0) ∙ c.loop-place.invariant.2)
