use Rattle.std.proofs.Common.{[], not, arith}
use Rattle.std.proofs.lemmas.Grind.{common_steps}
use Rattle.std.proofs.lemmas.List.Filters.{length-filter_more}
use Rattle.std.specs.BTreeMap.{get}
use Rattle.ferry_log.specs.Live.{key_cmp}
use Rattle.ferry_check.specs.Steps.{is_used}
use Rattle.ferry_check.proofs.marks.count_unused.Goals.{then-not-is_used, else-not-is_used}
use Rattle.ferry_check.proofs.marks.count_unused.Goals as goal

pub loop-place-preserved : goal.loop-place-preserved
loop-place-preserved c =
    let known = get key_cmp c.args.chunks.now in
    let more = length-filter_more (λ id. not (is_used (known id))) c.args.ids.now c.loop-place.place [] (omega arith) in
    elim c.if-not-is_used.branch [
      | then-not-is_used w ↦
          grind (arith, common_steps, more, c.loop-place.invariant.count, c.loop-place.invariant.small, w.if-not-is_used, w.count-is, c.is_used.ensures)
      | else-not-is_used w ↦
          grind (arith, common_steps, more, c.loop-place.invariant.count, c.loop-place.invariant.small, w.if-not-is_used, w.count-is, c.is_used.ensures)
    ]
