use Rattle.std.proofs.Common.{length-set, slice_index, ap, ◌∙◌, arith}
use Rattle.ferry_mac.proofs.RoundLemmas.{rows_set, scheduled_first, scheduled_more}
use Rattle.ferry_mac.proofs.compression.extend_schedule.Goals as goal

pub loop-t-init : goal.loop-t-init
loop-t-init g c = (c.told-w, c.requires.rows, λ k block inside words. scheduled_first c.args.w.now k block words)

pub loop-t-preserved : goal.loop-t-preserved
loop-t-preserved g c = (
  omega (arith, length-set c.loop-t.w c.loop-t.t c.row.result, c.loop-t.invariant.0),
  rows_set c.loop-t.w c.loop-t.t g.row.N c.row.result (omega (arith, c.loop-t.invariant.0)) c.row.ensures.length c.loop-t.invariant.1,
  λ k block inside words.
      scheduled_more c.loop-t.w c.row.result c.loop-t.t k block (omega arith) (omega arith) c.loop-t.invariant.0
      (c.loop-t.invariant.2 k block inside words) (ap (λ v. slice_index v k) c.row.ensures.lanes ∙ c.next_word-next.ensures k inside),
)
