use Rattle.std.proofs.Common.{◌<◌, ◌^◌, arith}
use Rattle.ferry_mac.proofs.EndingLemmas.{length-behind_key}
use Rattle.ferry_mac.proofs.ManyLemmas.{begun_lane, begun_other}
use Rattle.ferry_mac.proofs.many.set_text.Goals as goal

pub returns-clause-lane : goal.returns-clause-lane
returns-clause-lane g c =
    let few : c.block_count.result < 2 ^ 60 = omega (arith, c.block_count.ensures, length-behind_key c.text_at-text.result.now) in
    begun_lane c.args.texts.now c.args.lanes.now c.args.l c.args.place c.block_count.result c.ending.result (omega arith) (omega arith) (omega arith)
    (omega arith) (rw c.text_at-text.ensures at c.ending.ensures) (rw c.text_at-text.ensures at c.block_count.ensures) few

pub returns-clause-lanes : goal.returns-clause-lanes
returns-clause-lanes g c j ne held =
    begun_other c.args.texts.now c.args.lanes.now c.args.l c.args.place c.block_count.result c.ending.result j ne held
