use Rattle.std.proofs.Common.{◌≡◌, ◌+◌, ◌*◌, arith, refl, take}
use Rattle.std.proofs.lemmas.List.{append-nil}
use Rattle.ferry_aes.proofs.CounterModeLemmas.{joined_next, joined_at_end}
use Rattle.ferry_aes.proofs.joining.put_blocks.Goals as goal

pub loop-i-init : goal.loop-i-init
loop-i-init c =
    let e : c.args.at + 16 * 0 ≡ c.args.at = omega arith in
    rw (e, append-nil) refl

pub loop-i-preserved : goal.loop-i-preserved
loop-i-preserved c =
    rw c.put_block.ensures
    (joined_next c.args.rows.now c.args.at c.loop-i.i (take c.args.at c.args.into.now) c.loop-i.into _ (omega arith)
    (omega (arith, c.loop-i.auto.into, c.requires)) c.crossed-block.ensures.lanes c.crossed-block.ensures.places c.loop-i.invariant)

pub returns : goal.returns
returns c = joined_at_end c.args.rows.now c.args.at c.loop-i.i (take c.args.at c.args.into.now) c.loop-i.into (omega arith) c.loop-i.invariant
