use Rattle.std.proofs.Common.{arith, refl}
use Rattle.ferry_aes.proofs.CounterModeLemmas.{front_more, key_stream_at_end}
use Rattle.ferry_aes.proofs.counter.groups_from.Goals as goal

pub loop-number-init : goal.loop-number-init
loop-number-init c w keys before = before

pub loop-number-preserved : goal.loop-number-preserved
loop-number-preserved c w keys before =
    front_more w c.args.counter _ _ _ _ _ c.group_from-group.result (omega arith) c.loop-number.auto.into (c.loop-number.invariant w keys before)
    refl (c.group_from-group.ensures w keys) c.put_group.ensures

pub returns : goal.returns
returns c w keys before = key_stream_at_end _ _ _ _ _ (omega arith) (omega arith) (c.loop-number.invariant w keys before)
