use Rattle.ferry_aes.proofs.ByteLemmas.{byte_at-moved}
use Rattle.ferry_aes.proofs.low_bytes.with_lasts.Goals as goal

pub returns-clause-others : goal.returns-clause-others
returns-clause-others c j i lane =
    byte_at-moved c.args.p.now _ _ _ _ _ _ _ _ j j i
    (c.with_last.ensures.others j lane) (c.with_last-2.ensures.others j lane) (c.with_last-3.ensures.others j lane)
    (c.with_last-4.ensures.others j lane) (c.with_last-5.ensures.others j lane) (c.with_last-6.ensures.others j lane)
    (c.with_last-7.ensures.others j lane) (c.with_last-8.ensures.others j lane)

pub returns-clause-last : goal.returns-clause-last
returns-clause-last c i =
    byte_at-moved c.args.lows.now _ _ _ _ _ _ _ _ 15 c.args.place i
    c.with_last.ensures.last c.with_last-2.ensures.last c.with_last-3.ensures.last c.with_last-4.ensures.last
    c.with_last-5.ensures.last c.with_last-6.ensures.last c.with_last-7.ensures.last c.with_last-8.ensures.last
