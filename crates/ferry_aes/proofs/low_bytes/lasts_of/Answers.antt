use Rattle.ferry_aes.proofs.ByteLemmas.{byte_at-moved}
use Rattle.ferry_aes.proofs.low_bytes.lasts_of.Goals as goal

pub returns : goal.returns
returns c j i lane =
    byte_at-moved c.args.p.now _ _ _ _ _ _ _ _ j 15 i
    (c.last_of.ensures j lane) (c.last_of-2.ensures j lane) (c.last_of-3.ensures j lane) (c.last_of-4.ensures j lane)
    (c.last_of-5.ensures j lane) (c.last_of-6.ensures j lane) (c.last_of-7.ensures j lane) (c.last_of-8.ensures j lane)
