use Rattle.ferry_aes.proofs.ByteLemmas.{byte_at-added}
use Rattle.ferry_aes.proofs.planes.added.Goals as goal

pub returns : goal.returns
returns c j i lane =
    byte_at-added c.args.a.now c.args.b.now _ _ _ _ _ _ _ _ j i
    (c.sum.ensures j i lane) (c.sum-2.ensures j i lane) (c.sum-3.ensures j i lane) (c.sum-4.ensures j i lane)
    (c.sum-5.ensures j i lane) (c.sum-6.ensures j i lane) (c.sum-7.ensures j i lane) (c.sum-8.ensures j i lane)
