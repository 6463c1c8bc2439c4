use Rattle.ferry_aes.proofs.ByteLemmas.{byte_at-doubled}
use Rattle.ferry_aes.proofs.planes.doubled.Goals as goal

pub returns : goal.returns
returns c j i lane = byte_at-doubled c.args.p.now _ _ _ j i (c.sum-one.ensures j i lane) (c.sum-three.ensures j i lane) (c.sum-four.ensures j i lane)
