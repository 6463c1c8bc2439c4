use Rattle.ferry_aes.proofs.BitLemmas.{wire-xor}
use Rattle.ferry_aes.proofs.gates.sum.Goals as goal

pub returns : goal.returns
returns c j i lane = wire-xor 16 c.args.a c.args.b j i c.fits-a.0 c.fits-b.0 lane
