use Rattle.ferry_aes.proofs.BitLemmas.{wire-and}
use Rattle.ferry_aes.proofs.wide_gates.product.Goals as goal

pub returns : goal.returns
returns c j i lane = wire-and 32 c.args.a c.args.b j i c.fits-a.0 c.fits-b.0 lane
