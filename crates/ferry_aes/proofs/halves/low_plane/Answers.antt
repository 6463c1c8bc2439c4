use Rattle.std.proofs.Common.{arith}
use Rattle.ferry_aes.proofs.HalvesLemmas.{plane-part}
use Rattle.ferry_aes.proofs.halves.low_plane.Goals as goal

pub returns : goal.returns
returns c = plane-part 0 c.args.plane c.fits-plane.0 (omega arith)
