use Rattle.std.proofs.Common.{arith}
use Rattle.ferry_aes.proofs.HalvesLemmas.{plane-part}
use Rattle.ferry_aes.proofs.halves.high_plane.Goals as goal

pub returns : goal.returns
returns c = plane-part 16 c.args.plane c.fits-plane.0 (omega arith)
