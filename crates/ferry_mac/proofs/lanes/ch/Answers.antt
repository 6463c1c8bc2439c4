use Rattle.ferry_mac.proofs.LaneLemmas.{at-ch}
use Rattle.ferry_mac.proofs.lanes.ch.Goals as goal

pub returns : goal.returns
returns g c lane h = at-ch g.row.N c.args.x c.args.y c.args.z lane c.fits-x.0 c.fits-y.0 c.fits-z.0 h
