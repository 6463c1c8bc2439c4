use Rattle.ferry_mac.proofs.LaneLemmas.{at-maj}
use Rattle.ferry_mac.proofs.lanes.maj.Goals as goal

pub returns : goal.returns
returns g c lane h = at-maj g.row.N c.args.x c.args.y c.args.z lane c.fits-x.0 c.fits-y.0 c.fits-z.0 h
