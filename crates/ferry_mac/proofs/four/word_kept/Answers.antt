use Rattle.ferry_mac.proofs.LaneLemmas.{at-selected}
use Rattle.ferry_mac.proofs.four.word_kept.Goals as goal

pub returns : goal.returns
returns g c l h = at-selected g.row.N c.args.going c.args.next c.args.state l c.fits-going.0 c.fits-next.0 c.fits-state.0 h
