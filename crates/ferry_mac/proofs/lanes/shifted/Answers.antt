use Rattle.std.proofs.Common.{◌/◌, ◌^◌}
use Rattle.std.proofs.lemmas.Simd.{Each1-all, Each2-splat}
use Rattle.ferry_mac.proofs.LaneLemmas.{at-zip2_splat}
use Rattle.ferry_mac.proofs.lanes.shifted.Goals as goal

pub returns : goal.returns
returns g c lane h = at-zip2_splat g.row.N (λ a n. a / 2 ^ n) c.args.x c.args.count c.fits-x.0 lane h

pub overflow_shr-result : goal.overflow_shr-result
overflow_shr-result g c = Each2-splat _ c.args.x g.row.N c.args.count (Each1-all _ (λ x. c.requires) c.args.x)
