use Rattle.std.proofs.Common.{arith}
use Rattle.std.proofs.lemmas.Simd.{Each1-all, Each2-splat}
use Rattle.ferry_mac.proofs.LaneLemmas.{at-rotated}
use Rattle.ferry_mac.proofs.lanes.rotated.Goals as goal

pub returns : goal.returns
returns g c lane h = at-rotated g.row.N c.args.x c.args.count lane c.fits-x.0 c.requires.low c.requires.high h

pub overflow_shr-result : goal.overflow_shr-result
overflow_shr-result g c = Each2-splat _ c.args.x g.row.N c.args.count (Each1-all _ (λ x. c.requires.high) c.args.x)

pub overflow_shl-result : goal.overflow_shl-result
overflow_shl-result g c = Each2-splat _ c.args.x g.row.N _ (Each1-all _ (λ x. omega arith) c.args.x)
