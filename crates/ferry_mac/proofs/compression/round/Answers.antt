use Rattle.std.proofs.Common.{◌≡◌, [], ◌∷◌, slice_index, refl, arith, ◌∙◌}
use Rattle.sha2.specs.Sha256.{round}
use Rattle.ferry_mac.specs.Lanes.{lane, lane_at}
use Rattle.ferry_mac.proofs.LaneLemmas.{lane-set_eight}
use Rattle.ferry_mac.proofs.compression.round.Goals as goal

pub returns : goal.returns
returns g c l inside =
    let v = c.args.v in
    let made : slice_index c.sum.result l ∷ lane_at v 0 l ∷ lane_at v 1 l ∷ lane_at v 2 l ∷ slice_index c.sum-2.result l
    ∷ lane_at v 4 l ∷ lane_at v 5 l ∷ lane_at v 6 l ∷ [] ≡ round (lane v l) c.args.constant (slice_index c.args.word l) =
    rw (
      c.sum.ensures l inside,
      c.sum-2.ensures l inside,
      c.sum-second.ensures l inside,
      c.first_sum-first.ensures l inside,
      c.big_sigma0.ensures l inside,
      c.maj.ensures l inside,
    ) refl in
    lane-set_eight v _ _ _ _ _ _ _ _ l (omega arith) ∙ made
