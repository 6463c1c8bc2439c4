use Rattle.std.proofs.Common.{◌∷◌, [], refl}
use Rattle.ferry_aes.proofs.Tables.{all_below}
use Rattle.ferry_aes.proofs.BitLemmas.{get_or-picked}
use Rattle.ferry_aes.proofs.low_bytes.last_of.Goals as goal

pub returns : goal.returns
unfolding all_below
returns c j lane =
    get_or-picked 16 c.args.plane (15 ∷ 15 ∷ 15 ∷ 15 ∷ 15 ∷ 15 ∷ 15 ∷ 15 ∷ 15 ∷ 15 ∷ 15 ∷ 15 ∷ 15 ∷ 15 ∷ 15 ∷ 15 ∷ []) (λ k. 15) c.fits-plane.0 refl tt j lane
