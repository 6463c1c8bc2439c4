use Rattle.std.proofs.Common.{◌∷◌, [], ◌+◌, ◌%◌, refl}
use Rattle.ferry_aes.proofs.Tables.{all_below}
use Rattle.ferry_aes.proofs.BitLemmas.{get_or-picked}
use Rattle.ferry_aes.proofs.planes.lower_plane.Goals as goal

pub returns : goal.returns
unfolding all_below
returns c j lane =
    get_or-picked 16 c.args.plane (4 ∷ 5 ∷ 6 ∷ 7 ∷ 8 ∷ 9 ∷ 10 ∷ 11 ∷ 12 ∷ 13 ∷ 14 ∷ 15 ∷ 0 ∷ 1 ∷ 2 ∷ 3 ∷ []) (λ k. (k + 4) % 16) c.fits-plane.0 refl tt j lane
