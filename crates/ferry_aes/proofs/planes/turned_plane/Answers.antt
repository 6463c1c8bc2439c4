use Rattle.std.proofs.Common.{◌∷◌, [], ◌+◌, ◌*◌, ◌/◌, ◌%◌, refl}
use Rattle.ferry_aes.proofs.Tables.{all_below}
use Rattle.ferry_aes.proofs.BitLemmas.{get_or-picked}
use Rattle.ferry_aes.proofs.planes.turned_plane.Goals as goal

pub returns : goal.returns
unfolding all_below
returns c j lane =
    get_or-picked 16 c.args.plane (0 ∷ 1 ∷ 2 ∷ 3 ∷ 5 ∷ 6 ∷ 7 ∷ 4 ∷ 10 ∷ 11 ∷ 8 ∷ 9 ∷ 15 ∷ 12 ∷ 13 ∷ 14
    ∷ []) (λ k. k / 4 * 4 + (k + k / 4) % 4) c.fits-plane.0 refl tt j lane
