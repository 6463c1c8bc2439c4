use Rattle.std.proofs.Common.{◌∷◌, [], ◌+◌, ◌*◌, ◌/◌, ◌%◌, refl}
use Rattle.ferry_aes.proofs.Tables.{all_below}
use Rattle.ferry_aes.proofs.BitLemmas.{get_or-picked}
use Rattle.ferry_aes.proofs.wide_planes.opposite_plane.Goals as goal

pub returns : goal.returns
unfolding all_below
returns c j lane =
    get_or-picked 32 c.args.plane (8 ∷ 9 ∷ 10 ∷ 11 ∷ 12 ∷ 13 ∷ 14 ∷ 15 ∷ 0 ∷ 1 ∷ 2 ∷ 3 ∷ 4 ∷ 5 ∷ 6 ∷ 7 ∷ 24 ∷ 25 ∷ 26 ∷ 27 ∷ 28 ∷ 29 ∷ 30 ∷ 31
    ∷ 16 ∷ 17 ∷ 18 ∷ 19 ∷ 20 ∷ 21 ∷ 22 ∷ 23 ∷ [])
    (λ k. k / 16 * 16 + (k + 8) % 16) c.fits-plane.0 refl tt j lane
