use Rattle.std.proofs.Common.{◌∷◌, [], ◌<◌, refl, arith, get_or, ◌∙◌}
use Rattle.std.proofs.lemmas.Simd.{Each1-get_or, below_from_Fits}
use mir.Syntax.{w8}
use Rattle.ferry_aes.proofs.Tables.{all_below}
use Rattle.ferry_aes.specs.Planes.{crossed_place}
use Rattle.ferry_aes.proofs.BitLemmas.{get_or-picked}
use Rattle.ferry_aes.proofs.transposition.crossed.Goals as goal

pub returns-clause-places : goal.returns-clause-places
unfolding all_below
returns-clause-places c m within =
    let v = c.args.block in
    let moved = get_or-picked 16 v (0 ∷ 4 ∷ 8 ∷ 12 ∷ 1 ∷ 5 ∷ 9 ∷ 13 ∷ 2 ∷ 6 ∷ 10 ∷ 14 ∷ 3 ∷ 7 ∷ 11 ∷ 15 ∷ []) crossed_place c.fits-block.0 refl tt m within in
    let low : get_or v (crossed_place m) 0 < 256 = Each1-get_or (λ x. x < 256) v (crossed_place m) 0 (omega (arith, c.fits-block.0))
    (below_from_Fits w8 v c.fits-block.1) in
    moved ∙ omega arith
