use Rattle.std.proofs.Common.{◌≡◌, ◌∷◌, [], ◌+◌, ◌++◌, length, get_or, refl, ap, ◌∙◌, arith}
use Rattle.std.proofs.lemmas.List.{get_or_append_left, get_or-append-add}
use Rattle.ferry_aes.proofs.Tables.{all_below}
use Rattle.ferry_aes.proofs.BitLemmas.{get_or-picked_at}
use Rattle.ferry_aes.proofs.halves.paired_plane.Goals as goal

pub returns-clause-first : goal.returns-clause-first
unfolding all_below
returns-clause-first c j lane =
    get_or-picked_at 32 (c.args.low ++ c.args.high) (0 ∷ 1 ∷ 2 ∷ 3 ∷ 4 ∷ 5 ∷ 6 ∷ 7 ∷ 8 ∷ 9 ∷ 10 ∷ 11 ∷ 12 ∷ 13 ∷ 14 ∷ 15 ∷ 16 ∷ 17 ∷ 18 ∷ 19 ∷ 20 ∷ 21 ∷ 22 ∷ 23
    ∷ 24 ∷ 25 ∷ 26 ∷ 27 ∷ 28 ∷ 29 ∷ 30 ∷ 31 ∷ []) (λ k. k) refl tt j (omega arith)
    ∙ get_or_append_left c.args.low c.args.high 0 j (omega (arith, c.fits-low.0, lane))

pub returns-clause-second : goal.returns-clause-second
unfolding all_below
returns-clause-second c j lane =
    let place : 16 + j ≡ length c.args.low + j = omega (arith, c.fits-low.0) in
    get_or-picked_at 32 (c.args.low ++ c.args.high) (0 ∷ 1 ∷ 2 ∷ 3 ∷ 4 ∷ 5 ∷ 6 ∷ 7 ∷ 8 ∷ 9 ∷ 10 ∷ 11 ∷ 12 ∷ 13 ∷ 14 ∷ 15 ∷ 16 ∷ 17 ∷ 18 ∷ 19 ∷ 20 ∷ 21 ∷ 22 ∷ 23
    ∷ 24 ∷ 25 ∷ 26 ∷ 27 ∷ 28 ∷ 29 ∷ 30 ∷ 31 ∷ []) (λ k. k) refl tt (16 + j) (omega arith)
    ∙ ap (λ k. get_or (c.args.low ++ c.args.high) k 0) place ∙ get_or-append-add c.args.low c.args.high j 0
