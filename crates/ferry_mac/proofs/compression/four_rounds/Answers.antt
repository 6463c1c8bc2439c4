use Rattle.std.proofs.Common.{◌≡◌, ◌+◌, refl, arith}
use Rattle.sha2.specs.Sha256.{rounds, schedule}
use Rattle.ferry_mac.specs.Lanes.{lane}
use Rattle.ferry_mac.proofs.RoundLemmas.{rounds_more}
use Rattle.ferry_mac.proofs.compression.four_rounds.Goals as goal

pub returns : goal.returns
returns g c l h block inside words before =
    let w = schedule block 48 in
    let t = c.args.t in
    let a : lane c.round-first.result l ≡ rounds h w (t + 1) =
    rounds_more h w _ _ t _ _ (t + 1) before (c.round-first.ensures l inside) refl (words t (omega arith)) refl in
    let b : lane c.round-second.result l ≡ rounds h w (t + 2) =
    rounds_more h w _ _ (t + 1) _ _ (t + 2) a (c.round-second.ensures l inside) refl (words (t + 1) (omega arith)) (omega arith) in
    let d : lane c.round-third.result l ≡ rounds h w (t + 3) =
    rounds_more h w _ _ (t + 2) _ _ (t + 3) b (c.round-third.ensures l inside) refl (words (t + 2) (omega arith)) (omega arith) in
    rounds_more h w _ _ (t + 3) _ _ (t + 4) d (c.round.ensures l inside) refl (words (t + 3) (omega arith)) (omega arith)
