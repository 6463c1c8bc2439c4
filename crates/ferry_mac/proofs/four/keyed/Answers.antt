use Rattle.std.proofs.Common.{[], ◌∷◌, length, ap, ◌∙◌, arith}
use Rattle.std.proofs.lemmas.List.{get_or-replicate}
use Rattle.sha2.specs.Sha256.{compress}
use Rattle.ferry_mac.proofs.four.keyed.Goals as goal

pub loop-l-init : goal.loop-l-init
loop-l-init c = (λ i low. ap length (get_or-replicate 64 i (0 ∷ 0 ∷ 0 ∷ 0 ∷ []) [] low), λ j low. absurd (omega arith))

pub returns : goal.returns
returns c l inside =
    let block = c.args.block.now in
    c.compressed.ensures.hash l block inside (c.loop-l.invariant.1 l (omega arith)) ∙ ap (λ h. compress h block) (c.initial.ensures l inside)
