use Rattle.std.proofs.Common.{ℕ, ◌<◌, arith, refl, length-set}
use Rattle.ferry_aes.specs.Planes.{half, IsRoundKey}
use Rattle.ferry_aes.proofs.PlanesLemmas.{each_more}
use Rattle.ferry_aes.proofs.HalvesLemmas.{round_key-halves}
use Rattle.ferry_aes.proofs.sixteen.wide_round_keys.Goals as goal

pub loop-number-init : goal.loop-number-init
loop-number-init c = (refl, λ w keys n l. absurd (omega arith))

pub loop-number-preserved : goal.loop-number-preserved
loop-number-preserved c = (
  omega (arith, length-set c.loop-number.wide c.loop-number.number c.paired.result, c.loop-number.invariant.0),
  λ w keys. each_more (λ n p. (h : ℕ) → h < 2 → IsRoundKey w n (half h p)) c.loop-number.wide c.loop-number.number c.paired.result
      (omega (arith, c.loop-number.invariant.0)) (c.loop-number.invariant.1 w keys)
      (round_key-halves w c.loop-number.number _ c.paired.result c.paired.ensures.first c.paired.ensures.second (keys c.loop-number.number (omega arith))),
)

pub returns : goal.returns
returns c w keys n h within side = c.loop-number.invariant.1 w keys n (omega arith) h side
