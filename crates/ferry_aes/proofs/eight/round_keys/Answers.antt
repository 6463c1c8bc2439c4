use Rattle.std.proofs.Common.{arith, refl, length-set}
use Rattle.ferry_aes.proofs.PlanesLemmas.{round_keys_more}
use Rattle.ferry_aes.proofs.eight.round_keys.Goals as goal

pub loop-number-init : goal.loop-number-init
loop-number-init c = (refl, λ n l. absurd (omega arith))

pub loop-number-preserved : goal.loop-number-preserved
loop-number-preserved c = (
  omega (arith, length-set c.loop-number.keys c.loop-number.number c.round_key.result, c.loop-number.invariant.0),
  round_keys_more c.args.words.now c.loop-number.keys c.loop-number.number c.round_key.result (omega
      (arith, c.loop-number.invariant.0)) c.loop-number.invariant.1 c.round_key.ensures,
)

pub returns : goal.returns
returns c n within = c.loop-number.invariant.1 n (omega arith)
