use Rattle.std.proofs.Common.{arith, refl, length-set}
use Rattle.ferry_aes.specs.KeyExpansion.{first_words}
use Rattle.ferry_aes.proofs.KeyExpansionLemmas.{first_words_more, key_expansion_from_words}
use Rattle.ferry_aes.proofs.expansion.expanded.Goals as goal

pub loop-i-init : goal.loop-i-init
unfolding first_words
loop-i-init c = (refl, refl)

pub loop-i-preserved : goal.loop-i-preserved
loop-i-preserved c = (
  omega (arith, length-set c.loop-i.words c.loop-i.i c.next_word.result),
  first_words_more _ _ _ _ (omega arith) c.loop-i.invariant.1 c.next_word.ensures,
)

pub returns : goal.returns
returns c = key_expansion_from_words _ _ _ c.loop-i.invariant.0 (omega arith) (omega arith) c.loop-i.invariant.1
