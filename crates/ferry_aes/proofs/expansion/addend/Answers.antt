use Rattle.ferry_aes.proofs.KeyExpansionLemmas.{addend_with_constant}
use Rattle.ferry_aes.proofs.expansion.addend.Goals as goal

pub returns-then-i-eq0 : goal.returns-then-i-eq0
returns-then-i-eq0 c =
    addend_with_constant _ _ _ _ _ c.requires.past_key c.requires.in_range c.if-i-eq0.true c.rot_word.ensures c.sub_word.ensures c.add_words.ensures
