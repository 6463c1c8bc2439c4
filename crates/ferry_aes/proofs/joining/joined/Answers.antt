use Rattle.std.proofs.Common.{arith, sym, ◌∙◌}
use Rattle.std.proofs.lemmas.List.{take_all}
use Rattle.ferry_aes.proofs.joining.joined.Goals as goal

pub returns : goal.returns
returns c = sym (take_all 128 c.put_blocks.new.into (omega (arith, c.put_blocks.auto.into))) ∙ c.put_blocks.ensures
