use Rattle.std.proofs.Common.{arith}
use Rattle.ferry_config.proofs.RoundTripLemmas.{id_of-hex}
use Rattle.ferry_config.proofs.printing.id_text.Goals as goal

pub returns-clause-read_again : goal.returns-clause-read_again
returns-clause-read_again c = id_of-hex c.args.id.now c.requires (λ i. omega (arith, c.type_inv.id i))
