use Rattle.ferry_log.proofs.LeastLemmas.{not_less}
use Rattle.ferry_log.proofs.least.least_of.Goals as goal

pub returns-in-Some : goal.returns-in-Some
returns-in-Some c = (c.in-Some.ensures.value, tt, λ key some above less. not_less c.in-Some.pair.0.now key (c.in-Some.ensures.least key some) less)
