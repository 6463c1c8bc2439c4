use Rattle.ferry_aes.proofs.FirstRoundLemmas.{higher_by_states}
use Rattle.ferry_aes.proofs.counter.higher_bytes.Goals as goal

pub returns-then-low-gt248 : goal.returns-then-low-gt248
returns-then-low-gt248 c w keys known =
    higher_by_states w c.args.first c.counters.result c.first_substituted.result c.counters.ensures (λ i l. c.first_substituted.ensures w i keys l)
