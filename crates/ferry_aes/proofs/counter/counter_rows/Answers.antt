use Rattle.ferry_aes.proofs.CounterModeLemmas.{counter_by_words}
use Rattle.ferry_aes.proofs.counter.counter_rows.Goals as goal

pub returns : goal.returns
returns c j lane = counter_by_words c.args.counter c.ranges.counter.fits j lane
