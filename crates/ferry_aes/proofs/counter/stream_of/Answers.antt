use Rattle.std.proofs.Common.{length}
use Rattle.ferry_aes.proofs.CounterModeLemmas.{no_groups}
use Rattle.ferry_aes.proofs.counter.stream_of.Goals as goal

pub returns-then-into-le-SHORT : goal.returns-then-into-le-SHORT
returns-then-into-le-SHORT c w keys = c.groups_from.ensures w keys (no_groups w c.args.counter (length c.args.into.now) c.args.into.now)
