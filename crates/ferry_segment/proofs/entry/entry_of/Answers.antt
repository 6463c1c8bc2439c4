use Rattle.std.proofs.Common.{ap}
use Rattle.std.proofs.lemmas.List.{take_rest}
use Rattle.ferry_segment.specs.Entry.{PutEntry}
use Rattle.ferry_segment.proofs.entry.entry_of.Goals as goal

pub returns-in-0 : goal.returns-in-0
returns-in-0 c = rw (c.in-0.is) (ap (PutEntry c.args.head.key) (take_rest c.args.entry.now 41))
