use Rattle.std.proofs.Common.{rules}
use Rattle.std.specs.BTreeMap.{get}
use Rattle.ferry_log.specs.Live.{key_cmp}
use Rattle.ferry_refs.proofs.CountLemmas.{added}
use Rattle.ferry_refs.proofs.counts.Counts.add.Goals as goal

pub returns-in-Ok-clause-added : goal.returns-in-Ok-clause-added
returns-in-Ok-clause-added c =
    added (get key_cmp c.args.self.now.counts) (get key_cmp c.insert.new.self) c.args.id.now c.in-Some.count (search rules) c.in-Ok.ensures.updates.0
