use Rattle.ferry_item.proofs.StepLemmas.{ahead_begun}
use Rattle.ferry_item.proofs.progress.begun.Goals as goal

pub gone_on-requires : goal.gone_on-requires
gone_on-requires c = rw (c.in-Ok.ensures.items, c.new-levels.ensures.items) (ahead_begun c.args.bytes.now)
