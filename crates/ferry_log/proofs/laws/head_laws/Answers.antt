use Rattle.ferry_log.proofs.HeadLemmas.{one_head, head_apart}
use Rattle.ferry_log.proofs.laws.head_laws.Goals as goal

pub returns : goal.returns
returns c = record { one_head = one_head; apart = head_apart }
