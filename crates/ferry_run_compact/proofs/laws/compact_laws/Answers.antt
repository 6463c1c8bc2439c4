use Rattle.ferry_run_compact.proofs.CompactCauseLemmas.{compact_completes}
use Rattle.ferry_run_compact.proofs.laws.compact_laws.Goals as goal

pub returns : goal.returns
returns c = record { complete = compact_completes }
