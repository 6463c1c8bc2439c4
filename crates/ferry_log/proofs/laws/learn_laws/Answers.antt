use Rattle.ferry_log.proofs.FitsLemmas.{place_learnt, place_other}
use Rattle.ferry_log.proofs.laws.learn_laws.Goals as goal

pub returns : goal.returns
returns c = record { place = place_learnt; others = place_other }
