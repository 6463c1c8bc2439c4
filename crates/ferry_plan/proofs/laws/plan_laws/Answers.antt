use Rattle.ferry_plan.proofs.LawLemmas.{apart_ids, numbers_carried, numbers_shown}
use Rattle.ferry_plan.proofs.laws.plan_laws.Goals as goal

pub returns : goal.returns
returns c = record { numbers = numbers_carried; shown = numbers_shown; apart = apart_ids }
