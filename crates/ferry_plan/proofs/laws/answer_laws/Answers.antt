use Rattle.ferry_plan.proofs.AnswerLemmas.{made_apart, one_refused}
use Rattle.ferry_plan.proofs.laws.answer_laws.Goals as goal

pub returns : goal.returns
returns c = record { made = made_apart; refused = one_refused }
