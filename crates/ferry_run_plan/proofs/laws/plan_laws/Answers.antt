use Rattle.ferry_run_plan.proofs.PlanCauseLemmas.{plan_completes}
use Rattle.ferry_run_plan.proofs.laws.plan_laws.Goals as goal

pub returns : goal.returns
returns c = record { complete = plan_completes }
