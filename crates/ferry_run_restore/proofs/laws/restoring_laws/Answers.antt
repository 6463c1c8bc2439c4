use Rattle.ferry_run_restore.proofs.LawLemmas.{completes, refuses_full}
use Rattle.ferry_run_restore.proofs.laws.restoring_laws.Goals as goal

pub returns-clause-complete : goal.returns-clause-complete
returns-clause-complete c source secret name before after output printed ended can empty does =
    completes source secret name before after output printed ended can empty does

pub returns-clause-full : goal.returns-clause-full
returns-clause-full c source secret name before after output printed ended has full does =
    refuses_full source secret name before after output printed ended has full does
