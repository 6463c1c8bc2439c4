use Rattle.ferry_disk.specs.Act.{files_now}
use Rattle.ferry_stops.proofs.KeptLemmas.{empty_kept, stop_kept}
use Rattle.ferry_stops.proofs.laws.kept_laws.Goals as goal

pub returns-clause-empty : goal.returns-clause-empty
returns-clause-empty c = empty_kept

pub returns-clause-stop : goal.returns-clause-stop
returns-clause-stop c = stop_kept

pub returns-clause-again : goal.returns-clause-again
returns-clause-again c = λ history kept traced left. stop_kept history (files_now history) kept traced left
