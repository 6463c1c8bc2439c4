use Rattle.ferry_status.proofs.LeftLemmas.{now_left}
use Rattle.ferry_top.proofs.laws.stop_laws.Goals as goal

pub returns : goal.returns
returns c = record { now = λ before now begun first moments. now_left (λ _. Unit {0}) before now begun first moments }
