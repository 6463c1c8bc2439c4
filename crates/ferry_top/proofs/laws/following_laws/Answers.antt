use Rattle.ferry_top.proofs.FollowingLemmas.{goes_on_in_turn}
use Rattle.ferry_top.proofs.laws.following_laws.Goals as goal

pub returns : goal.returns
returns c = record { goes_on = λ secret before histories left may. goes_on_in_turn secret before histories left may }
