use Rattle.ferry_check.proofs.ExistLemmas.{some_first}
use Rattle.ferry_check.proofs.LawLemmas.{verifies_apart, one_first, live_opens}
use Rattle.ferry_check.proofs.NamesLemmas.{first_name}
use Rattle.ferry_check.proofs.laws.check_laws.Goals as goal

pub returns : goal.returns
returns c = record { some = some_first; apart = verifies_apart; one = one_first; names = first_name; live = live_opens }
