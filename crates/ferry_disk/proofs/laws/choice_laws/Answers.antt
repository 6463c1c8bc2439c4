use Rattle.ferry_disk.proofs.ChoiceLemmas.{describes_one, describes_some, describes_listed}
use Rattle.ferry_disk.proofs.laws.choice_laws.Goals as goal

pub returns : goal.returns
returns c = record { one = describes_one; some = describes_some; listed = describes_listed }
