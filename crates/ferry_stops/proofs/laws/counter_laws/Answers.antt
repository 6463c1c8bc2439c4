use Rattle.ferry_stops.proofs.KeptLemmas.{counted_above}
use Rattle.ferry_stops.proofs.laws.counter_laws.Goals as goal

pub returns : goal.returns
returns c = record { above = counted_above }
