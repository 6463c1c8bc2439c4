use Rattle.ferry_stops.proofs.DraftLemmas.{draft_harmless, rest_harmless, torn_commit}
use Rattle.ferry_stops.proofs.GroundLemmas.{own_shows}
use Rattle.ferry_stops.proofs.NowLemmas.{now_left}
use Rattle.ferry_stops.proofs.laws.ground_laws.Goals as goal

pub returns : goal.returns
returns c = record { now = now_left; draft = draft_harmless; rest = rest_harmless; torn = torn_commit; shows = own_shows }
