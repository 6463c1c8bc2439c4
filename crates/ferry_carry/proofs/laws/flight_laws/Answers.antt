use Rattle.ferry_carry.proofs.OverFlightLemmas.{committed_over, flight_later, flight_over, named_only, refusal_did, turn_did}
use Rattle.ferry_carry.proofs.laws.flight_laws.Goals as goal

pub returns : goal.returns
returns c = record {
  over = flight_over;
  committed = committed_over;
  turn = turn_did;
  named = named_only;
  refused = refusal_did;
  source = flight_later;
}
