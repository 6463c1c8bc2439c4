use Rattle.ferry_log.proofs.LawLemmas.{some_log, one_transaction, one_log, one_place, uncommitted_apart, damaged_apart, one_state}
use Rattle.ferry_log.proofs.laws.log_laws.Goals as goal

pub returns : goal.returns
returns c =
    record {
      some = some_log;
      one_transaction = one_transaction;
      one_log = one_log;
      one_place = one_place;
      uncommitted = uncommitted_apart;
      apart =
          damaged_apart;
      one_state = one_state;
    }
