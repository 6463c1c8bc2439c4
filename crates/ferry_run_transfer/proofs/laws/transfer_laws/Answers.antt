use Rattle.ferry_run_transfer.proofs.LimitLemmas.{none_large, none_limited, none_long}
use Rattle.ferry_run_transfer.proofs.RerunLemmas.{keeps_nonce, meets_again, meets_first, meets_in_turn, new_apart, one_apart, same_names}
use Rattle.ferry_run_transfer.proofs.ReadyLemmas.{ready_again, ready_first}
use Rattle.ferry_run_transfer.proofs.SaltLemmas.{drawn_size, records_of}
use Rattle.ferry_run_transfer.proofs.VerifyLemmas.{verifies_again}
use Rattle.ferry_run_transfer.proofs.laws.transfer_laws.Goals as goal

pub returns : goal.returns
returns c = record {
  rerun = meets_again;
  nonce = keeps_nonce;
  runs = meets_in_turn;
  names = same_names;
  ready = ready_again;
  verifies = verifies_again;
  first = meets_first;
  fresh = ready_first;
  apart = new_apart;
  one = one_apart;
  records = λ request files source target names taken added lists. records_of files request source target names taken added lists;
  small = none_large;
  long = none_long;
  limited = none_limited;
  salts = drawn_size;
}
