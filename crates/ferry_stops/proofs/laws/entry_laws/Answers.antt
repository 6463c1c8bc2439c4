use Rattle.ferry_stops.proofs.EntryLemmas.{uncommitted_shown, unshown_uncommitted, one_shown, log_shown, shown_log}
use Rattle.ferry_stops.proofs.GroundLemmas.{have_same}
use Rattle.ferry_stops.proofs.laws.entry_laws.Goals as goal

pub returns : goal.returns
returns c = record {
  log = log_shown;
  shown = shown_log;
  uncommitted = uncommitted_shown;
  unshown = unshown_uncommitted;
  one = one_shown;
  below = have_same;
}
