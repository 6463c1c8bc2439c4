use Rattle.ferry_segment.proofs.EntryLemmas.{one_spelling, first_fault-spelling, entry_of}
use Rattle.ferry_segment.proofs.laws.entry_laws.Goals as goal

pub returns : goal.returns
returns c = record {
  apart = one_spelling;
  right = first_fault-spelling;
  read = λ bytes small right. let e = entry_of bytes small right in (e.0, e.1, e.3);
}
