use Rattle.ferry_repo.proofs.WholeLemmas.{some_archive, one_archive, archive_apart, one_archive_fault, some_whole, one_whole, whole_apart}
use Rattle.ferry_repo.proofs.WholeLemmas.{one_whole_fault, one_view}
use Rattle.ferry_repo.proofs.laws.whole_laws.Goals as goal

pub returns : goal.returns
returns c = record {
  some = some_archive;
  one = one_archive;
  apart = archive_apart;
  one_fault = one_archive_fault;
  some_whole = some_whole;
  one_whole = one_whole;
  whole_apart = whole_apart;
  one_cause = one_whole_fault;
  view = one_view;
}
