use Rattle.ferry_store.proofs.DropLemmas.{fits_whole}
use Rattle.ferry_store.proofs.LiveLemmas.{live_deleted, live_spared}
use Rattle.ferry_store.proofs.WritingLemmas.{without_writing}
use Rattle.ferry_store.proofs.laws.drop_laws.Goals as goal

pub returns : goal.returns
returns c = record {
  begin = fits_whole;
  writing = without_writing;
  gone = live_deleted;
  others = live_spared;
}
