use Rattle.ferry_store.proofs.LiveLemmas.{keeps_commit, keeps_put, keeps_same, keeps_then}
use Rattle.ferry_store.proofs.StandingLemmas.{manifest_kept}
use Rattle.ferry_store.proofs.laws.keeps_laws.Goals as goal
use Rattle.ferry_store.specs.Standing.{entries_of}

pub returns : goal.returns
returns c = record {
  same = keeps_same;
  both = keeps_then;
  commit = λ written. keeps_commit (entries_of written);
  put = keeps_put;
  manifest = manifest_kept;
}
