use Rattle.ferry_store.proofs.LiveLemmas.{live_commit, live_map, live_other, live_put}
use Rattle.ferry_store.proofs.StandingLemmas.{live_manifest}
use Rattle.ferry_store.proofs.laws.live_laws.Goals as goal

pub returns : goal.returns
returns c = record {
  located = live_map;
  put = live_put;
  others = live_other;
  commit = live_commit;
  manifest = live_manifest;
}
