use Rattle.ferry_store.proofs.StandingLemmas.{manifest_later, opened_manifest, opened_unlocks, opens_live, stands_live}
use Rattle.ferry_store.proofs.laws.store_laws.Goals as goal

pub returns : goal.returns
returns c = record {
  opens = opens_live;
  stands = stands_live;
  committed = manifest_later;
  unlocks = opened_unlocks;
  holds = opened_manifest;
}
