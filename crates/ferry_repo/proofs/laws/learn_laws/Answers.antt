use Rattle.ferry_repo.proofs.LearnLemmas.{blob_learnt, chunk_learnt, chunk_other, refused_other, learn_keeps, learn_fits, learn_walk, renew_fits, renew_walk}
use Rattle.ferry_repo.proofs.laws.learn_laws.Goals as goal

pub returns : goal.returns
returns c = record {
  blob = blob_learnt;
  chunk = chunk_learnt;
  others = chunk_other;
  others_refused = refused_other;
  keeps = learn_keeps;
  fits = learn_fits;
  walk = learn_walk;
  renewed = renew_fits;
  renewed_walk = renew_walk;
}
