use Rattle.ferry_repo.proofs.KeptLemmas.{repo_kept, walk_kept, replaced_keeps, appended_keeps, removed_keeps, learnt_keeps}
use Rattle.ferry_repo.proofs.laws.kept_laws.Goals as goal

pub returns : goal.returns
returns c = record {
  repo = repo_kept;
  walk = walk_kept;
  replaced = replaced_keeps;
  appended = appended_keeps;
  removed = removed_keeps;
  learnt = learnt_keeps;
}
