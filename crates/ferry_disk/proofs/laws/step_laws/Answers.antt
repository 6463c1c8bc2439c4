use Rattle.ferry_disk.proofs.ImageStepLemmas.{append_step, sync_step, undone_sync_step, remove_step, undone_remove_step}
use Rattle.ferry_disk.proofs.ReplaceLemmas.{replace_step, undone_replace_step}
use Rattle.ferry_disk.proofs.ImageStepLemmas.{settle_step, unsettled_settle_step, tell_step}
use Rattle.ferry_disk.proofs.laws.step_laws.Goals as goal

pub returns : goal.returns
returns c = record {
  append = λ start acts n bytes done image s. append_step start acts s n bytes done image;
  sync = λ start acts n image s. sync_step start acts s n image;
  sync_undone = undone_sync_step;
  remove = λ start acts n image s. remove_step start acts s n image;
  remove_undone = λ start acts n image s. undone_remove_step start acts s n image;
  replace = replace_step;
  replace_undone = undone_replace_step;
  settle = settle_step;
  settle_undone = unsettled_settle_step;
  tell = tell_step;
}
