use Rattle.std.proofs.Common.{false, Some, None, IsTrue}
use Rattle.ferry_disk.specs.Act.{with_act}
use Rattle.ferry_disk.specs.Moments.{with_steps}
use Rattle.ferry_disk.proofs.MomentLemmas.{all_moments, moments_all, steps_end, steps_end_undone}
use Rattle.ferry_disk.proofs.laws.moment_laws.Goals as goal

pub returns : goal.returns
returns c = record {
  each = λ p before now moment m is. all_moments (λ h. IsTrue (p h)) before now m moment is;
  done = λ p before steps all. moments_all (λ h. IsTrue (p h)) before (with_steps steps before) steps None (steps_end before steps) all;
  undone = λ p before steps step all.
      moments_all (λ h. IsTrue (p h)) before (with_act step false (with_steps steps before)) steps (Some step) (steps_end_undone before steps step) all;
}
