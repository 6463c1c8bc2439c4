use Rattle.std.proofs.Common.{◌≤◌, slice_index, sym, subst, arith, inl, inr}
use Rattle.std.proofs.lemmas.Bool.Decides.{eqb_tells}
use Rattle.ferry_mac.proofs.four.most.Goals as goal

pub loop-l-preserved : goal.loop-l-preserved
loop-l-preserved g c = record {
  each = λ j low. elim (eqb_tells j c.loop-l.l) [
    | inl same ↦ subst (λ j. slice_index c.args.counts.now j ≤ c.max-most.result) (sym (same.1)) (omega (arith, c.max-most.ensures))
    | inr apart ↦ omega (arith, c.max-most.ensures, c.loop-l.invariant.each j (omega (arith, low, apart.1)))
  ];
  least = λ bound all. omega (arith, c.max-most.ensures, c.loop-l.invariant.least bound all, all c.loop-l.l c.loop-l-test.true);
}
