use Rattle.ferry_aes.proofs.CircuitLemmas.{last_sums_by_gates}
use Rattle.ferry_aes.proofs.wide_circuit.last_sums.Goals as goal

pub returns : goal.returns
returns c j i lane bit = last_sums_by_gates _ _ _ _ _ _ _ _ _ _ _ _ _ _ _ _ _ _ _ _ _ _ _ _ _ _ _ _ _ _ _ _ _ _ _
    (c.sum-t46.ensures j i lane) (c.sum-t47.ensures j i lane) (c.sum-t48.ensures j i lane) (c.sum-t49.ensures j i lane) (c.sum-t50.ensures j i lane)
    (c.sum-t51.ensures j i lane) (c.sum-t52.ensures j i lane) (c.sum-t53.ensures j i lane) (c.sum-t54.ensures j i lane) (c.sum-t55.ensures j i lane)
    (c.sum-t56.ensures j i lane) (c.sum-t57.ensures j i lane) (c.sum-t58.ensures j i lane) (c.sum-t59.ensures j i lane) (c.sum-t60.ensures j i lane)
    (c.sum-t61.ensures j i lane) (c.sum-t62.ensures j i lane) (c.sum-t63.ensures j i lane) (c.sum-t64.ensures j i lane) (c.sum-t65.ensures j i lane)
    (c.sum-t66.ensures j i lane) (c.sum-s0.ensures j i lane) (c.negated-n6.ensures j i lane bit) (c.sum-s6.ensures j i lane)
    (c.negated-n7.ensures j i lane bit) (c.sum-s7.ensures j i lane) (c.sum-t67.ensures j i lane) (c.sum-s3.ensures j i lane)
    (c.sum-s4.ensures j i lane) (c.sum-s5.ensures j i lane) (c.negated-n3.ensures j i lane bit) (c.sum-s1.ensures j i lane)
    (c.negated-n2.ensures j i lane bit) (c.sum-s2.ensures j i lane)
