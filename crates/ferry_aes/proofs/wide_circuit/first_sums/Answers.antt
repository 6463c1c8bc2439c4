use Rattle.ferry_aes.proofs.CircuitLemmas.{first_sums_by_gates}
use Rattle.ferry_aes.proofs.wide_circuit.first_sums.Goals as goal

pub returns : goal.returns
returns c j i lane bit = first_sums_by_gates _ _ _ _ _ _ _ _ _ _ _ _ _ _ _ _ _ _ _ _ _ _ _ _
    (c.sum-y14.ensures j i lane) (c.sum-y13.ensures j i lane) (c.sum-y9.ensures j i lane) (c.sum-y8.ensures j i lane) (c.sum-t0.ensures j i lane)
    (c.sum-y1.ensures j i lane) (c.sum-y4.ensures j i lane) (c.sum-y12.ensures j i lane) (c.sum-y2.ensures j i lane) (c.sum-y5.ensures j i lane)
    (c.sum-y3.ensures j i lane) (c.sum-t1.ensures j i lane) (c.sum-y15.ensures j i lane) (c.sum-y20.ensures j i lane) (c.sum-y6.ensures j i lane)
    (c.sum-y10.ensures j i lane) (c.sum-y11.ensures j i lane) (c.sum-y7.ensures j i lane) (c.sum-y17.ensures j i lane) (c.sum-y19.ensures j i lane)
    (c.sum-y16.ensures j i lane) (c.sum-y21.ensures j i lane) (c.sum-y18.ensures j i lane)
