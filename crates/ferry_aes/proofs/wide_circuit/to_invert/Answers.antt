use Rattle.ferry_aes.proofs.CircuitLemmas.{to_invert_by_gates}
use Rattle.ferry_aes.proofs.wide_circuit.to_invert.Goals as goal

pub returns : goal.returns
returns c j i lane bit = to_invert_by_gates _ _ _ _ _ _ _ _ _ _ _ _ _ _ _ _ _ _ _ _ _ _ _ _
    (c.product-t2.ensures j i lane) (c.product-t3.ensures j i lane) (c.sum-t4.ensures j i lane) (c.product-t5.ensures j i lane)
    (c.sum-t6.ensures j i lane) (c.product-t7.ensures j i lane) (c.product-t8.ensures j i lane) (c.sum-t9.ensures j i lane)
    (c.product-t10.ensures j i lane) (c.sum-t11.ensures j i lane) (c.product-t12.ensures j i lane) (c.product-t13.ensures j i lane)
    (c.sum-t14.ensures j i lane) (c.product-t15.ensures j i lane) (c.sum-t16.ensures j i lane) (c.sum-t17.ensures j i lane)
    (c.sum-t18.ensures j i lane) (c.sum-t19.ensures j i lane) (c.sum-t20.ensures j i lane) (c.sum-t21.ensures j i lane) (c.sum-t22.ensures j i lane)
    (c.sum-t23.ensures j i lane) (c.sum-t24.ensures j i lane)
