use Rattle.ferry_aes.proofs.CircuitLemmas.{inverse_bits_by_gates}
use Rattle.ferry_aes.proofs.wide_circuit.inverse_bits.Goals as goal

pub returns : goal.returns
returns c j i lane bit = inverse_bits_by_gates _ _ _ _ _ _ _ _ _ _ _ _ _ _ _ _ _
    (c.sum-t25.ensures j i lane) (c.product-t26.ensures j i lane) (c.sum-t27.ensures j i lane) (c.product-t28.ensures j i lane)
    (c.sum-t29.ensures j i lane) (c.sum-t30.ensures j i lane) (c.sum-t31.ensures j i lane) (c.product-t32.ensures j i lane)
    (c.sum-t33.ensures j i lane) (c.sum-t34.ensures j i lane) (c.sum-t35.ensures j i lane) (c.product-t36.ensures j i lane)
    (c.sum-t37.ensures j i lane) (c.sum-t38.ensures j i lane) (c.product-t39.ensures j i lane) (c.sum-t40.ensures j i lane)
