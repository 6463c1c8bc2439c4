use Rattle.ferry_aes.proofs.CircuitLemmas.{products_by_gates}
use Rattle.ferry_aes.proofs.wide_circuit.products.Goals as goal

pub returns : goal.returns
returns c j i lane bit = products_by_gates _ _ _ _ _ _ _ _ _ _ _ _ _ _ _ _ _ _ _ _ _ _ _ _ _
    (c.sum-t41.ensures j i lane) (c.sum-t42.ensures j i lane) (c.sum-t43.ensures j i lane) (c.sum-t44.ensures j i lane) (c.sum-t45.ensures j i lane)
    (c.product-z0.ensures j i lane) (c.product-z1.ensures j i lane) (c.product-z2.ensures j i lane) (c.product-z3.ensures j i lane)
    (c.product-z4.ensures j i lane) (c.product-z5.ensures j i lane) (c.product-z6.ensures j i lane) (c.product-z7.ensures j i lane)
    (c.product-z8.ensures j i lane) (c.product-z9.ensures j i lane) (c.product-z10.ensures j i lane) (c.product-z11.ensures j i lane)
    (c.product-z12.ensures j i lane) (c.product-z13.ensures j i lane) (c.product-z14.ensures j i lane) (c.product-z15.ensures j i lane)
    (c.product-z16.ensures j i lane) (c.product-z17.ensures j i lane)
