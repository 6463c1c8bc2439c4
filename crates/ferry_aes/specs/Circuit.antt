-- The circuit of the S-box on single bits, FIPS 197, section 5.1.1, with the wires' names of J. Boyar and
-- R. Peralta, "A new combinational logic minimization technique with applications to cryptology", 2010.
use Rattle.std.specs.Prelude.{ℕ, ◌+◌, ◌%◌, min, List, [], ◌∷◌, slice_index}

-- the sum of two bits, modulo 2
unfoldable pub add_bits : ℕ → ℕ → ℕ
add_bits a b = (a + b) % 2

-- the product of two bits
unfoldable pub multiply_bits : ℕ → ℕ → ℕ
multiply_bits a b = min a b

-- the first sums: bit 0 of the byte, then the sums y1 to y21 of its bits
unfoldable pub first_sums : List ℕ → List ℕ
first_sums x =
    let y14 = add_bits (slice_index x 4) (slice_index x 2) in
    let y13 = add_bits (slice_index x 7) (slice_index x 1) in
    let y9 = add_bits (slice_index x 7) (slice_index x 4) in
    let y8 = add_bits (slice_index x 7) (slice_index x 2) in
    let t0 = add_bits (slice_index x 6) (slice_index x 5) in
    let y1 = add_bits t0 (slice_index x 0) in
    let y4 = add_bits y1 (slice_index x 4) in
    let y12 = add_bits y13 y14 in
    let y2 = add_bits y1 (slice_index x 7) in
    let y5 = add_bits y1 (slice_index x 1) in
    let y3 = add_bits y5 y8 in
    let t1 = add_bits (slice_index x 3) y12 in
    let y15 = add_bits t1 (slice_index x 2) in
    let y20 = add_bits t1 (slice_index x 6) in
    let y6 = add_bits y15 (slice_index x 0) in
    let y10 = add_bits y15 t0 in
    let y11 = add_bits y20 y9 in
    let y7 = add_bits (slice_index x 0) y11 in
    let y17 = add_bits y10 y11 in
    let y19 = add_bits y10 y8 in
    let y16 = add_bits t0 y11 in
    let y21 = add_bits y13 y16 in
    let y18 = add_bits (slice_index x 7) y16 in
    slice_index x 0 ∷ y1 ∷ y2 ∷ y3 ∷ y4 ∷ y5 ∷ y6 ∷ y7 ∷ y8 ∷ y9 ∷ y10 ∷ y11 ∷ y12 ∷ y13 ∷ y14 ∷ y15 ∷ y16 ∷ y17 ∷ y18 ∷ y19 ∷ y20 ∷ y21 ∷ []

-- the four bits of the value in GF(2^4) that is inverted
unfoldable pub to_invert : List ℕ → List ℕ
to_invert y =
    let t2 = multiply_bits (slice_index y 12) (slice_index y 15) in
    let t3 = multiply_bits (slice_index y 3) (slice_index y 6) in
    let t4 = add_bits t3 t2 in
    let t5 = multiply_bits (slice_index y 4) (slice_index y 0) in
    let t6 = add_bits t5 t2 in
    let t7 = multiply_bits (slice_index y 13) (slice_index y 16) in
    let t8 = multiply_bits (slice_index y 5) (slice_index y 1) in
    let t9 = add_bits t8 t7 in
    let t10 = multiply_bits (slice_index y 2) (slice_index y 7) in
    let t11 = add_bits t10 t7 in
    let t12 = multiply_bits (slice_index y 9) (slice_index y 11) in
    let t13 = multiply_bits (slice_index y 14) (slice_index y 17) in
    let t14 = add_bits t13 t12 in
    let t15 = multiply_bits (slice_index y 8) (slice_index y 10) in
    let t16 = add_bits t15 t12 in
    let t17 = add_bits t4 t14 in
    let t18 = add_bits t6 t16 in
    let t19 = add_bits t9 t14 in
    let t20 = add_bits t11 t16 in
    let t21 = add_bits t17 (slice_index y 20) in
    let t22 = add_bits t18 (slice_index y 19) in
    let t23 = add_bits t19 (slice_index y 21) in
    let t24 = add_bits t20 (slice_index y 18) in
    t21 ∷ t22 ∷ t23 ∷ t24 ∷ []

-- the inverse in GF(2^4)
unfoldable pub inverse_bits : List ℕ → List ℕ
inverse_bits t =
    let t25 = add_bits (slice_index t 0) (slice_index t 1) in
    let t26 = multiply_bits (slice_index t 0) (slice_index t 2) in
    let t27 = add_bits (slice_index t 3) t26 in
    let t28 = multiply_bits t25 t27 in
    let t29 = add_bits t28 (slice_index t 1) in
    let t30 = add_bits (slice_index t 2) (slice_index t 3) in
    let t31 = add_bits (slice_index t 1) t26 in
    let t32 = multiply_bits t31 t30 in
    let t33 = add_bits t32 (slice_index t 3) in
    let t34 = add_bits (slice_index t 2) t33 in
    let t35 = add_bits t27 t33 in
    let t36 = multiply_bits (slice_index t 3) t35 in
    let t37 = add_bits t36 t34 in
    let t38 = add_bits t27 t36 in
    let t39 = multiply_bits t29 t38 in
    let t40 = add_bits t25 t39 in
    t29 ∷ t33 ∷ t37 ∷ t40 ∷ []

-- the products of the inverse, and of sums of its bits, with the first sums
unfoldable pub products : List ℕ → List ℕ → List ℕ
products t y =
    let t41 = add_bits (slice_index t 3) (slice_index t 2) in
    let t42 = add_bits (slice_index t 0) (slice_index t 1) in
    let t43 = add_bits (slice_index t 0) (slice_index t 3) in
    let t44 = add_bits (slice_index t 1) (slice_index t 2) in
    let t45 = add_bits t42 t41 in
    let z0 = multiply_bits t44 (slice_index y 15) in
    let z1 = multiply_bits (slice_index t 2) (slice_index y 6) in
    let z2 = multiply_bits (slice_index t 1) (slice_index y 0) in
    let z3 = multiply_bits t43 (slice_index y 16) in
    let z4 = multiply_bits (slice_index t 3) (slice_index y 1) in
    let z5 = multiply_bits (slice_index t 0) (slice_index y 7) in
    let z6 = multiply_bits t42 (slice_index y 11) in
    let z7 = multiply_bits t45 (slice_index y 17) in
    let z8 = multiply_bits t41 (slice_index y 10) in
    let z9 = multiply_bits t44 (slice_index y 12) in
    let z10 = multiply_bits (slice_index t 2) (slice_index y 3) in
    let z11 = multiply_bits (slice_index t 1) (slice_index y 4) in
    let z12 = multiply_bits t43 (slice_index y 13) in
    let z13 = multiply_bits (slice_index t 3) (slice_index y 5) in
    let z14 = multiply_bits (slice_index t 0) (slice_index y 2) in
    let z15 = multiply_bits t42 (slice_index y 9) in
    let z16 = multiply_bits t45 (slice_index y 14) in
    let z17 = multiply_bits t41 (slice_index y 8) in
    z0 ∷ z1 ∷ z2 ∷ z3 ∷ z4 ∷ z5 ∷ z6 ∷ z7 ∷ z8 ∷ z9 ∷ z10 ∷ z11 ∷ z12 ∷ z13 ∷ z14 ∷ z15 ∷ z16 ∷ z17 ∷ []

-- the last sums, with the affine map: the eight bits of the value, the lowest first
unfoldable pub last_sums : List ℕ → List ℕ
last_sums z =
    let t46 = add_bits (slice_index z 15) (slice_index z 16) in
    let t47 = add_bits (slice_index z 10) (slice_index z 11) in
    let t48 = add_bits (slice_index z 5) (slice_index z 13) in
    let t49 = add_bits (slice_index z 9) (slice_index z 10) in
    let t50 = add_bits (slice_index z 2) (slice_index z 12) in
    let t51 = add_bits (slice_index z 2) (slice_index z 5) in
    let t52 = add_bits (slice_index z 7) (slice_index z 8) in
    let t53 = add_bits (slice_index z 0) (slice_index z 3) in
    let t54 = add_bits (slice_index z 6) (slice_index z 7) in
    let t55 = add_bits (slice_index z 16) (slice_index z 17) in
    let t56 = add_bits (slice_index z 12) t48 in
    let t57 = add_bits t50 t53 in
    let t58 = add_bits (slice_index z 4) t46 in
    let t59 = add_bits (slice_index z 3) t54 in
    let t60 = add_bits t46 t57 in
    let t61 = add_bits (slice_index z 14) t57 in
    let t62 = add_bits t52 t58 in
    let t63 = add_bits t49 t58 in
    let t64 = add_bits (slice_index z 4) t59 in
    let t65 = add_bits t61 t62 in
    let t66 = add_bits (slice_index z 1) t63 in
    let s0 = add_bits t59 t63 in
    let n6 = add_bits t62 1 in
    let s6 = add_bits t56 n6 in
    let n7 = add_bits t60 1 in
    let s7 = add_bits t48 n7 in
    let t67 = add_bits t64 t65 in
    let s3 = add_bits t53 t66 in
    let s4 = add_bits t51 t66 in
    let s5 = add_bits t47 t65 in
    let n3 = add_bits s3 1 in
    let s1 = add_bits t64 n3 in
    let n2 = add_bits t67 1 in
    let s2 = add_bits t55 n2 in
    s7 ∷ s6 ∷ s5 ∷ s4 ∷ s3 ∷ s2 ∷ s1 ∷ s0 ∷ []

-- the eight bits of the S-box value of a byte, from the byte's eight bits, the lowest first
unfoldable pub circuit : List ℕ → List ℕ
circuit x =
    let y = first_sums x in
    let t = inverse_bits (to_invert y) in
    last_sums (products t y)
