-- Lemmas on specs/Circuit.antt: each part of the circuit is what its gates make.
use Rattle.std.proofs.Common.{◌≡◌, ℕ, List, [], ◌∷◌}
use Rattle.std.specs.Prelude.{slice_index}
use Rattle.ferry_aes.specs.Circuit.{add_bits, multiply_bits, first_sums, to_invert, inverse_bits, products, last_sums}

pub first_sums_by_gates : (x : List ℕ)
    (y14 y13 y9 y8 t0 y1 y4 y12 y2 y5 y3 t1 y15 y20 y6 y10 y11 y7 y17 y19 y16 y21 y18 : ℕ)
    → y14 ≡ add_bits (slice_index x 4) (slice_index x 2) → y13 ≡ add_bits (slice_index x 7) (slice_index x 1)
    → y9 ≡ add_bits (slice_index x 7) (slice_index x 4) → y8 ≡ add_bits (slice_index x 7) (slice_index x 2)
    → t0 ≡ add_bits (slice_index x 6) (slice_index x 5) → y1 ≡ add_bits t0 (slice_index x 0) → y4 ≡ add_bits y1 (slice_index x 4)
    → y12 ≡ add_bits y13 y14 → y2 ≡ add_bits y1 (slice_index x 7) → y5 ≡ add_bits y1 (slice_index x 1) → y3 ≡ add_bits y5 y8
    → t1 ≡ add_bits (slice_index x 3) y12 → y15 ≡ add_bits t1 (slice_index x 2) → y20 ≡ add_bits t1 (slice_index x 6)
    → y6 ≡ add_bits y15 (slice_index x 0) → y10 ≡ add_bits y15 t0 → y11 ≡ add_bits y20 y9 → y7 ≡ add_bits (slice_index x 0) y11
    → y17 ≡ add_bits y10 y11 → y19 ≡ add_bits y10 y8 → y16 ≡ add_bits t0 y11 → y21 ≡ add_bits y13 y16 → y18 ≡ add_bits (slice_index x 7) y16
    → (slice_index x 0 ∷ y1 ∷ y2 ∷ y3 ∷ y4 ∷ y5 ∷ y6 ∷ y7 ∷ y8 ∷ y9 ∷ y10 ∷ y11 ∷ y12 ∷ y13 ∷ y14 ∷ y15 ∷ y16 ∷ y17 ∷ y18 ∷ y19 ∷ y20 ∷ y21
    ∷ []) ≡ first_sums x
unfolding first_sums
first_sums_by_gates x y14 y13 y9 y8 t0 y1 y4 y12 y2 y5 y3 t1 y15 y20 y6 y10 y11 y7 y17 y19 y16 y21 y18 e_y14 e_y13 e_y9 e_y8 e_t0 e_y1 e_y4 e_y12
    e_y2 e_y5 e_y3 e_t1 e_y15 e_y20 e_y6 e_y10 e_y11 e_y7 e_y17 e_y19 e_y16 e_y21 e_y18 = cc

pub to_invert_by_gates : (y : List ℕ)
    (t2 t3 t4 t5 t6 t7 t8 t9 t10 t11 t12 t13 t14 t15 t16 t17 t18 t19 t20 t21 t22 t23 t24 : ℕ)
    → t2 ≡ multiply_bits (slice_index y 12) (slice_index y 15) → t3 ≡ multiply_bits (slice_index y 3) (slice_index y 6) → t4 ≡ add_bits t3 t2
    → t5 ≡ multiply_bits (slice_index y 4) (slice_index y 0) → t6 ≡ add_bits t5 t2 → t7 ≡ multiply_bits (slice_index y 13) (slice_index y 16)
    → t8 ≡ multiply_bits (slice_index y 5) (slice_index y 1) → t9 ≡ add_bits t8 t7 → t10 ≡ multiply_bits (slice_index y 2) (slice_index y 7)
    → t11 ≡ add_bits t10 t7 → t12 ≡ multiply_bits (slice_index y 9) (slice_index y 11) → t13 ≡ multiply_bits (slice_index y 14) (slice_index y 17)
    → t14 ≡ add_bits t13 t12 → t15 ≡ multiply_bits (slice_index y 8) (slice_index y 10) → t16 ≡ add_bits t15 t12 → t17 ≡ add_bits t4 t14
    → t18 ≡ add_bits t6 t16 → t19 ≡ add_bits t9 t14 → t20 ≡ add_bits t11 t16 → t21 ≡ add_bits t17 (slice_index y 20)
    → t22 ≡ add_bits t18 (slice_index y 19) → t23 ≡ add_bits t19 (slice_index y 21) → t24 ≡ add_bits t20 (slice_index y 18)
    → (t21 ∷ t22 ∷ t23 ∷ t24 ∷ []) ≡ to_invert y
unfolding to_invert
to_invert_by_gates y t2 t3 t4 t5 t6 t7 t8 t9 t10 t11 t12 t13 t14 t15 t16 t17 t18 t19 t20 t21 t22 t23 t24 e_t2 e_t3 e_t4 e_t5 e_t6 e_t7 e_t8 e_t9
    e_t10 e_t11 e_t12 e_t13 e_t14 e_t15 e_t16 e_t17 e_t18 e_t19 e_t20 e_t21 e_t22 e_t23 e_t24 = cc

pub inverse_bits_by_gates : (t : List ℕ)
    (t25 t26 t27 t28 t29 t30 t31 t32 t33 t34 t35 t36 t37 t38 t39 t40 : ℕ)
    → t25 ≡ add_bits (slice_index t 0) (slice_index t 1) → t26 ≡ multiply_bits (slice_index t 0) (slice_index t 2)
    → t27 ≡ add_bits (slice_index t 3) t26 → t28 ≡ multiply_bits t25 t27 → t29 ≡ add_bits t28 (slice_index t 1)
    → t30 ≡ add_bits (slice_index t 2) (slice_index t 3) → t31 ≡ add_bits (slice_index t 1) t26 → t32 ≡ multiply_bits t31 t30
    → t33 ≡ add_bits t32 (slice_index t 3) → t34 ≡ add_bits (slice_index t 2) t33 → t35 ≡ add_bits t27 t33
    → t36 ≡ multiply_bits (slice_index t 3) t35 → t37 ≡ add_bits t36 t34 → t38 ≡ add_bits t27 t36 → t39 ≡ multiply_bits t29 t38
    → t40 ≡ add_bits t25 t39
    → (t29 ∷ t33 ∷ t37 ∷ t40 ∷ []) ≡ inverse_bits t
unfolding inverse_bits
inverse_bits_by_gates t t25 t26 t27 t28 t29 t30 t31 t32 t33 t34 t35 t36 t37 t38 t39 t40 e_t25 e_t26 e_t27 e_t28 e_t29 e_t30 e_t31 e_t32 e_t33 e_t34
    e_t35 e_t36 e_t37 e_t38 e_t39 e_t40 = cc

pub products_by_gates : (t y : List ℕ)
    (t41 t42 t43 t44 t45 z0 z1 z2 z3 z4 z5 z6 z7 z8 z9 z10 z11 z12 z13 z14 z15 z16 z17 : ℕ)
    → t41 ≡ add_bits (slice_index t 3) (slice_index t 2) → t42 ≡ add_bits (slice_index t 0) (slice_index t 1)
    → t43 ≡ add_bits (slice_index t 0) (slice_index t 3) → t44 ≡ add_bits (slice_index t 1) (slice_index t 2) → t45 ≡ add_bits t42 t41
    → z0 ≡ multiply_bits t44 (slice_index y 15) → z1 ≡ multiply_bits (slice_index t 2) (slice_index y 6)
    → z2 ≡ multiply_bits (slice_index t 1) (slice_index y 0) → z3 ≡ multiply_bits t43 (slice_index y 16)
    → z4 ≡ multiply_bits (slice_index t 3) (slice_index y 1) → z5 ≡ multiply_bits (slice_index t 0) (slice_index y 7)
    → z6 ≡ multiply_bits t42 (slice_index y 11) → z7 ≡ multiply_bits t45 (slice_index y 17) → z8 ≡ multiply_bits t41 (slice_index y 10)
    → z9 ≡ multiply_bits t44 (slice_index y 12) → z10 ≡ multiply_bits (slice_index t 2) (slice_index y 3)
    → z11 ≡ multiply_bits (slice_index t 1) (slice_index y 4) → z12 ≡ multiply_bits t43 (slice_index y 13)
    → z13 ≡ multiply_bits (slice_index t 3) (slice_index y 5) → z14 ≡ multiply_bits (slice_index t 0) (slice_index y 2)
    → z15 ≡ multiply_bits t42 (slice_index y 9) → z16 ≡ multiply_bits t45 (slice_index y 14) → z17 ≡ multiply_bits t41 (slice_index y 8)
    → (z0 ∷ z1 ∷ z2 ∷ z3 ∷ z4 ∷ z5 ∷ z6 ∷ z7 ∷ z8 ∷ z9 ∷ z10 ∷ z11 ∷ z12 ∷ z13 ∷ z14 ∷ z15 ∷ z16 ∷ z17 ∷ []) ≡ products t y
unfolding products
products_by_gates t y t41 t42 t43 t44 t45 z0 z1 z2 z3 z4 z5 z6 z7 z8 z9 z10 z11 z12 z13 z14 z15 z16 z17 e_t41 e_t42 e_t43 e_t44 e_t45 e_z0 e_z1 e_z2
    e_z3 e_z4 e_z5 e_z6 e_z7 e_z8 e_z9 e_z10 e_z11 e_z12 e_z13 e_z14 e_z15 e_z16 e_z17 = cc

pub last_sums_by_gates : (z : List ℕ)
    (t46 t47 t48 t49 t50 t51 t52 t53 t54 t55 t56 t57 t58 t59 t60 t61 t62 t63 t64 t65 t66 s0 n6 s6 n7 s7 t67 s3 s4 s5 n3 s1 n2 s2 : ℕ)
    → t46 ≡ add_bits (slice_index z 15) (slice_index z 16) → t47 ≡ add_bits (slice_index z 10) (slice_index z 11)
    → t48 ≡ add_bits (slice_index z 5) (slice_index z 13) → t49 ≡ add_bits (slice_index z 9) (slice_index z 10)
    → t50 ≡ add_bits (slice_index z 2) (slice_index z 12) → t51 ≡ add_bits (slice_index z 2) (slice_index z 5)
    → t52 ≡ add_bits (slice_index z 7) (slice_index z 8) → t53 ≡ add_bits (slice_index z 0) (slice_index z 3)
    → t54 ≡ add_bits (slice_index z 6) (slice_index z 7) → t55 ≡ add_bits (slice_index z 16) (slice_index z 17)
    → t56 ≡ add_bits (slice_index z 12) t48 → t57 ≡ add_bits t50 t53 → t58 ≡ add_bits (slice_index z 4) t46 → t59 ≡ add_bits (slice_index z 3) t54
    → t60 ≡ add_bits t46 t57 → t61 ≡ add_bits (slice_index z 14) t57 → t62 ≡ add_bits t52 t58 → t63 ≡ add_bits t49 t58
    → t64 ≡ add_bits (slice_index z 4) t59 → t65 ≡ add_bits t61 t62 → t66 ≡ add_bits (slice_index z 1) t63 → s0 ≡ add_bits t59 t63
    → n6 ≡ add_bits t62 1 → s6 ≡ add_bits t56 n6 → n7 ≡ add_bits t60 1 → s7 ≡ add_bits t48 n7 → t67 ≡ add_bits t64 t65 → s3 ≡ add_bits t53 t66
    → s4 ≡ add_bits t51 t66 → s5 ≡ add_bits t47 t65 → n3 ≡ add_bits s3 1 → s1 ≡ add_bits t64 n3 → n2 ≡ add_bits t67 1 → s2 ≡ add_bits t55 n2
    → (s7 ∷ s6 ∷ s5 ∷ s4 ∷ s3 ∷ s2 ∷ s1 ∷ s0 ∷ []) ≡ last_sums z
unfolding last_sums
last_sums_by_gates z t46 t47 t48 t49 t50 t51 t52 t53 t54 t55 t56 t57 t58 t59 t60 t61 t62 t63 t64 t65 t66 s0 n6 s6 n7 s7 t67 s3 s4 s5 n3 s1 n2 s2
    e_t46 e_t47 e_t48 e_t49 e_t50 e_t51 e_t52 e_t53 e_t54 e_t55 e_t56 e_t57 e_t58 e_t59 e_t60 e_t61 e_t62 e_t63 e_t64 e_t65 e_t66 e_s0 e_n6 e_s6 e_n7
    e_s7 e_t67 e_s3 e_s4 e_s5 e_n3 e_s1 e_n2 e_s2 = cc
