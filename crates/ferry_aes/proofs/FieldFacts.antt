-- The inverse of the definitions is an inverse, and the only one: computed at each byte.
use Rattle.std.proofs.Common.{◌≡◌, ℕ, ◌+◌, ◌-◌, ◌<◌, T, eqb, subst, arith, eqb→eq}
use Rattle.std.specs.Prelude.{count_by, ◌==◌}
use Rattle.std.specs.List.{range_with_len}
use Rattle.ferry_aes.specs.Field.{multiply}
use Rattle.ferry_aes.specs.SBox.{inverse}
use Rattle.ferry_aes.proofs.Tables.{all_below, every_below}

inverse-all : T (all_below (λ d. eqb (multiply (1 + d) (inverse (1 + d))) 1) 255)
unfolding all_below multiply inverse
inverse-all = tt

one_inverse-all : T (all_below (λ d. eqb (count_by (λ c. multiply (1 + d) c == 1) (range_with_len 0 256)) 1) 255)
unfolding all_below multiply
one_inverse-all = tt

-- the product of a byte that is not 0 with its inverse is 1
pub multiply-inverse : (b : ℕ) → 0 < b → b < 256 → multiply b (inverse b) ≡ 1
multiply-inverse b low high =
    let P : ℕ → Type 0 = λ x. multiply x (inverse x) ≡ 1 in
    let e : 1 + (b - 1) ≡ b = omega arith in
    subst P e (eqb→eq _ _ (every_below (λ d. eqb (multiply (1 + d) (inverse (1 + d))) 1) 255 inverse-all (b - 1) (omega arith)))

-- and exactly one byte has the product 1 with it
pub one_inverse : (b : ℕ) → 0 < b → b < 256 → count_by (λ c. multiply b c == 1) (range_with_len 0 256) ≡ 1
one_inverse b low high =
    let P : ℕ → Type 0 = λ x. count_by (λ c. multiply x c == 1) (range_with_len 0 256) ≡ 1 in
    let e : 1 + (b - 1) ≡ b = omega arith in
    subst P e (eqb→eq _ _ (every_below (λ d. eqb (count_by (λ c. multiply (1 + d) c == 1) (range_with_len 0 256)) 1) 255 one_inverse-all (b - 1) (omega arith)))
