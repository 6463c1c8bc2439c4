-- The finite field GF(2^8) of FIPS 197, section 4. A byte is a polynomial: bit i of the number is
-- the coefficient of x^i. The sum of two polynomials is the xor of the numbers (4.1).
use Rattle.std.specs.Prelude.{ℕ, zero, suc, ◌+◌, ◌*◌, ◌^◌, bit_xor}
use Rattle.std.specs.Int.{bit_at}

-- m(x) = x^8 + x^4 + x^3 + x + 1, as the number of its coefficients (4.2)
abbrev pub modulus : ℕ
modulus = 0x11b

-- the product of b and the terms of a whose degree is below n (4.2)
abbrev pub product_below : ℕ → ℕ → ℕ → ℕ
product_below zero a b = 0
product_below (suc n) a b = bit_xor (product_below n a b) (bit_at a n * 2 ^ n * b)

-- what a polynomial of degree below n + 8 leaves when it is divided by m(x) (4.2)
abbrev pub remainder_of : ℕ → ℕ → ℕ
remainder_of zero p = p
remainder_of (suc n) p = remainder_of n (bit_xor p (bit_at p (n + 8) * 2 ^ n * modulus))

-- a • b: the product of the polynomials, whose degree is below 15, modulo m(x) (4.2)
unfoldable pub multiply : ℕ → ℕ → ℕ
multiply a b = remainder_of 7 (product_below 8 a b)

-- a multiplied by itself, n factors
unfoldable pub power : ℕ → ℕ → ℕ
power a zero = 1
power a (suc n) = multiply a (power a n)
