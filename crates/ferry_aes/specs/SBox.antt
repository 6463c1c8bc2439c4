-- The substitution of one byte in AES, FIPS 197, section 5.1.1: the inverse in GF(2^8), then an
-- affine map of the bits.
use Rattle.std.specs.Prelude.{ℕ, ◌+◌, ◌*◌, ◌%◌, ◌^◌, ◌==◌, find, sum_by, unwrap_or}
use Rattle.std.specs.Int.{bit_at}
use Rattle.std.specs.List.{range_with_len}
use Rattle.ferry_aes.specs.Field.{multiply}

-- the byte whose product with b is 1, and 0 for 0, which has none (4.4, 5.1.1 step 1)
unfoldable pub inverse : ℕ → ℕ
inverse b = unwrap_or (find (λ c. multiply b c == 1) (range_with_len 0 256)) 0

-- bit i after the affine map: the sum modulo 2 of five bits of b and bit i of 63 (5.1.1 step 2)
unfoldable pub affine_bit : ℕ → ℕ → ℕ
affine_bit b i =
    (bit_at b i + bit_at b ((i + 4) % 8) + bit_at b ((i + 5) % 8) + bit_at b ((i + 6) % 8) + bit_at b ((i + 7) % 8) + bit_at 0x63 i) % 2

-- the byte of the eight bits that the affine map gives
unfoldable pub affine : ℕ → ℕ
affine b = sum_by (λ i. affine_bit b i * 2 ^ i) (range_with_len 0 8)

-- SBOX (5.1.1)
unfoldable pub sbox : ℕ → ℕ
sbox b = affine (inverse b)
