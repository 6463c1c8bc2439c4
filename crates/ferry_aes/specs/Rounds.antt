-- The four transformations of a round of AES, FIPS 197, sections 5.1.1 to 5.1.4.
use Rattle.std.specs.Prelude.{ℕ, ◌+◌, ◌*◌, ◌%◌, List, [], ◌∷◌, map, bit_xor, slice_index}
use Rattle.ferry_aes.specs.Field.{multiply}
use Rattle.ferry_aes.specs.SBox.{sbox}
use Rattle.ferry_aes.specs.State.{at, word, state_by, four}

-- SUBBYTES: each byte is replaced by its S-box value (5.1.1)
unfoldable pub sub_bytes : List (List ℕ) → List (List ℕ)
sub_bytes s = state_by (λ r c. sbox (at s r c))

-- SHIFTROWS: s'[r,c] = s[r, (c + r) mod 4] (5.1.2)
unfoldable pub shift_rows : List (List ℕ) → List (List ℕ)
shift_rows s = state_by (λ r c. at s r ((c + r) % 4))

-- MIXCOLUMNS of one column, the four equations of 5.1.3
unfoldable pub mix_column : ℕ → ℕ → ℕ → ℕ → List ℕ
mix_column s0 s1 s2 s3 =
    bit_xor (bit_xor (bit_xor (multiply 2 s0) (multiply 3 s1)) s2) s3
    ∷ bit_xor (bit_xor (bit_xor s0 (multiply 2 s1)) (multiply 3 s2)) s3
    ∷ bit_xor (bit_xor (bit_xor s0 s1) (multiply 2 s2)) (multiply 3 s3)
    ∷ bit_xor (bit_xor (bit_xor (multiply 3 s0) s1) s2) (multiply 2 s3) ∷ []

-- MIXCOLUMNS: each column is mixed (5.1.3)
unfoldable pub mix_columns : List (List ℕ) → List (List ℕ)
mix_columns s = map (λ c. mix_column (at s 0 c) (at s 1 c) (at s 2 c) (at s 3 c)) four

-- ADDROUNDKEY of round n: column c is added to word 4n + c of the expanded key w (5.1.4)
unfoldable pub add_round_key : List (List ℕ) → ℕ → List (List ℕ) → List (List ℕ)
add_round_key w n s = state_by (λ r c. bit_xor (at s r c) (slice_index (word w (4 * n + c)) r))
