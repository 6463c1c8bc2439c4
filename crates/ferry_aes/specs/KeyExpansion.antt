-- KEYEXPANSION of AES-256, FIPS 197, section 5.2: 60 words w[0], w[1], .. of a key of 32 bytes.
use Rattle.std.specs.Prelude.{ℕ, zero, suc, ◌+◌, ◌-◌, ◌*◌, ◌/◌, ◌%◌, ◌==◌, if◌then◌else◌, nat_lt, List, [], ◌∷◌, ◌++◌, map, bit_xor, slice_index}
use Rattle.ferry_aes.specs.Field.{power}
use Rattle.ferry_aes.specs.SBox.{sbox}
use Rattle.ferry_aes.specs.State.{word, four}

-- SUBWORD: each byte of a word is replaced by its S-box value (5.2)
unfoldable pub sub_word : List ℕ → List ℕ
sub_word w = map sbox w

-- ROTWORD: [a0, a1, a2, a3] becomes [a1, a2, a3, a0] (5.2)
unfoldable pub rot_word : List ℕ → List ℕ
rot_word a = slice_index a 1 ∷ slice_index a 2 ∷ slice_index a 3 ∷ slice_index a 0 ∷ []

-- Rcon[j] = [x^(j - 1), 00, 00, 00], the power of x = 02 in GF(2^8) (5.2, table 5)
unfoldable pub rcon : ℕ → List ℕ
rcon j = power 2 (j - 1) ∷ 0 ∷ 0 ∷ 0 ∷ []

-- the sum of two words (4.1)
unfoldable pub add_words : List ℕ → List ℕ → List ℕ
add_words a b = map (λ r. bit_xor (slice_index a r) (slice_index b r)) four

-- word i of the key itself, its bytes 4i to 4i + 3
unfoldable pub key_word : List ℕ → ℕ → List ℕ
key_word key i = map (λ r. slice_index key (4 * i + r)) four

-- what is added to w[i - 8] to give w[i], from w[i - 1] (5.2, algorithm 2 at 8 words of key)
unfoldable pub addend : ℕ → List ℕ → List ℕ
addend i before =
    if i % 8 == 0
    then add_words (sub_word (rot_word before)) (rcon (i / 8))
    else (if i % 8 == 4 then sub_word before else before)

-- w[i] from the words before it, w[0] to w[i - 1]
unfoldable pub next_word : List ℕ → List (List ℕ) → ℕ → List ℕ
next_word key w i =
    if nat_lt i 8 then key_word key i else add_words (word w (i - 8)) (addend i (word w (i - 1)))

-- the first n words of the expanded key
unfoldable pub first_words : List ℕ → ℕ → List (List ℕ)
first_words key zero = []
first_words key (suc n) = first_words key n ++ next_word key (first_words key n) n ∷ []

-- the expanded key of AES-256: 4 * (14 + 1) words (5.2)
unfoldable pub key_expansion : List ℕ → List (List ℕ)
key_expansion key = first_words key 60
