-- CIPHER of AES-256, FIPS 197, section 5.1: 14 rounds over a state of 4 by 4 bytes.
use Rattle.std.specs.Prelude.{ℕ, zero, suc, ◌*◌, List, take, drop}
use Rattle.std.specs.List.{flat_map, range_with_len}
use Rattle.ferry_aes.specs.State.{state_of, block_of}
use Rattle.ferry_aes.specs.Rounds.{sub_bytes, shift_rows, mix_columns, add_round_key}
use Rattle.ferry_aes.specs.KeyExpansion.{key_expansion}

-- a round before the last one, with the expanded key w (5.1)
unfoldable pub round : List (List ℕ) → ℕ → List (List ℕ) → List (List ℕ)
round w n s = add_round_key w n (mix_columns (shift_rows (sub_bytes s)))

-- the last round, number 14, which has no MIXCOLUMNS (5.1)
unfoldable pub last_round : List (List ℕ) → List (List ℕ) → List (List ℕ)
last_round w s = add_round_key w 14 (shift_rows (sub_bytes s))

-- the state after round n, where round 0 is the first ADDROUNDKEY alone (5.1)
unfoldable pub after_round : List (List ℕ) → List (List ℕ) → ℕ → List (List ℕ)
after_round w s zero = add_round_key w 0 s
after_round w s (suc n) = round w (suc n) (after_round w s n)

-- CIPHER: the block that a block of 16 bytes becomes under the expanded key w (5.1)
unfoldable pub cipher : List (List ℕ) → List ℕ → List ℕ
cipher w input = block_of (last_round w (after_round w (state_of input) 13))

-- AES-256: the block that a block becomes under a key of 32 bytes (5)
abbrev pub aes256 : List ℕ → List ℕ → List ℕ
aes256 key input = cipher (key_expansion key) input

-- piece i of bytes, 16 of them
abbrev pub piece : List ℕ → ℕ → List ℕ
piece bytes i = take 16 (drop (16 * i) bytes)

-- the first blocks of bytes, as many as told, each encrypted for itself and joined
unfoldable pub each_encrypted : List (List ℕ) → List ℕ → ℕ → List ℕ
each_encrypted w bytes count = flat_map (λ i. cipher w (piece bytes i)) (range_with_len 0 count)
