-- Eight blocks as eight planes of bits. Plane k is a list of 16 bytes: bit i of its byte j is bit k of
-- byte j of block i. The bytes of a block stand by rows: byte 4r + c is s[r,c] of the state. Wide planes
-- have 32 bytes: the planes of eight blocks, and behind them those of eight further ones.
use Rattle.std.specs.Prelude.{ℕ, ◌+◌, ◌*◌, ◌/◌, ◌%◌, ◌<◌, ◌-◌, ◌==◌, ltb, if◌then◌else◌, ◌≡◌, List, [], map, take, drop, slice_index, slice_index_or, bit_xor}
use Rattle.std.specs.Int.{bit_at}
use Rattle.std.specs.List.{range_with_len, flat_map}
use Rattle.std.specs.Simd.Lanes.{number_l}
use Rattle.ferry_aes.specs.Field.{multiply}
use Rattle.ferry_aes.specs.SBox.{sbox}
use Rattle.ferry_aes.specs.State.{word, state_by, state_of}
use Rattle.ferry_aes.specs.Rounds.{sub_bytes, add_round_key}
use Rattle.ferry_aes.specs.CounterMode.{counter_block}

-- bit i of byte j of a plane
abbrev pub wire : List ℕ → ℕ → ℕ → ℕ
wire plane j i = bit_at (slice_index plane j) i

-- the bits i of bytes j of the first planes, as many as told
abbrev pub wires : ℕ → List (List ℕ) → ℕ → ℕ → List ℕ
wires count planes j i = map (λ k. wire (slice_index_or planes k []) j i) (range_with_len 0 count)

-- byte j of block i, whose bits are in eight planes
unfoldable pub byte_at : List (List ℕ) → ℕ → ℕ → ℕ
byte_at planes j i = number_l 2 (wires 8 planes j i)

-- the state of block i
unfoldable pub state_at : List (List ℕ) → ℕ → List (List ℕ)
state_at planes i = state_by (λ r c. byte_at planes (4 * r + c) i)

-- the place by rows of byte m of a block, which stands by columns, and the other way round
abbrev pub crossed_place : ℕ → ℕ
crossed_place m = m / 4 + m % 4 * 4

-- planes of round key n: the same key for each of eight blocks
abbrev pub IsRoundKey : List (List ℕ) → ℕ → List (List ℕ) → Type 0
IsRoundKey w n planes =
    (r c i : ℕ) → r < 4 → c < 4 → i < 8 → byte_at planes (4 * r + c) i ≡ slice_index (word w (4 * n + c)) r

-- the planes of the 15 round keys
abbrev pub AreRoundKeys : List (List ℕ) → List (List (List ℕ)) → Type 0
AreRoundKeys w keys = (n : ℕ) → n < 15 → IsRoundKey w n (slice_index_or keys n [])

-- byte j after MIXCOLUMNS, from the bytes in its own row and in the three below it
abbrev pub mixed_byte : (ℕ → ℕ) → ℕ → ℕ
mixed_byte byte j =
    bit_xor (bit_xor (multiply 2 (bit_xor (byte j) (byte (j + 4)))) (byte (j + 4))) (bit_xor (byte (j + 8)) (byte (j + 12)))

-- bit i of byte j of a plane whose bits are set s places higher
abbrev pub raised_wire : ℕ → List ℕ → ℕ → ℕ → ℕ
raised_wire s plane j i = if ltb i s then 0 else wire plane j (i - s)

-- bit i of byte j of the lower of two planes a and b that exchange bits at distance s, and of the higher, where a mask has the places that stay low
abbrev pub low_wire : ℕ → ℕ → List ℕ → List ℕ → ℕ → ℕ → ℕ
low_wire s mask a b j i = if bit_at mask i == 1 then wire a j i else raised_wire s b j i

abbrev pub high_wire : ℕ → ℕ → List ℕ → List ℕ → ℕ → ℕ → ℕ
high_wire s mask a b j i = if bit_at mask i == 1 then wire a j (s + i) else wire b j i

-- block i of eight that stand by rows, its bytes by columns
unfoldable pub block_at : List (List ℕ) → ℕ → List ℕ
block_at rows i = map (λ m. slice_index (slice_index_or rows i []) (crossed_place m) % 256) (range_with_len 0 16)

-- eight blocks joined
abbrev pub joined_blocks : List (List ℕ) → List ℕ
joined_blocks rows = flat_map (λ i. block_at rows i) (range_with_len 0 8)

-- byte s[r,c] of a block after ADDROUNDKEY of round 0 and SUBBYTES of round 1
abbrev pub first_byte : List (List ℕ) → List ℕ → ℕ → ℕ → ℕ
first_byte w block r c = sbox (bit_xor (slice_index block (r + 4 * c)) (slice_index (word w c) r))

-- planes of the counter blocks of eight numbers after SUBBYTES of round 1, but for s[3,3], the lowest byte of a number
abbrev pub HasHigherBytes : List (List ℕ) → ℕ → List (List ℕ) → Type 0
HasHigherBytes w n planes =
    (r c i : ℕ) → r < 4 → c < 4 → r + c < 6 → i < 8 → byte_at planes (4 * r + c) i ≡ first_byte w (counter_block (n + i)) r c

-- the same with all bytes
abbrev pub HasAllBytes : List (List ℕ) → ℕ → List (List ℕ) → Type 0
HasAllBytes w n planes = (i : ℕ) → i < 8 → state_at planes i ≡ sub_bytes (add_round_key w 0 (state_of (counter_block (n + i))))

-- in byte j of planes h the lowest bytes of the numbers from n + 128 * h + 8 * j on, after ADDROUNDKEY of round 0 and SUBBYTES of round 1
abbrev pub HaveLowBytes : List (List ℕ) → ℕ → List (List (List ℕ)) → Type 0
HaveLowBytes w n lows =
    (h j i : ℕ) → h < 2 → j < 16 → i < 8
    → byte_at (slice_index_or lows h []) j i ≡ sbox (bit_xor ((n + 128 * h + 8 * j + i) % 256) (slice_index (word w 3) 3))

-- the planes of eight of sixteen blocks in wide planes: half 0 those of the first eight, half 1 those of the eight behind these
unfoldable pub half : ℕ → List (List ℕ) → List (List ℕ)
half h planes = map (λ k. take 16 (drop (16 * h) (slice_index_or planes k []))) (range_with_len 0 8)

-- wide planes of the 15 round keys: those of each half are planes of them
abbrev pub AreWideRoundKeys : List (List ℕ) → List (List (List ℕ)) → Type 0
AreWideRoundKeys w keys = (n h : ℕ) → n < 15 → h < 2 → IsRoundKey w n (half h (slice_index_or keys n []))
