-- Lemmas on the first round of counter blocks, up to SUBBYTES: specs/Planes.antt, HasHigherBytes and HasAllBytes.
use Rattle.std.proofs.Common.{◌≡◌, ℕ, ◌+◌, ◌*◌, ◌/◌, ◌%◌, ◌^◌, ◌<◌, ◌≤◌, List, sym, ap, ◌∙◌, arith, inl, inr, bit_xor}
use Rattle.std.proofs.lemmas.Bool.{cases_lt}
use Rattle.std.specs.Prelude.{slice_index}
use Rattle.ferry_aes.specs.SBox.{sbox}
use Rattle.ferry_aes.specs.State.{state_of, word}
use Rattle.ferry_aes.specs.Rounds.{sub_bytes, add_round_key}
use Rattle.ferry_aes.specs.CounterMode.{counter_block}
use Rattle.ferry_aes.specs.Planes.{byte_at, state_at, block_at, first_byte, HasHigherBytes, HasAllBytes}
use Rattle.ferry_aes.proofs.BitLemmas.{below_4, below_16}
use Rattle.ferry_aes.proofs.PlanesLemmas.{state_by-same}
use Rattle.ferry_aes.proofs.HalvesLemmas.{state_at-same}
use Rattle.ferry_aes.proofs.CounterModeLemmas.{counter_block-wrapped}

-- the lowest byte of a counter block
low_byte : (n : ℕ) → slice_index (counter_block n) 15 ≡ n % 256
unfolding counter_block
low_byte n = omega arith

-- the higher bytes are those of the number divided by 256
high_byte : (a b m : ℕ) → a / 256 ≡ b / 256 → m < 15 → slice_index (counter_block a) m ≡ slice_index (counter_block b) m
unfolding counter_block
high_byte a b m same within =
    let e : a % 2 ^ 128 / 256 ≡ b % 2 ^ 128 / 256 = omega arith in
    below_16 (λ m. m < 15 → slice_index (counter_block a) m ≡ slice_index (counter_block b) m)
    (λ h. omega (arith, e)) (λ h. omega (arith, e)) (λ h. omega (arith, e)) (λ h. omega (arith, e))
    (λ h. omega (arith, e)) (λ h. omega (arith, e)) (λ h. omega (arith, e)) (λ h. omega (arith, e))
    (λ h. omega (arith, e)) (λ h. omega (arith, e)) (λ h. omega (arith, e)) (λ h. omega (arith, e))
    (λ h. omega (arith, e)) (λ h. omega (arith, e)) (λ h. omega (arith, e)) (λ h. absurd (omega (arith, h)))
    m (omega arith) within

-- the bytes of a state
first_bytes : (w : List (List ℕ)) (planes : List (List ℕ)) (block : List ℕ) (i : ℕ) → state_at planes i ≡ sub_bytes (add_round_key w 0 (state_of block))
    → (r c : ℕ) → r < 4 → c < 4 → byte_at planes (4 * r + c) i ≡ first_byte w block r c
unfolding state_at sub_bytes add_round_key state_of
first_bytes w planes block i same r c row column =
    below_4 (λ r. (c : ℕ) → c < 4 → byte_at planes (4 * r + c) i ≡ first_byte w block r c)
    (below_4 (λ c. byte_at planes (4 * 0 + c) i ≡ first_byte w block 0 c)
    (ap (λ s. slice_index (word s 0) 0) same) (ap (λ s. slice_index (word s 1) 0) same)
    (ap (λ s. slice_index (word s 2) 0) same) (ap (λ s. slice_index (word s 3) 0) same))
    (below_4 (λ c. byte_at planes (4 * 1 + c) i ≡ first_byte w block 1 c)
    (ap (λ s. slice_index (word s 0) 1) same) (ap (λ s. slice_index (word s 1) 1) same)
    (ap (λ s. slice_index (word s 2) 1) same) (ap (λ s. slice_index (word s 3) 1) same))
    (below_4 (λ c. byte_at planes (4 * 2 + c) i ≡ first_byte w block 2 c)
    (ap (λ s. slice_index (word s 0) 2) same) (ap (λ s. slice_index (word s 1) 2) same)
    (ap (λ s. slice_index (word s 2) 2) same) (ap (λ s. slice_index (word s 3) 2) same))
    (below_4 (λ c. byte_at planes (4 * 3 + c) i ≡ first_byte w block 3 c)
    (ap (λ s. slice_index (word s 0) 3) same) (ap (λ s. slice_index (word s 1) 3) same)
    (ap (λ s. slice_index (word s 2) 3) same) (ap (λ s. slice_index (word s 3) 3) same))
    r row c column

-- planes that were made whole
pub higher_by_states : (w : List (List ℕ)) (n : ℕ) (rows planes : List (List ℕ)) → ((i : ℕ) → i < 8 → block_at rows i ≡ counter_block (n + i))
    → ((i : ℕ) → i < 8 → state_at planes i ≡ sub_bytes (add_round_key w 0 (state_of (block_at rows i)))) → HasHigherBytes w n planes
higher_by_states w n rows planes counted made r c i row column higher block =
    first_bytes w planes (counter_block (n + i)) i
    (made i block ∙ ap (λ b. sub_bytes (add_round_key w 0 (state_of b))) (counted i block)) r c row column

-- eight numbers later, where no byte is carried over
pub higher_next : (w : List (List ℕ)) (n m : ℕ) (planes : List (List ℕ)) → m ≡ n + 8 → 8 ≤ m % 256 → m % 256 ≤ 248 → HasHigherBytes w n planes
    → HasHigherBytes w m planes
higher_next w n m planes next low high known r c i row column higher block =
    let e : (n + i) / 256 ≡ (m + i) / 256 = omega arith in
    known r c i row column higher block
    ∙ ap (λ x. sbox (bit_xor x (slice_index (word w c) r))) (high_byte (n + i) (m + i) (r + 4 * c) e (omega arith))

-- the numbers count modulo 2^128
pub higher-wrapped : (w : List (List ℕ)) (n m : ℕ) (planes : List (List ℕ)) → m ≡ n % 2 ^ 128 → HasHigherBytes w n planes → HasHigherBytes w m planes
higher-wrapped w n m planes same known r c i row column higher block =
    known r c i row column higher block
    ∙ ap (λ b. first_byte w b r c) (sym (ap (λ k. counter_block (k + i)) same ∙ counter_block-wrapped n i))

pub higher-unwrapped : (w : List (List ℕ)) (n m : ℕ) (planes : List (List ℕ)) → m ≡ n % 2 ^ 128 → HasHigherBytes w m planes → HasHigherBytes w n planes
higher-unwrapped w n m planes same known r c i row column higher block =
    known r c i row column higher block
    ∙ ap (λ b. first_byte w b r c) (ap (λ k. counter_block (k + i)) same ∙ counter_block-wrapped n i)

-- the lowest bytes set into the higher ones
one_byte : (w : List (List ℕ)) (n : ℕ) (known planes : List (List ℕ)) → HasHigherBytes w n known
    → ((j i : ℕ) → j < 15 → byte_at planes j i ≡ byte_at known j i)
    → ((i : ℕ) → i < 8 → byte_at planes 15 i ≡ sbox (bit_xor ((n + i) % 256) (slice_index (word w 3) 3)))
    → (r c i : ℕ) → r < 4 → c < 4 → i < 8 → byte_at planes (4 * r + c) i ≡ first_byte w (counter_block (n + i)) r c
one_byte w n known planes higher others last r c i row column block =
    elim (cases_lt (r + c) 6) [
      | inl low ↦ others (4 * r + c) i (omega arith) ∙ higher r c i row column low block
      | inr high ↦
          let er : r ≡ 3 = omega arith in
          let ec : c ≡ 3 = omega arith in
          let whole : byte_at planes 15 i ≡ first_byte w (counter_block (n + i)) 3 3 =
          last i block ∙ ap (λ x. sbox (bit_xor x (slice_index (word w 3) 3))) (sym (low_byte (n + i))) in
          rw (er, ec) whole
    ]

pub all_bytes : (w : List (List ℕ)) (n : ℕ) (known planes : List (List ℕ)) → HasHigherBytes w n known
    → ((j i : ℕ) → j < 15 → byte_at planes j i ≡ byte_at known j i)
    → ((i : ℕ) → i < 8 → byte_at planes 15 i ≡ sbox (bit_xor ((n + i) % 256) (slice_index (word w 3) 3)))
    → HasAllBytes w n planes
unfolding state_at sub_bytes add_round_key state_of
all_bytes w n known planes higher others last i block =
    state_by-same (λ r c. byte_at planes (4 * r + c) i) (λ r c. first_byte w (counter_block (n + i)) r c)
    (λ r c row column. one_byte w n known planes higher others last r c i row column block)

-- planes with the same bytes
pub all_bytes-same : (w : List (List ℕ)) (n : ℕ) (p q : List (List ℕ)) → ((j i : ℕ) → j < 16 → byte_at q j i ≡ byte_at p j i) → HasAllBytes w n p
    → HasAllBytes w n q
all_bytes-same w n p q each all i block = state_at-same p q i (λ j l. each j i l) ∙ all i block
