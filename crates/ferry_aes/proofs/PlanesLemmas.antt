-- Lemmas on specs/Planes.antt: states of blocks in bit planes, and the way of blocks into planes and out of them.
use Rattle.std.proofs.Common.{◌≡◌, ◌≢◌, ℕ, zero, suc, ◌+◌, ◌-◌, ◌*◌, ◌/◌, ◌%◌, ◌<◌, List}
use Rattle.std.proofs.Common.{[], ◌∷◌, bit_xor, refl, ap, sym, ◌∙◌, arith, subst, length, set, inl, inr}
use Rattle.std.proofs.lemmas.Bool.{cases_lt}
use Rattle.std.proofs.lemmas.List.{get_or-set_same, get_or-set_other}
use lib.Bits.{xor_assoc, xor_comm}
use Rattle.std.specs.Prelude.{slice_index, slice_index_or}
use Rattle.std.specs.Int.{bit_at}
use Rattle.std.specs.Simd.Lanes.{number_l}
use Rattle.std.proofs.lemmas.Nat.Bits.{bit_at-lt, bit_at_xor}
use Rattle.std.proofs.lemmas.Nat.{xor_lt}
use Rattle.ferry_aes.specs.Field.{multiply}
use Rattle.ferry_aes.specs.SBox.{sbox}
use Rattle.ferry_aes.specs.State.{state_by, state_of, block_of, word}
use Rattle.ferry_aes.specs.Rounds.{sub_bytes, shift_rows, mix_column, mix_columns, add_round_key}
use Rattle.ferry_aes.specs.Circuit.{add_bits}
use Rattle.ferry_aes.specs.Planes.{wire, wires, byte_at, state_at, block_at, mixed_byte, IsRoundKey}
use Rattle.ferry_aes.specs.Cipher.{round, after_round}
use Rattle.ferry_aes.proofs.Tables.{tripled}
use Rattle.ferry_aes.proofs.BitLemmas.{bits_of_byte, byte_from_bits, byte_of_sums}
use Rattle.ferry_aes.proofs.ByteLemmas.{byte_at-lt, byte_at_is, doubled_bits, doubled_by_bits}

-- ---- state_at

pub state_by-same : (f g : ℕ → ℕ → ℕ) → ((r c : ℕ) → r < 4 → c < 4 → f r c ≡ g r c) → state_by f ≡ state_by g
state_by-same f g same =
    let e00 = same 0 0 (omega arith) (omega arith) in
    let e10 = same 1 0 (omega arith) (omega arith) in
    let e20 = same 2 0 (omega arith) (omega arith) in
    let e30 = same 3 0 (omega arith) (omega arith) in
    let e01 = same 0 1 (omega arith) (omega arith) in
    let e11 = same 1 1 (omega arith) (omega arith) in
    let e21 = same 2 1 (omega arith) (omega arith) in
    let e31 = same 3 1 (omega arith) (omega arith) in
    let e02 = same 0 2 (omega arith) (omega arith) in
    let e12 = same 1 2 (omega arith) (omega arith) in
    let e22 = same 2 2 (omega arith) (omega arith) in
    let e32 = same 3 2 (omega arith) (omega arith) in
    let e03 = same 0 3 (omega arith) (omega arith) in
    let e13 = same 1 3 (omega arith) (omega arith) in
    let e23 = same 2 3 (omega arith) (omega arith) in
    let e33 = same 3 3 (omega arith) (omega arith) in
    rw (e00, e10, e20, e30, e01, e11, e21, e31, e02, e12, e22, e32, e03, e13, e23, e33) refl

pub state_at-sub_bytes : (p q : List (List ℕ)) (i : ℕ) → ((j : ℕ) → j < 16 → byte_at q j i ≡ sbox (byte_at p j i)) → state_at q i ≡ sub_bytes (state_at p i)
unfolding state_at sub_bytes
state_at-sub_bytes p q i each =
    state_by-same (λ r c. byte_at q (4 * r + c) i) (λ r c. sbox (byte_at p (4 * r + c) i)) (λ r c a b. each (4 * r + c) (omega arith))

pub state_at-shift_rows : (p q : List (List ℕ)) (i : ℕ) → ((j : ℕ) → j < 16 → byte_at q j i ≡ byte_at p (j / 4 * 4 + (j + j / 4) % 4) i)
    → state_at q i ≡ shift_rows (state_at p i)
unfolding state_at shift_rows
state_at-shift_rows p q i each =
    state_by-same (λ r c. byte_at q (4 * r + c) i) (λ r c. byte_at p (4 * r + (c + r) % 4) i)
    (λ r c a b.
    let e : (4 * r + c) / 4 * 4 + (4 * r + c + (4 * r + c) / 4) % 4 ≡ 4 * r + (c + r) % 4 = omega arith in
    each (4 * r + c) (omega arith) ∙ ap (λ k. byte_at p k i) e)

pub state_at-add_round_key : (w : List (List ℕ)) (n : ℕ) (p k q : List (List ℕ)) (i : ℕ) → IsRoundKey w n k → i < 8
    → ((j : ℕ) → j < 16 → byte_at q j i ≡ bit_xor (byte_at p j i) (byte_at k j i)) → state_at q i ≡ add_round_key w n (state_at p i)
unfolding state_at add_round_key
state_at-add_round_key w n p k q i key block each =
    state_by-same (λ r c. byte_at q (4 * r + c) i) (λ r c. bit_xor (byte_at p (4 * r + c) i) (slice_index (word w (4 * n + c)) r))
    (λ r c a b. each (4 * r + c) (omega arith) ∙ ap (bit_xor (byte_at p (4 * r + c) i)) (key r c i a b block))

-- ---- MIXCOLUMNS

four_sums : (w0 v0 w1 v1 : ℕ) → add_bits (add_bits w0 v0) (add_bits w1 v1) ≡ add_bits (add_bits w0 w1) (add_bits v0 v1)
unfolding add_bits
four_sums w0 v0 w1 v1 = omega arith

add_bits-lt : (a b : ℕ) → add_bits a b < 2
unfolding add_bits
add_bits-lt a b = omega arith

bits_of_sum : (a b : ℕ) → bits_of_byte (bit_xor a b) ≡ (add_bits (bit_at a 0) (bit_at b 0) ∷ add_bits (bit_at a 1) (bit_at b 1)
    ∷ add_bits (bit_at a 2) (bit_at b 2) ∷ add_bits (bit_at a 3) (bit_at b 3) ∷ add_bits (bit_at a 4) (bit_at b 4)
    ∷ add_bits (bit_at a 5) (bit_at b 5) ∷ add_bits (bit_at a 6) (bit_at b 6) ∷ add_bits (bit_at a 7) (bit_at b 7) ∷ [])
unfolding add_bits
bits_of_sum a b =
    rw (bit_at_xor a b 0, bit_at_xor a b 1, bit_at_xor a b 2, bit_at_xor a b 3, bit_at_xor a b 4, bit_at_xor a b 5, bit_at_xor a b 6, bit_at_xor a b 7) refl

-- a product by x is a sum of products
pub doubled-xor : (a b : ℕ) → a < 256 → b < 256 → multiply 2 (bit_xor a b) ≡ bit_xor (multiply 2 a) (multiply 2 b)
doubled-xor a b la lb =
    let both : bit_xor a b < 256 = xor_lt 8 a b la lb in
    let e = doubled_by_bits (bit_xor a b) both in
    let f = ap (λ xs. number_l 2 (doubled_bits xs)) (bits_of_sum a b) in
    let s0 = four_sums (bit_at a 0) (bit_at b 0) (bit_at a 7) (bit_at b 7) in
    let s2 = four_sums (bit_at a 2) (bit_at b 2) (bit_at a 7) (bit_at b 7) in
    let s3 = four_sums (bit_at a 3) (bit_at b 3) (bit_at a 7) (bit_at b 7) in
    let sums = byte_of_sums
    (bit_at a 7) (add_bits (bit_at a 0) (bit_at a 7)) (bit_at a 1) (add_bits (bit_at a 2) (bit_at a 7))
    (add_bits (bit_at a 3) (bit_at a 7)) (bit_at a 4) (bit_at a 5) (bit_at a 6)
    (bit_at b 7) (add_bits (bit_at b 0) (bit_at b 7)) (bit_at b 1) (add_bits (bit_at b 2) (bit_at b 7))
    (add_bits (bit_at b 3) (bit_at b 7)) (bit_at b 4) (bit_at b 5) (bit_at b 6)
    (bit_at-lt a 7) (add_bits-lt (bit_at a 0) (bit_at a 7)) (bit_at-lt a 1) (add_bits-lt (bit_at a 2) (bit_at a 7))
    (add_bits-lt (bit_at a 3) (bit_at a 7)) (bit_at-lt a 4) (bit_at-lt a 5) (bit_at-lt a 6)
    (bit_at-lt b 7) (add_bits-lt (bit_at b 0) (bit_at b 7)) (bit_at-lt b 1) (add_bits-lt (bit_at b 2) (bit_at b 7))
    (add_bits-lt (bit_at b 3) (bit_at b 7)) (bit_at-lt b 4) (bit_at-lt b 5) (bit_at-lt b 6) in
    let ea = doubled_by_bits a la in
    let eb = doubled_by_bits b lb in
    let joined : number_l 2 (doubled_bits (add_bits (bit_at a 0) (bit_at b 0) ∷ add_bits (bit_at a 1) (bit_at b 1)
    ∷ add_bits (bit_at a 2) (bit_at b 2) ∷ add_bits (bit_at a 3) (bit_at b 3) ∷ add_bits (bit_at a 4) (bit_at b 4)
    ∷ add_bits (bit_at a 5) (bit_at b 5) ∷ add_bits (bit_at a 6) (bit_at b 6) ∷ add_bits (bit_at a 7) (bit_at b 7) ∷ []))
    ≡ number_l 2 (add_bits (bit_at a 7) (bit_at b 7) ∷ add_bits (add_bits (bit_at a 0) (bit_at a 7)) (add_bits (bit_at b 0) (bit_at b 7))
    ∷ add_bits (bit_at a 1) (bit_at b 1) ∷ add_bits (add_bits (bit_at a 2) (bit_at a 7)) (add_bits (bit_at b 2) (bit_at b 7))
    ∷ add_bits (add_bits (bit_at a 3) (bit_at a 7)) (add_bits (bit_at b 3) (bit_at b 7)) ∷ add_bits (bit_at a 4) (bit_at b 4)
    ∷ add_bits (bit_at a 5) (bit_at b 5) ∷ add_bits (bit_at a 6) (bit_at b 6) ∷ []) =
    rw (s0, s2, s3) refl in
    sym e ∙ f ∙ joined ∙ sums ∙ (λ t. bit_xor (ea t) (eb t))

-- the sum that the planes make, as a sum with a product by x + 1
thrice : (a b c d : ℕ) → a < 256 → b < 256
    → bit_xor (bit_xor (multiply 2 (bit_xor a b)) b) (bit_xor c d) ≡ bit_xor (bit_xor (multiply 2 a) (multiply 3 b)) (bit_xor c d)
thrice a b c d la lb =
    let e = doubled-xor a b la lb in
    let f = tripled b lb in
    let g = xor_assoc (multiply 2 a) (multiply 2 b) b in
    let h : bit_xor (multiply 2 (bit_xor a b)) b ≡ bit_xor (multiply 2 a) (multiply 3 b) = cc in
    ap (λ x. bit_xor x (bit_xor c d)) h

row_0 : (x y c d : ℕ) → bit_xor (bit_xor x y) (bit_xor c d) ≡ bit_xor (bit_xor (bit_xor x y) c) d
row_0 x y c d = sym (xor_assoc (bit_xor x y) c d)

row_1 : (x y c d : ℕ) → bit_xor (bit_xor x y) (bit_xor c d) ≡ bit_xor (bit_xor (bit_xor d x) y) c
row_1 x y c d =
    ap (bit_xor (bit_xor x y)) (xor_comm c d) ∙ sym (xor_assoc (bit_xor x y) d c) ∙ ap (λ z. bit_xor z c) (xor_comm (bit_xor x y) d)
    ∙ ap (λ z. bit_xor z c) (sym (xor_assoc d x y))

row_2 : (x y c d : ℕ) → bit_xor (bit_xor x y) (bit_xor c d) ≡ bit_xor (bit_xor (bit_xor c d) x) y
row_2 x y c d = xor_comm (bit_xor x y) (bit_xor c d) ∙ sym (xor_assoc (bit_xor c d) x y)

row_3 : (x y c d : ℕ) → bit_xor (bit_xor x y) (bit_xor c d) ≡ bit_xor (bit_xor (bit_xor y c) d) x
row_3 x y c d = xor_assoc x y (bit_xor c d) ∙ xor_comm x (bit_xor y (bit_xor c d)) ∙ ap (λ z. bit_xor z x) (sym (xor_assoc y c d))

pub state_at-mix_columns : (p q : List (List ℕ)) (i : ℕ) → ((j : ℕ) → j < 16 → byte_at q j i ≡ mixed_byte (λ k. byte_at p (k % 16) i) j)
    → state_at q i ≡ mix_columns (state_at p i)
unfolding state_at mix_columns mix_column
state_at-mix_columns p q i each =
    let b : ℕ → ℕ = λ k. byte_at p k i in
    let e0 = each 0 (omega arith) ∙ thrice (b 0) (b 4) (b 8) (b 12) (byte_at-lt p 0 i) (byte_at-lt p 4 i)
    ∙ row_0 (multiply 2 (b 0)) (multiply 3 (b 4)) (b 8) (b 12) in
    let e1 = each 1 (omega arith) ∙ thrice (b 1) (b 5) (b 9) (b 13) (byte_at-lt p 1 i) (byte_at-lt p 5 i)
    ∙ row_0 (multiply 2 (b 1)) (multiply 3 (b 5)) (b 9) (b 13) in
    let e2 = each 2 (omega arith) ∙ thrice (b 2) (b 6) (b 10) (b 14) (byte_at-lt p 2 i) (byte_at-lt p 6 i)
    ∙ row_0 (multiply 2 (b 2)) (multiply 3 (b 6)) (b 10) (b 14) in
    let e3 = each 3 (omega arith) ∙ thrice (b 3) (b 7) (b 11) (b 15) (byte_at-lt p 3 i) (byte_at-lt p 7 i)
    ∙ row_0 (multiply 2 (b 3)) (multiply 3 (b 7)) (b 11) (b 15) in
    let e4 = each 4 (omega arith) ∙ thrice (b 4) (b 8) (b 12) (b 0) (byte_at-lt p 4 i) (byte_at-lt p 8 i)
    ∙ row_1 (multiply 2 (b 4)) (multiply 3 (b 8)) (b 12) (b 0) in
    let e5 = each 5 (omega arith) ∙ thrice (b 5) (b 9) (b 13) (b 1) (byte_at-lt p 5 i) (byte_at-lt p 9 i)
    ∙ row_1 (multiply 2 (b 5)) (multiply 3 (b 9)) (b 13) (b 1) in
    let e6 = each 6 (omega arith) ∙ thrice (b 6) (b 10) (b 14) (b 2) (byte_at-lt p 6 i) (byte_at-lt p 10 i)
    ∙ row_1 (multiply 2 (b 6)) (multiply 3 (b 10)) (b 14) (b 2) in
    let e7 = each 7 (omega arith) ∙ thrice (b 7) (b 11) (b 15) (b 3) (byte_at-lt p 7 i) (byte_at-lt p 11 i)
    ∙ row_1 (multiply 2 (b 7)) (multiply 3 (b 11)) (b 15) (b 3) in
    let e8 = each 8 (omega arith) ∙ thrice (b 8) (b 12) (b 0) (b 4) (byte_at-lt p 8 i) (byte_at-lt p 12 i)
    ∙ row_2 (multiply 2 (b 8)) (multiply 3 (b 12)) (b 0) (b 4) in
    let e9 = each 9 (omega arith) ∙ thrice (b 9) (b 13) (b 1) (b 5) (byte_at-lt p 9 i) (byte_at-lt p 13 i)
    ∙ row_2 (multiply 2 (b 9)) (multiply 3 (b 13)) (b 1) (b 5) in
    let e10 = each 10 (omega arith) ∙ thrice (b 10) (b 14) (b 2) (b 6) (byte_at-lt p 10 i) (byte_at-lt p 14 i)
    ∙ row_2 (multiply 2 (b 10)) (multiply 3 (b 14)) (b 2) (b 6) in
    let e11 = each 11 (omega arith) ∙ thrice (b 11) (b 15) (b 3) (b 7) (byte_at-lt p 11 i) (byte_at-lt p 15 i)
    ∙ row_2 (multiply 2 (b 11)) (multiply 3 (b 15)) (b 3) (b 7) in
    let e12 = each 12 (omega arith) ∙ thrice (b 12) (b 0) (b 4) (b 8) (byte_at-lt p 12 i) (byte_at-lt p 0 i)
    ∙ row_3 (multiply 2 (b 12)) (multiply 3 (b 0)) (b 4) (b 8) in
    let e13 = each 13 (omega arith) ∙ thrice (b 13) (b 1) (b 5) (b 9) (byte_at-lt p 13 i) (byte_at-lt p 1 i)
    ∙ row_3 (multiply 2 (b 13)) (multiply 3 (b 1)) (b 5) (b 9) in
    let e14 = each 14 (omega arith) ∙ thrice (b 14) (b 2) (b 6) (b 10) (byte_at-lt p 14 i) (byte_at-lt p 2 i)
    ∙ row_3 (multiply 2 (b 14)) (multiply 3 (b 2)) (b 6) (b 10) in
    let e15 = each 15 (omega arith) ∙ thrice (b 15) (b 3) (b 7) (b 11) (byte_at-lt p 15 i) (byte_at-lt p 3 i)
    ∙ row_3 (multiply 2 (b 15)) (multiply 3 (b 3)) (b 7) (b 11) in
    rw (e0, e1, e2, e3, e4, e5, e6, e7, e8, e9, e10, e11, e12, e13, e14, e15) refl

-- ---- blocks into planes, and planes into blocks

-- bits and blocks have changed places
abbrev pub AreTransposed : List (List ℕ) → List (List ℕ) → Type 0
AreTransposed made x = (k i j : ℕ) → k < 8 → i < 8 → j < 16 → wire (slice_index_or made k []) j i ≡ wire (slice_index_or x i []) j k

pub byte_at-transposed : (made x : List (List ℕ)) → AreTransposed made x → (j i : ℕ) → j < 16 → i < 8
    → byte_at made j i ≡ slice_index (slice_index_or x i []) j % 256
byte_at-transposed made x moved j i lane block =
    let e0 = moved 0 i j (omega arith) block lane in
    let e1 = moved 1 i j (omega arith) block lane in
    let e2 = moved 2 i j (omega arith) block lane in
    let e3 = moved 3 i j (omega arith) block lane in
    let e4 = moved 4 i j (omega arith) block lane in
    let e5 = moved 5 i j (omega arith) block lane in
    let e6 = moved 6 i j (omega arith) block lane in
    let e7 = moved 7 i j (omega arith) block lane in
    let all : number_l 2 (wires 8 made j i) ≡ number_l 2 (bits_of_byte (slice_index (slice_index_or x i []) j)) = rw (e0, e1, e2, e3, e4, e5, e6, e7) refl in
    byte_at_is made j i ∙ all ∙ byte_from_bits (slice_index (slice_index_or x i []) j)

pub lane-transposed : (made x : List (List ℕ)) → AreTransposed made x → (j i : ℕ) → j < 16 → i < 8
    → slice_index (slice_index_or made i []) j % 256 ≡ byte_at x j i
lane-transposed made x moved j i lane block =
    let e0 = moved i 0 j block (omega arith) lane in
    let e1 = moved i 1 j block (omega arith) lane in
    let e2 = moved i 2 j block (omega arith) lane in
    let e3 = moved i 3 j block (omega arith) lane in
    let e4 = moved i 4 j block (omega arith) lane in
    let e5 = moved i 5 j block (omega arith) lane in
    let e6 = moved i 6 j block (omega arith) lane in
    let e7 = moved i 7 j block (omega arith) lane in
    let all : number_l 2 (bits_of_byte (slice_index (slice_index_or made i []) j)) ≡ number_l 2 (wires 8 x j i) = rw (e0, e1, e2, e3, e4, e5, e6, e7) refl in
    sym (byte_from_bits (slice_index (slice_index_or made i []) j)) ∙ all ∙ sym (byte_at_is x j i)

pub state_at-transposed : (made x : List (List ℕ)) → AreTransposed made x → (i : ℕ) → i < 8 → state_at made i ≡ state_of (block_at x i)
unfolding state_at state_of block_at
state_at-transposed made x moved i block =
    let e0 = byte_at-transposed made x moved 0 i (omega arith) block in
    let e1 = byte_at-transposed made x moved 1 i (omega arith) block in
    let e2 = byte_at-transposed made x moved 2 i (omega arith) block in
    let e3 = byte_at-transposed made x moved 3 i (omega arith) block in
    let e4 = byte_at-transposed made x moved 4 i (omega arith) block in
    let e5 = byte_at-transposed made x moved 5 i (omega arith) block in
    let e6 = byte_at-transposed made x moved 6 i (omega arith) block in
    let e7 = byte_at-transposed made x moved 7 i (omega arith) block in
    let e8 = byte_at-transposed made x moved 8 i (omega arith) block in
    let e9 = byte_at-transposed made x moved 9 i (omega arith) block in
    let e10 = byte_at-transposed made x moved 10 i (omega arith) block in
    let e11 = byte_at-transposed made x moved 11 i (omega arith) block in
    let e12 = byte_at-transposed made x moved 12 i (omega arith) block in
    let e13 = byte_at-transposed made x moved 13 i (omega arith) block in
    let e14 = byte_at-transposed made x moved 14 i (omega arith) block in
    let e15 = byte_at-transposed made x moved 15 i (omega arith) block in
    rw (e0, e1, e2, e3, e4, e5, e6, e7, e8, e9, e10, e11, e12, e13, e14, e15) refl

pub block_at-transposed : (made x : List (List ℕ)) → AreTransposed made x → (i : ℕ) → i < 8 → block_at made i ≡ block_of (state_at x i)
unfolding state_at block_of block_at
block_at-transposed made x moved i block =
    let e0 = lane-transposed made x moved 0 i (omega arith) block in
    let e1 = lane-transposed made x moved 1 i (omega arith) block in
    let e2 = lane-transposed made x moved 2 i (omega arith) block in
    let e3 = lane-transposed made x moved 3 i (omega arith) block in
    let e4 = lane-transposed made x moved 4 i (omega arith) block in
    let e5 = lane-transposed made x moved 5 i (omega arith) block in
    let e6 = lane-transposed made x moved 6 i (omega arith) block in
    let e7 = lane-transposed made x moved 7 i (omega arith) block in
    let e8 = lane-transposed made x moved 8 i (omega arith) block in
    let e9 = lane-transposed made x moved 9 i (omega arith) block in
    let e10 = lane-transposed made x moved 10 i (omega arith) block in
    let e11 = lane-transposed made x moved 11 i (omega arith) block in
    let e12 = lane-transposed made x moved 12 i (omega arith) block in
    let e13 = lane-transposed made x moved 13 i (omega arith) block in
    let e14 = lane-transposed made x moved 14 i (omega arith) block in
    let e15 = lane-transposed made x moved 15 i (omega arith) block in
    rw (e0, e1, e2, e3, e4, e5, e6, e7, e8, e9, e10, e11, e12, e13, e14, e15) refl

-- ---- round keys and rounds

-- what holds of each element before a place, and of the element that is set there
pub each_more : (P : ℕ → List (List ℕ) → Type 0) (keys : List (List (List ℕ))) (count : ℕ) (key : List (List ℕ)) → count < length keys
    → ((n : ℕ) → n < count → P n (slice_index_or keys n [])) → P count key → (n : ℕ) → n < count + 1 → P n (slice_index_or (set keys count key) n [])
each_more P keys count key room before made n within =
    elim (cases_lt n count) [
      | inl low ↦ let apart : n ≢ count = omega arith in
          let e = get_or-set_other keys count n key [] apart in
          subst (λ p. P n p) (sym e) (before n low)
      | inr high ↦
          let same : count ≡ n = omega arith in
          let e = get_or-set_same keys count key [] room in
          subst (λ m. P m (slice_index_or (set keys count key) m [])) same (subst (λ p. P count p) (sym e) made)
    ]

pub round_keys_more : (w : List (List ℕ)) (keys : List (List (List ℕ))) (count : ℕ) (key : List (List ℕ)) → count < length keys
    → ((n : ℕ) → n < count → IsRoundKey w n (slice_index_or keys n [])) → IsRoundKey w count key
    → (n : ℕ) → n < count + 1 → IsRoundKey w n (slice_index_or (set keys count key) n [])
round_keys_more w keys count key room before made n within = each_more (IsRoundKey w) keys count key room before made n within

pub after_round_next : (w : List (List ℕ)) (s state next : List (List ℕ)) (n : ℕ) → 0 < n → state ≡ after_round w s (n - 1) → next ≡ round w n state
    → next ≡ after_round w s (n + 1 - 1)
unfolding after_round
after_round_next w s state next zero pos known made = absurd (omega arith)
after_round_next w s state next (suc n) pos known made =
    let e : suc n - 1 ≡ n = omega arith in
    let f : suc n + 1 - 1 ≡ suc n = omega arith in
    let g : state ≡ after_round w s n = known ∙ ap (after_round w s) e in
    rw f (made ∙ ap (round w (suc n)) g)
