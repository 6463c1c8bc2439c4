-- Lemmas on specs/Planes.antt: bytes of blocks in bit planes.
use Rattle.std.proofs.Common.{◌≡◌, ℕ, ◌<◌, T, eqb, eqb→eq, List, [], ◌∷◌, get_or, bit_xor, refl, ap, ◌∙◌}
use Rattle.std.specs.Prelude.{slice_index, slice_index_or}
use Rattle.std.specs.Simd.Lanes.{number_l}
use Rattle.std.proofs.lemmas.Nat.Bits.{bit_at-lt}
use Rattle.ferry_aes.specs.Field.{multiply}
use Rattle.ferry_aes.specs.SBox.{sbox}
use Rattle.ferry_aes.specs.Circuit.{add_bits, multiply_bits, first_sums, to_invert, inverse_bits, products, last_sums, circuit}
use Rattle.ferry_aes.specs.Planes.{wire, wires, byte_at}
use Rattle.ferry_aes.specs.declared.substitution.TheConstants.{S_BOX}
use Rattle.ferry_aes.proofs.Tables.{all_below, every_below, S_BOX-at}
use Rattle.ferry_aes.proofs.BitLemmas.{bits_of_byte, byte_by_bits, byte_of_sums, number_of_bits-lt}

-- ---- byte_at

pub byte_at-lt : (p : List (List ℕ)) (j i : ℕ) → byte_at p j i < 256
unfolding byte_at
byte_at-lt p j i =
    number_of_bits-lt
    (wire (slice_index_or p 0 []) j i)
    (wire (slice_index_or p 1 []) j i)
    (wire (slice_index_or p 2 []) j i)
    (wire (slice_index_or p 3 []) j i)
    (wire (slice_index_or p 4 []) j i)
    (wire (slice_index_or p 5 []) j i)
    (wire (slice_index_or p 6 []) j i)
    (wire (slice_index_or p 7 []) j i)
    (bit_at-lt (slice_index (slice_index_or p 0 []) j) i)
    (bit_at-lt (slice_index (slice_index_or p 1 []) j) i)
    (bit_at-lt (slice_index (slice_index_or p 2 []) j) i)
    (bit_at-lt (slice_index (slice_index_or p 3 []) j) i)
    (bit_at-lt (slice_index (slice_index_or p 4 []) j) i)
    (bit_at-lt (slice_index (slice_index_or p 5 []) j) i)
    (bit_at-lt (slice_index (slice_index_or p 6 []) j) i)
    (bit_at-lt (slice_index (slice_index_or p 7 []) j) i)

pub byte_at_is : (p : List (List ℕ)) (j i : ℕ) → byte_at p j i ≡ number_l 2 (wires 8 p j i)
unfolding byte_at
byte_at_is p j i = refl

-- what the checker finds at each byte holds of each byte in planes
pub byte_at_by_bits : (f : List ℕ → List ℕ) (g : ℕ → ℕ) → T (all_below (λ b. eqb (number_l 2 (f (bits_of_byte b))) (g b)) 256)
    → (p : List (List ℕ)) (j i : ℕ) → number_l 2 (f (wires 8 p j i)) ≡ g (byte_at p j i)
unfolding byte_at
byte_at_by_bits f g all p j i =
    byte_by_bits f g all
    (wire (slice_index_or p 0 []) j i)
    (wire (slice_index_or p 1 []) j i)
    (wire (slice_index_or p 2 []) j i)
    (wire (slice_index_or p 3 []) j i)
    (wire (slice_index_or p 4 []) j i)
    (wire (slice_index_or p 5 []) j i)
    (wire (slice_index_or p 6 []) j i)
    (wire (slice_index_or p 7 []) j i)
    (bit_at-lt (slice_index (slice_index_or p 0 []) j) i)
    (bit_at-lt (slice_index (slice_index_or p 1 []) j) i)
    (bit_at-lt (slice_index (slice_index_or p 2 []) j) i)
    (bit_at-lt (slice_index (slice_index_or p 3 []) j) i)
    (bit_at-lt (slice_index (slice_index_or p 4 []) j) i)
    (bit_at-lt (slice_index (slice_index_or p 5 []) j) i)
    (bit_at-lt (slice_index (slice_index_or p 6 []) j) i)
    (bit_at-lt (slice_index (slice_index_or p 7 []) j) i)

byte_at_from_bits : (p r : List (List ℕ)) (f : List ℕ → List ℕ) (g : ℕ → ℕ)
    → T (all_below (λ b. eqb (number_l 2 (f (bits_of_byte b))) (g b)) 256)
    → (j i : ℕ) → wires 8 r j i ≡ f (wires 8 p j i) → byte_at r j i ≡ g (byte_at p j i)
byte_at_from_bits p r f g all j i made =
    let e : byte_at r j i ≡ number_l 2 (wires 8 r j i) = byte_at_is r j i in
    e ∙ ap (number_l 2) made ∙ byte_at_by_bits f g all p j i

-- planes that are the same at one place have the same byte there
pub byte_at-same : (p q : List (List ℕ)) (j k i : ℕ) → wires 8 p j i ≡ wires 8 q k i → byte_at p j i ≡ byte_at q k i
unfolding byte_at
byte_at-same p q j k i same = ap (number_l 2) same

pub byte_at-moved : (p : List (List ℕ)) (r0 r1 r2 r3 r4 r5 r6 r7 : List ℕ) (j k i : ℕ)
    → slice_index r0 j ≡ slice_index (slice_index_or p 0 []) k → slice_index r1 j ≡ slice_index (slice_index_or p 1 []) k
    → slice_index r2 j ≡ slice_index (slice_index_or p 2 []) k → slice_index r3 j ≡ slice_index (slice_index_or p 3 []) k
    → slice_index r4 j ≡ slice_index (slice_index_or p 4 []) k → slice_index r5 j ≡ slice_index (slice_index_or p 5 []) k
    → slice_index r6 j ≡ slice_index (slice_index_or p 6 []) k → slice_index r7 j ≡ slice_index (slice_index_or p 7 []) k
    → byte_at (r0 ∷ r1 ∷ r2 ∷ r3 ∷ r4 ∷ r5 ∷ r6 ∷ r7 ∷ []) j i ≡ byte_at p k i
unfolding byte_at
byte_at-moved p r0 r1 r2 r3 r4 r5 r6 r7 j k i e0 e1 e2 e3 e4 e5 e6 e7 = rw (e0, e1, e2, e3, e4, e5, e6, e7) refl

pub byte_at-added : (p q : List (List ℕ)) (r0 r1 r2 r3 r4 r5 r6 r7 : List ℕ) (j i : ℕ)
    → wire r0 j i ≡ add_bits (wire (slice_index_or p 0 []) j i) (wire (slice_index_or q 0 []) j i)
    → wire r1 j i ≡ add_bits (wire (slice_index_or p 1 []) j i) (wire (slice_index_or q 1 []) j i)
    → wire r2 j i ≡ add_bits (wire (slice_index_or p 2 []) j i) (wire (slice_index_or q 2 []) j i)
    → wire r3 j i ≡ add_bits (wire (slice_index_or p 3 []) j i) (wire (slice_index_or q 3 []) j i)
    → wire r4 j i ≡ add_bits (wire (slice_index_or p 4 []) j i) (wire (slice_index_or q 4 []) j i)
    → wire r5 j i ≡ add_bits (wire (slice_index_or p 5 []) j i) (wire (slice_index_or q 5 []) j i)
    → wire r6 j i ≡ add_bits (wire (slice_index_or p 6 []) j i) (wire (slice_index_or q 6 []) j i)
    → wire r7 j i ≡ add_bits (wire (slice_index_or p 7 []) j i) (wire (slice_index_or q 7 []) j i)
    → byte_at (r0 ∷ r1 ∷ r2 ∷ r3 ∷ r4 ∷ r5 ∷ r6 ∷ r7 ∷ []) j i ≡ bit_xor (byte_at p j i) (byte_at q j i)
unfolding byte_at
byte_at-added p q r0 r1 r2 r3 r4 r5 r6 r7 j i e0 e1 e2 e3 e4 e5 e6 e7 =
    rw (e0, e1, e2, e3, e4, e5, e6, e7)
    (byte_of_sums
    (wire (slice_index_or p 0 []) j i)
    (wire (slice_index_or p 1 []) j i)
    (wire (slice_index_or p 2 []) j i)
    (wire (slice_index_or p 3 []) j i)
    (wire (slice_index_or p 4 []) j i)
    (wire (slice_index_or p 5 []) j i)
    (wire (slice_index_or p 6 []) j i)
    (wire (slice_index_or p 7 []) j i)
    (wire (slice_index_or q 0 []) j i)
    (wire (slice_index_or q 1 []) j i)
    (wire (slice_index_or q 2 []) j i)
    (wire (slice_index_or q 3 []) j i)
    (wire (slice_index_or q 4 []) j i)
    (wire (slice_index_or q 5 []) j i)
    (wire (slice_index_or q 6 []) j i)
    (wire (slice_index_or q 7 []) j i)
    (bit_at-lt (slice_index (slice_index_or p 0 []) j) i)
    (bit_at-lt (slice_index (slice_index_or p 1 []) j) i)
    (bit_at-lt (slice_index (slice_index_or p 2 []) j) i)
    (bit_at-lt (slice_index (slice_index_or p 3 []) j) i)
    (bit_at-lt (slice_index (slice_index_or p 4 []) j) i)
    (bit_at-lt (slice_index (slice_index_or p 5 []) j) i)
    (bit_at-lt (slice_index (slice_index_or p 6 []) j) i)
    (bit_at-lt (slice_index (slice_index_or p 7 []) j) i)
    (bit_at-lt (slice_index (slice_index_or q 0 []) j) i)
    (bit_at-lt (slice_index (slice_index_or q 1 []) j) i)
    (bit_at-lt (slice_index (slice_index_or q 2 []) j) i)
    (bit_at-lt (slice_index (slice_index_or q 3 []) j) i)
    (bit_at-lt (slice_index (slice_index_or q 4 []) j) i)
    (bit_at-lt (slice_index (slice_index_or q 5 []) j) i)
    (bit_at-lt (slice_index (slice_index_or q 6 []) j) i)
    (bit_at-lt (slice_index (slice_index_or q 7 []) j) i))

-- ---- the product by x

abbrev pub doubled_bits : List ℕ → List ℕ
doubled_bits w =
    slice_index w 7 ∷ add_bits (slice_index w 0) (slice_index w 7) ∷ slice_index w 1 ∷ add_bits (slice_index w 2) (slice_index w 7)
    ∷ add_bits (slice_index w 3) (slice_index w 7) ∷ slice_index w 4 ∷ slice_index w 5 ∷ slice_index w 6 ∷ []

doubled_bits-all : T (all_below (λ b. eqb (number_l 2 (doubled_bits (bits_of_byte b))) (multiply 2 b)) 256)
unfolding all_below multiply add_bits
doubled_bits-all = tt

pub doubled_by_bits : (n : ℕ) → n < 256 → number_l 2 (doubled_bits (bits_of_byte n)) ≡ multiply 2 n
doubled_by_bits n low = eqb→eq _ _ (every_below (λ b. eqb (number_l 2 (doubled_bits (bits_of_byte b))) (multiply 2 b)) 256 doubled_bits-all n low)

pub byte_at-doubled : (p : List (List ℕ)) (r1 r3 r4 : List ℕ) (j i : ℕ)
    → wire r1 j i ≡ add_bits (wire (slice_index_or p 0 []) j i) (wire (slice_index_or p 7 []) j i)
    → wire r3 j i ≡ add_bits (wire (slice_index_or p 2 []) j i) (wire (slice_index_or p 7 []) j i)
    → wire r4 j i ≡ add_bits (wire (slice_index_or p 3 []) j i) (wire (slice_index_or p 7 []) j i)
    → byte_at (slice_index_or p 7 [] ∷ r1 ∷ slice_index_or p 1 [] ∷ r3 ∷ r4 ∷ slice_index_or p 4 [] ∷ slice_index_or p 5 [] ∷ slice_index_or p 6 [] ∷ []) j i
    ≡ multiply 2 (byte_at p j i)
byte_at-doubled p r1 r3 r4 j i e1 e3 e4 =
    byte_at_from_bits p (slice_index_or p 7 [] ∷ r1 ∷ slice_index_or p 1 [] ∷ r3 ∷ r4 ∷ slice_index_or p 4 [] ∷ slice_index_or p 5 []
    ∷ slice_index_or p 6 [] ∷ [])
    doubled_bits (multiply 2) doubled_bits-all j i (rw (e1, e3, e4) refl)

-- ---- the S-box

circuit-table : T (all_below (λ b. eqb (number_l 2 (circuit (bits_of_byte b))) (get_or S_BOX b 0)) 256)
unfolding all_below circuit first_sums to_invert inverse_bits products last_sums add_bits multiply_bits
circuit-table = tt

pub byte_at-circuit : (p r : List (List ℕ)) (j i : ℕ) → wires 8 r j i ≡ circuit (wires 8 p j i) → byte_at r j i ≡ sbox (byte_at p j i)
byte_at-circuit p r j i made =
    byte_at_from_bits p r circuit (λ b. get_or S_BOX b 0) circuit-table j i made ∙ S_BOX-at (byte_at p j i) (byte_at-lt p j i)
