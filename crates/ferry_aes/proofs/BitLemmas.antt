-- Bits of bytes, and lanes of vectors.
use Rattle.std.proofs.Common.{◌≡◌, Bool, true, false, ℕ, zero, suc, ◌+◌, ◌-◌, ◌*◌, ◌/◌, ◌%◌, ◌^◌, ◌<◌, ◌&&◌, T, eqb, List, []}
use Rattle.std.proofs.Common.{◌∷◌, ◌++◌, length, get_or, bit_xor, bit_and, refl, sym, ap, ◌∙◌, arith, eqb→eq, ltb-true, ltb-false, subst}
use Rattle.std.specs.Prelude.{◌==◌, if◌then◌else◌, ltb}
use Rattle.std.proofs.Math.Nat.{pow-suc, mul_assoc}
use lib.Dec.{ltb→lt}
use lib.Ieee.Fits.{and_l, and_r}
use Rattle.std.specs.Int.{bit_at}
use Rattle.std.specs.Simd.Lanes.{number_l, zip2, pick_l}
use Rattle.std.proofs.lemmas.List.{get_or_append_left, get_or-map}
use Rattle.std.proofs.lemmas.Nat.Bits.{bit_at_xor, bit_at_and, bit_at_lowest, bit_at-suc}
use Rattle.std.proofs.lemmas.Nat.{xor_lt}
use Rattle.std.proofs.lemmas.Simd.{get_or-zip2}
use Rattle.ferry_aes.specs.Circuit.{add_bits, multiply_bits}
use Rattle.ferry_aes.specs.Planes.{wire}
use Rattle.ferry_aes.proofs.Tables.{all_below, every_below}

-- ---- each of the numbers below 4, below 8, and below 16

pub below_4 : (P : ℕ → Type 0) → P 0 → P 1 → P 2 → P 3 → (k : ℕ) → k < 4 → P k
below_4 P p0 p1 p2 p3 zero l = p0
below_4 P p0 p1 p2 p3 (suc zero) l = p1
below_4 P p0 p1 p2 p3 (suc (suc zero)) l = p2
below_4 P p0 p1 p2 p3 (suc (suc (suc zero))) l = p3
below_4 P p0 p1 p2 p3 (suc (suc (suc (suc k)))) l = absurd (omega arith)

pub below_8 : (P : ℕ → Type 0) → P 0 → P 1 → P 2 → P 3 → P 4 → P 5 → P 6 → P 7 → (k : ℕ) → k < 8 → P k
below_8 P p0 p1 p2 p3 p4 p5 p6 p7 zero l = p0
below_8 P p0 p1 p2 p3 p4 p5 p6 p7 (suc zero) l = p1
below_8 P p0 p1 p2 p3 p4 p5 p6 p7 (suc (suc zero)) l = p2
below_8 P p0 p1 p2 p3 p4 p5 p6 p7 (suc (suc (suc zero))) l = p3
below_8 P p0 p1 p2 p3 p4 p5 p6 p7 (suc (suc (suc (suc zero)))) l = p4
below_8 P p0 p1 p2 p3 p4 p5 p6 p7 (suc (suc (suc (suc (suc zero))))) l = p5
below_8 P p0 p1 p2 p3 p4 p5 p6 p7 (suc (suc (suc (suc (suc (suc zero)))))) l = p6
below_8 P p0 p1 p2 p3 p4 p5 p6 p7 (suc (suc (suc (suc (suc (suc (suc zero))))))) l = p7
below_8 P p0 p1 p2 p3 p4 p5 p6 p7 (suc (suc (suc (suc (suc (suc (suc (suc k)))))))) l = absurd (omega arith)

pub below_16 : (P : ℕ → Type 0) → P 0 → P 1 → P 2 → P 3 → P 4 → P 5 → P 6 → P 7 → P 8 → P 9 → P 10 → P 11 → P 12 → P 13 → P 14 → P 15 → (k : ℕ)
    → k < 16 → P k
below_16 P p0 p1 p2 p3 p4 p5 p6 p7 p8 p9 p10 p11 p12 p13 p14 p15 zero l = p0
below_16 P p0 p1 p2 p3 p4 p5 p6 p7 p8 p9 p10 p11 p12 p13 p14 p15 (suc zero) l = p1
below_16 P p0 p1 p2 p3 p4 p5 p6 p7 p8 p9 p10 p11 p12 p13 p14 p15 (suc (suc zero)) l = p2
below_16 P p0 p1 p2 p3 p4 p5 p6 p7 p8 p9 p10 p11 p12 p13 p14 p15 (suc (suc (suc zero))) l = p3
below_16 P p0 p1 p2 p3 p4 p5 p6 p7 p8 p9 p10 p11 p12 p13 p14 p15 (suc (suc (suc (suc zero)))) l = p4
below_16 P p0 p1 p2 p3 p4 p5 p6 p7 p8 p9 p10 p11 p12 p13 p14 p15 (suc (suc (suc (suc (suc zero))))) l = p5
below_16 P p0 p1 p2 p3 p4 p5 p6 p7 p8 p9 p10 p11 p12 p13 p14 p15 (suc (suc (suc (suc (suc (suc zero)))))) l = p6
below_16 P p0 p1 p2 p3 p4 p5 p6 p7 p8 p9 p10 p11 p12 p13 p14 p15 (suc (suc (suc (suc (suc (suc (suc zero))))))) l = p7
below_16 P p0 p1 p2 p3 p4 p5 p6 p7 p8 p9 p10 p11 p12 p13 p14 p15 (suc (suc (suc (suc (suc (suc (suc (suc zero)))))))) l = p8
below_16 P p0 p1 p2 p3 p4 p5 p6 p7 p8 p9 p10 p11 p12 p13 p14 p15 (suc (suc (suc (suc (suc (suc (suc (suc (suc zero))))))))) l = p9
below_16 P p0 p1 p2 p3 p4 p5 p6 p7 p8 p9 p10 p11 p12 p13 p14 p15 (suc (suc (suc (suc (suc (suc (suc (suc (suc (suc zero)))))))))) l = p10
below_16 P p0 p1 p2 p3 p4 p5 p6 p7 p8 p9 p10 p11 p12 p13 p14 p15 (suc (suc (suc (suc (suc (suc (suc (suc (suc (suc (suc zero))))))))))) l = p11
below_16 P p0 p1 p2 p3 p4 p5 p6 p7 p8 p9 p10 p11 p12 p13 p14 p15 (suc (suc (suc (suc (suc (suc (suc (suc (suc (suc (suc (suc zero)))))))))))) l = p12
below_16 P p0 p1 p2 p3 p4 p5 p6 p7 p8 p9 p10 p11 p12 p13 p14 p15 (suc (suc (suc (suc (suc (suc (suc (suc (suc (suc (suc (suc (suc zero))))))))))))) l = p13
below_16 P p0 p1 p2 p3 p4 p5 p6 p7 p8 p9 p10 p11 p12 p13 p14 p15 (suc (suc (suc (suc (suc (suc (suc (suc (suc (suc (suc (suc (suc
    (suc zero)))))))))))))) l = p14
below_16 P p0 p1 p2 p3 p4 p5 p6 p7 p8 p9 p10 p11 p12 p13 p14 p15 (suc (suc (suc (suc (suc (suc (suc (suc (suc (suc (suc (suc (suc (suc
    (suc zero))))))))))))))) l = p15
below_16 P p0 p1 p2 p3 p4 p5 p6 p7 p8 p9 p10 p11 p12 p13 p14 p15 (suc (suc (suc (suc (suc (suc (suc (suc (suc (suc (suc (suc (suc (suc (suc
    (suc k)))))))))))))))) l = absurd (omega arith)

-- ---- a byte and its eight bits, the lowest first

abbrev pub bits_of_byte : ℕ → List ℕ
bits_of_byte n = bit_at n 0 ∷ bit_at n 1 ∷ bit_at n 2 ∷ bit_at n 3 ∷ bit_at n 4 ∷ bit_at n 5 ∷ bit_at n 6 ∷ bit_at n 7 ∷ []

pub byte_from_bits : (n : ℕ) → number_l 2 (bits_of_byte n) ≡ n % 256
byte_from_bits n = omega arith

pub bits_of_number : (w0 w1 w2 w3 w4 w5 w6 w7 : ℕ) → w0 < 2 → w1 < 2 → w2 < 2 → w3 < 2 → w4 < 2 → w5 < 2 → w6 < 2 → w7 < 2
    → bits_of_byte (number_l 2 (w0 ∷ w1 ∷ w2 ∷ w3 ∷ w4 ∷ w5 ∷ w6 ∷ w7 ∷ [])) ≡ (w0 ∷ w1 ∷ w2 ∷ w3 ∷ w4 ∷ w5 ∷ w6 ∷ w7 ∷ [])
bits_of_number w0 w1 w2 w3 w4 w5 w6 w7 wh0 wh1 wh2 wh3 wh4 wh5 wh6 wh7 =
    let n = number_l 2 (w0 ∷ w1 ∷ w2 ∷ w3 ∷ w4 ∷ w5 ∷ w6 ∷ w7 ∷ []) in
    let e0 : bit_at n 0 ≡ w0 = omega arith in
    let e1 : bit_at n 1 ≡ w1 = omega arith in
    let e2 : bit_at n 2 ≡ w2 = omega arith in
    let e3 : bit_at n 3 ≡ w3 = omega arith in
    let e4 : bit_at n 4 ≡ w4 = omega arith in
    let e5 : bit_at n 5 ≡ w5 = omega arith in
    let e6 : bit_at n 6 ≡ w6 = omega arith in
    let e7 : bit_at n 7 ≡ w7 = omega arith in
    rw (e0, e1, e2, e3, e4, e5, e6, e7) refl

pub number_of_bits-lt : (w0 w1 w2 w3 w4 w5 w6 w7 : ℕ) → w0 < 2 → w1 < 2 → w2 < 2 → w3 < 2 → w4 < 2 → w5 < 2 → w6 < 2 → w7 < 2 → number_l 2 (w0 ∷ w1
    ∷ w2 ∷ w3 ∷ w4 ∷ w5 ∷ w6 ∷ w7 ∷ []) < 256
number_of_bits-lt w0 w1 w2 w3 w4 w5 w6 w7 wh0 wh1 wh2 wh3 wh4 wh5 wh6 wh7 = omega arith

-- what the checker finds at each byte holds of each eight bits
pub byte_by_bits : (f : List ℕ → List ℕ) (g : ℕ → ℕ) → T (all_below (λ b. eqb (number_l 2 (f (bits_of_byte b))) (g b)) 256)
    → (w0 w1 w2 w3 w4 w5 w6 w7 : ℕ) → w0 < 2 → w1 < 2 → w2 < 2 → w3 < 2 → w4 < 2 → w5 < 2 → w6 < 2 → w7 < 2
    → number_l 2 (f (w0 ∷ w1 ∷ w2 ∷ w3 ∷ w4 ∷ w5 ∷ w6 ∷ w7 ∷ [])) ≡ g (number_l 2 (w0 ∷ w1 ∷ w2 ∷ w3 ∷ w4 ∷ w5 ∷ w6 ∷ w7 ∷ []))
byte_by_bits f g all w0 w1 w2 w3 w4 w5 w6 w7 wh0 wh1 wh2 wh3 wh4 wh5 wh6 wh7 =
    let n = number_l 2 (w0 ∷ w1 ∷ w2 ∷ w3 ∷ w4 ∷ w5 ∷ w6 ∷ w7 ∷ []) in
    let e = bits_of_number w0 w1 w2 w3 w4 w5 w6 w7 wh0 wh1 wh2 wh3 wh4 wh5 wh6 wh7 in
    let h = eqb→eq _ _ (every_below (λ b. eqb (number_l 2 (f (bits_of_byte b))) (g b)) 256 all n
    (number_of_bits-lt w0 w1 w2 w3 w4 w5 w6 w7 wh0 wh1 wh2 wh3 wh4 wh5 wh6 wh7)) in
    subst (λ xs. number_l 2 (f xs) ≡ g n) e h

-- a sum of bytes, bit by bit

sum_bit : (a b x y k : ℕ) → bit_at a k ≡ x → bit_at b k ≡ y → bit_at (bit_xor a b) k ≡ (x + y) % 2
sum_bit a b x y k p q = rw (← p, ← q) (bit_at_xor a b k)

pub byte_of_sums : (w0 w1 w2 w3 w4 w5 w6 w7 v0 v1 v2 v3 v4 v5 v6 v7 : ℕ) → w0 < 2 → w1 < 2 → w2 < 2 → w3 < 2 → w4 < 2 → w5 < 2 → w6 < 2 → w7 < 2
    → v0 < 2 → v1 < 2 → v2 < 2 → v3 < 2 → v4 < 2 → v5 < 2 → v6 < 2 → v7 < 2
    → number_l 2 (add_bits w0 v0 ∷ add_bits w1 v1 ∷ add_bits w2 v2 ∷ add_bits w3 v3 ∷ add_bits w4 v4 ∷ add_bits w5 v5 ∷ add_bits w6 v6 ∷ add_bits w7 v7 ∷ [])
    ≡ bit_xor (number_l 2 (w0 ∷ w1 ∷ w2 ∷ w3 ∷ w4 ∷ w5 ∷ w6 ∷ w7 ∷ [])) (number_l 2 (v0 ∷ v1 ∷ v2 ∷ v3 ∷ v4 ∷ v5 ∷ v6 ∷ v7 ∷ []))
unfolding add_bits
byte_of_sums w0 w1 w2 w3 w4 w5 w6 w7 v0 v1 v2 v3 v4 v5 v6 v7 wh0 wh1 wh2 wh3 wh4 wh5 wh6 wh7 vh0 vh1 vh2 vh3 vh4 vh5 vh6 vh7 =
    let a = number_l 2 (w0 ∷ w1 ∷ w2 ∷ w3 ∷ w4 ∷ w5 ∷ w6 ∷ w7 ∷ []) in
    let b = number_l 2 (v0 ∷ v1 ∷ v2 ∷ v3 ∷ v4 ∷ v5 ∷ v6 ∷ v7 ∷ []) in
    let low : bit_xor a b < 256 = xor_lt 8 a b (omega arith) (omega arith) in
    let whole = byte_from_bits (bit_xor a b) in
    let a0 : bit_at a 0 ≡ w0 = omega arith in
    let b0 : bit_at b 0 ≡ v0 = omega arith in
    let e0 : bit_at (bit_xor a b) 0 ≡ (w0 + v0) % 2 = sum_bit a b w0 v0 0 a0 b0 in
    let a1 : bit_at a 1 ≡ w1 = omega arith in
    let b1 : bit_at b 1 ≡ v1 = omega arith in
    let e1 : bit_at (bit_xor a b) 1 ≡ (w1 + v1) % 2 = sum_bit a b w1 v1 1 a1 b1 in
    let a2 : bit_at a 2 ≡ w2 = omega arith in
    let b2 : bit_at b 2 ≡ v2 = omega arith in
    let e2 : bit_at (bit_xor a b) 2 ≡ (w2 + v2) % 2 = sum_bit a b w2 v2 2 a2 b2 in
    let a3 : bit_at a 3 ≡ w3 = omega arith in
    let b3 : bit_at b 3 ≡ v3 = omega arith in
    let e3 : bit_at (bit_xor a b) 3 ≡ (w3 + v3) % 2 = sum_bit a b w3 v3 3 a3 b3 in
    let a4 : bit_at a 4 ≡ w4 = omega arith in
    let b4 : bit_at b 4 ≡ v4 = omega arith in
    let e4 : bit_at (bit_xor a b) 4 ≡ (w4 + v4) % 2 = sum_bit a b w4 v4 4 a4 b4 in
    let a5 : bit_at a 5 ≡ w5 = omega arith in
    let b5 : bit_at b 5 ≡ v5 = omega arith in
    let e5 : bit_at (bit_xor a b) 5 ≡ (w5 + v5) % 2 = sum_bit a b w5 v5 5 a5 b5 in
    let a6 : bit_at a 6 ≡ w6 = omega arith in
    let b6 : bit_at b 6 ≡ v6 = omega arith in
    let e6 : bit_at (bit_xor a b) 6 ≡ (w6 + v6) % 2 = sum_bit a b w6 v6 6 a6 b6 in
    let a7 : bit_at a 7 ≡ w7 = omega arith in
    let b7 : bit_at b 7 ≡ v7 = omega arith in
    let e7 : bit_at (bit_xor a b) 7 ≡ (w7 + v7) % 2 = sum_bit a b w7 v7 7 a7 b7 in
    let same : bit_xor a b % 256 ≡ bit_xor a b = omega arith in
    rw (← e0, ← e1, ← e2, ← e3, ← e4, ← e5, ← e6, ← e7) (whole ∙ same)

-- ---- bits that are moved, and chosen

times_twice : (x s : ℕ) → x * 2 ^ suc s ≡ x * 2 ^ s * 2
times_twice x s = ap (λ y. x * y) (pow-suc 2 s) ∙ sym (mul_assoc x (2 ^ s) 2)

bit_at-times_low : (x s i : ℕ) → i < s → bit_at (x * 2 ^ s) i ≡ 0
bit_at-times_low x zero i low = absurd (omega arith)
bit_at-times_low x (suc s) zero low = omega (arith, bit_at_lowest (x * 2 ^ suc s), times_twice x s)
bit_at-times_low x (suc s) (suc i) low =
    let half : x * 2 ^ suc s / 2 ≡ x * 2 ^ s = omega (arith, times_twice x s) in
    bit_at-suc (x * 2 ^ suc s) i ∙ ap (λ y. bit_at y i) half ∙ bit_at-times_low x s i (omega arith)

bit_at-times : (x s i : ℕ) → bit_at (x * 2 ^ s) (s + i) ≡ bit_at x i
bit_at-times x zero i =
    let none : x * 2 ^ 0 ≡ x = omega arith in
    let same : 0 + i ≡ i = omega arith in
    rw (none, same) refl
bit_at-times x (suc s) i =
    let half : x * 2 ^ suc s / 2 ≡ x * 2 ^ s = omega (arith, times_twice x s) in
    let next : suc s + i ≡ suc (s + i) = omega arith in
    ap (bit_at (x * 2 ^ suc s)) next ∙ bit_at-suc (x * 2 ^ suc s) (s + i) ∙ ap (λ y. bit_at y (s + i)) half ∙ bit_at-times x s i

-- the bits of a byte are those of the number that it is cut of
bit_at-cut : (y i : ℕ) → i < 8 → bit_at (y % 256) i ≡ bit_at y i
bit_at-cut y i bit = below_8 (λ k. bit_at (y % 256) k ≡ bit_at y k)
    (omega arith) (omega arith) (omega arith) (omega arith) (omega arith) (omega arith) (omega arith) (omega arith) i bit

pub bit_at-raised : (x s i : ℕ) → i < 8 → bit_at (x * 2 ^ s % 256) i ≡ if ltb i s then 0 else bit_at x (i - s)
bit_at-raised x s i bit = bit_at-cut (x * 2 ^ s) i bit ∙ by_side (ltb i s) refl
  where
    by_side : (below : Bool) → ltb i s ≡ below → bit_at (x * 2 ^ s) i ≡ if below then 0 else bit_at x (i - s)
    by_side true h = bit_at-times_low x s i (ltb-true i s h)
    by_side false h =
        let from = ltb-false i s h in
        let moved : i ≡ s + (i - s) = omega arith in
        ap (bit_at (x * 2 ^ s)) moved ∙ bit_at-times x s (i - s)

pub choice_of_bits : (a b m : ℕ) → a < 2 → b < 2 → m < 2 → add_bits (multiply_bits a m) (multiply_bits b (1 - m)) ≡ if m == 1 then a else b
unfolding add_bits multiply_bits
choice_of_bits a b zero a_bit b_bit m_bit = omega arith
choice_of_bits a b (suc zero) a_bit b_bit m_bit = omega arith
choice_of_bits a b (suc (suc m)) a_bit b_bit m_bit = absurd (omega arith)

-- ---- lanes

pub get_or-picked_at : (n : ℕ) (xs ks : List ℕ) (f : ℕ → ℕ) → length ks ≡ n → T (all_below (λ j. eqb (get_or ks j 0) (f j)) n)
    → (j : ℕ) → j < n → get_or (pick_l 0 xs ks) j 0 ≡ get_or xs (f j) 0
get_or-picked_at n xs ks f many all j within =
    let place : get_or ks j 0 ≡ f j = eqb→eq _ _ (every_below (λ j. eqb (get_or ks j 0) (f j)) n all j within) in
    get_or-map (λ k. get_or xs k 0) ks j 0 0 (omega (arith, many, within)) ∙ ap (λ k. get_or xs k 0) place

pub get_or-picked : (n : ℕ) (v ks : List ℕ) (f : ℕ → ℕ) → length v ≡ n → length ks ≡ n → T (all_below (λ j. eqb (get_or ks j 0) (f j) && ltb (f j) n) n)
    → (j : ℕ) → j < n → get_or (pick_l 0 (v ++ v) ks) j 0 ≡ get_or v (f j) 0
get_or-picked n v ks f long many all j within =
    let here = every_below (λ j. eqb (get_or ks j 0) (f j) && ltb (f j) n) n all j within in
    let place : get_or ks j 0 ≡ f j = eqb→eq _ _ (and_l _ _ here) in
    let low : f j < n = ltb→lt _ _ (and_r (eqb (get_or ks j 0) (f j)) _ here) in
    get_or-map (λ k. get_or (v ++ v) k 0) ks j 0 0 (omega (arith, many, within))
    ∙ ap (λ k. get_or (v ++ v) k 0) place ∙ get_or_append_left v v 0 (f j) (omega (arith, long, low))

pub wire-xor : (n : ℕ) (a b : List ℕ) (j i : ℕ) → length a ≡ n → length b ≡ n → j < n
    → wire (zip2 bit_xor a b) j i ≡ add_bits (wire a j i) (wire b j i)
unfolding add_bits
wire-xor n a b j i long same within =
    ap (λ x. bit_at x i) (get_or-zip2 bit_xor a b j 0 0 0 (omega arith) (omega arith)) ∙ bit_at_xor (get_or a j 0) (get_or b j 0) i

pub wire-and : (n : ℕ) (a b : List ℕ) (j i : ℕ) → length a ≡ n → length b ≡ n → j < n
    → wire (zip2 bit_and a b) j i ≡ multiply_bits (wire a j i) (wire b j i)
unfolding multiply_bits
wire-and n a b j i long same within =
    ap (λ x. bit_at x i) (get_or-zip2 bit_and a b j 0 0 0 (omega arith) (omega arith)) ∙ bit_at_and (get_or a j 0) (get_or b j 0) i
