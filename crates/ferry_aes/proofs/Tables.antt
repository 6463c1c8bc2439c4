-- Facts on single bytes that the checker computes at each of the 256.
use Rattle.std.proofs.Common.{◌≡◌, ℕ, zero, suc, ◌+◌, ◌-◌, ◌*◌, ◌%◌, ◌<◌, ◌≤◌, Bool, true, ◌&&◌, T, eqb, bit_xor, get_or, subst, inl, inr, arith}
use Rattle.std.proofs.Common.{eq-zero-or-pos, eqb→eq}
use lib.Ieee.Fits.{and_l, and_r}
use Rattle.ferry_aes.specs.Field.{multiply, power}
use Rattle.ferry_aes.specs.SBox.{inverse, affine_bit, affine, sbox}
use Rattle.ferry_aes.specs.declared.substitution.TheConstants.{S_BOX}
use Rattle.ferry_aes.specs.declared.expansion.TheConstants.{ROUND_CONSTANTS}

-- the test passes at each number below n
unfoldable pub all_below : (ℕ → Bool) → ℕ → Bool
all_below p zero = true
all_below p (suc n) = p n && all_below p n

pub every_below : (p : ℕ → Bool) (n : ℕ) → T (all_below p n) → (i : ℕ) → i < n → T (p i)
unfolding all_below
every_below p zero h i l = absurd (omega arith)
every_below p (suc n) h i l =
    elim (eq-zero-or-pos (n - i)) [
      | inl z ↦ let e : n ≡ i = omega arith in subst (λ x. T (p x)) e (and_l _ _ h)
      | inr g ↦ every_below p n (and_r (p n) _ h) i (omega arith)
    ]

-- the table of the code has the S-box value at each byte
S_BOX-all : T (all_below (λ b. eqb (get_or S_BOX b 0) (sbox b)) 256)
unfolding all_below multiply inverse affine_bit affine sbox
S_BOX-all = tt

pub S_BOX-at : (b : ℕ) → b < 256 → get_or S_BOX b 0 ≡ sbox b
S_BOX-at b l = eqb→eq _ _ (every_below (λ x. eqb (get_or S_BOX x 0) (sbox x)) 256 S_BOX-all b l)

-- ---- the product by x, as XTIMES of FIPS 197, section 4.2, and by x + 1

doubled_low-all : T (all_below (λ b. eqb (b * 2 % 256) (multiply 2 b)) 128)
unfolding all_below multiply
doubled_low-all = tt

doubled_high-all : T (all_below (λ d. eqb (bit_xor ((128 + d) * 2 % 256) 27) (multiply 2 (128 + d))) 128)
unfolding all_below multiply
doubled_high-all = tt

tripled-all : T (all_below (λ b. eqb (bit_xor (multiply 2 b) b) (multiply 3 b)) 256)
unfolding all_below multiply
tripled-all = tt

pub doubled_low : (b : ℕ) → b < 128 → b * 2 % 256 ≡ multiply 2 b
doubled_low b l = eqb→eq _ _ (every_below (λ x. eqb (x * 2 % 256) (multiply 2 x)) 128 doubled_low-all b l)

pub doubled_high : (b : ℕ) → 128 ≤ b → b < 256 → bit_xor (b * 2 % 256) 27 ≡ multiply 2 b
doubled_high b low high =
    let P : ℕ → Type 0 = λ x. bit_xor (x * 2 % 256) 27 ≡ multiply 2 x in
    let e : 128 + (b - 128) ≡ b = omega arith in
    subst P e (eqb→eq _ _ (every_below (λ d. eqb (bit_xor ((128 + d) * 2 % 256) 27) (multiply 2 (128 + d))) 128 doubled_high-all (b - 128) (omega arith)))

pub tripled : (b : ℕ) → b < 256 → bit_xor (multiply 2 b) b ≡ multiply 3 b
tripled b l = eqb→eq _ _ (every_below (λ x. eqb (bit_xor (multiply 2 x) x) (multiply 3 x)) 256 tripled-all b l)

-- ---- the round constants

ROUND_CONSTANTS-all : T (all_below (λ j. eqb (get_or ROUND_CONSTANTS j 0) (power 2 j)) 7)
unfolding all_below multiply power
ROUND_CONSTANTS-all = tt

pub ROUND_CONSTANTS-at : (j : ℕ) → j < 7 → get_or ROUND_CONSTANTS j 0 ≡ power 2 j
ROUND_CONSTANTS-at j l = eqb→eq _ _ (every_below (λ x. eqb (get_or ROUND_CONSTANTS x 0) (power 2 x)) 7 ROUND_CONSTANTS-all j l)
