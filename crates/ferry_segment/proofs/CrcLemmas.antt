-- The division of specs/Crc.antt, a byte at a time: eight bits of one register are linear, so the table of the
-- remainders of single bytes gives them for every register.
use Rattle.std.proofs.Common.{◌≡◌, ℕ, zero, suc, ◌+◌, ◌-◌, ◌*◌, ◌/◌, ◌%◌, ◌^◌, ◌<◌, ◌≤◌, Bool, true, false, ◌&&◌, T, eqb, List, [], ◌∷◌, ◌++◌, length, take}
use Rattle.std.proofs.Common.{drop, get_or, bit_and, bit_xor, fold, refl, sym, ◌∙◌, ap, subst, inl, inr, arith, eqb-true, eq-zero-or-pos}
use Rattle.std.specs.List.{flat_map}
use Rattle.std.specs.Int.Bits.{xor_assoc, xor_zero_l, xor_zero_r}
use Rattle.std.proofs.lemmas.Nat.{xor_shr, xor_mod, xor_comm, xor_block, and_mask, mod-pow-add}
use Rattle.std.proofs.Math.Nat.{pow-suc, mul_assoc}
use Rattle.std.proofs.lemmas.List.{append-nil, drop_more, drop_all, drop-drop, take-append-drop}
use lib.Ieee.Fits.{and_l, and_r}
use Rattle.std.proofs.lemmas.List.Concat.{flat_map-append}
use Rattle.std.proofs.lemmas.List.Sums.{fold-append}
use Rattle.ferry_segment.specs.declared.remainders.TheConstants.{AFTER_8, AFTER_16, AFTER_24, AFTER_32, AFTER_40, AFTER_48, AFTER_56, AFTER_64, AFTER_72}
use Rattle.ferry_segment.specs.declared.remainders.TheConstants.{AFTER_80, AFTER_88, AFTER_96, AFTER_104, AFTER_112, AFTER_120, AFTER_128}
use Rattle.ferry_segment.specs.Crc.{polynomial, all_ones, low_bits, bits_of, reduced, reduced_by, after_bit, register_after, crc, crc_more}

-- ---- reduced

-- what stands above the lowest place isn't touched by the subtraction
reduced-xor : (h r : ℕ) → reduced (bit_xor (h * 2) r) ≡ bit_xor h (reduced r)
reduced-xor h r =
    let halved : bit_xor (h * 2) r / 2 ≡ bit_xor h (r / 2) = xor_shr (h * 2) r 1 ∙ ap (λ n. bit_xor n (r / 2)) (omega arith) in
    let lowest : bit_xor (h * 2) r % 2 ≡ r % 2 =
    xor_mod (h * 2) r 1 ∙ (ap (λ n. bit_xor n (r % 2)) (let e : h * 2 % 2 ≡ 0 = omega arith in e) ∙ xor_zero_l (r % 2)) in
    (ap (λ n. bit_xor n (bit_xor (h * 2) r % 2 * polynomial)) halved ∙ ap (λ n. bit_xor (bit_xor h (r / 2)) (n * polynomial)) lowest)
    ∙ xor_assoc h (r / 2) (r % 2 * polynomial)

-- ---- eight bits

-- a number is its high part moved up, with its low part
parted : (x : ℕ) → x ≡ bit_xor (x / 256 * 2 ^ 8) (x % 256)
parted x =
    let below : x % 256 < 2 ^ 8 = omega arith in
    sym (sym (ap (λ k. bit_xor (x / 256 * 2 ^ 8) k) (let e : 0 * 2 ^ 8 + x % 256 ≡ x % 256 = omega arith in e))
    ∙ (ap (λ k. bit_xor k (0 * 2 ^ 8 + x % 256)) (let e : x / 256 * 2 ^ 8 ≡ x / 256 * 2 ^ 8 + 0 = omega arith in e)
    ∙ (xor_block 8 (x / 256) 0 0 (x % 256) (omega arith) below
    ∙ (ap (λ k. k * 2 ^ 8 + bit_xor 0 (x % 256)) (xor_zero_r (x / 256))
    ∙ (ap (λ k. x / 256 * 2 ^ 8 + k) (xor_zero_l (x % 256)) ∙ (let e : x / 256 * 2 ^ 8 + x % 256 ≡ x = omega arith in e))))))

-- the low bits of a number: those above the lowest, and the lowest
low_part : (n b : ℕ) → b % 2 ^ suc n ≡ bit_xor ((b / 2 % 2 ^ n) * 2) (b % 2)
low_part n b =
    let high = b / 2 % 2 ^ n in
    let split : b % 2 ^ suc n ≡ high * 2 + b % 2 = ap (λ k. b % 2 ^ k) (let e : suc n ≡ n + 1 = omega arith in e) ∙ mod-pow-add b n 1 in
    let block : bit_xor (high * 2 ^ 1 + 0) (0 * 2 ^ 1 + b % 2) ≡ bit_xor high 0 * 2 ^ 1 + bit_xor 0 (b % 2) =
    xor_block 1 high 0 0 (b % 2) (omega arith) (omega arith) in
    let joined : bit_xor (high * 2) (b % 2) ≡ high * 2 + b % 2 =
    ap (λ k. bit_xor k (b % 2)) (let e : high * 2 ≡ high * 2 ^ 1 + 0 = omega arith in e)
    ∙ (ap (λ k. bit_xor (high * 2 ^ 1 + 0) k) (let e : b % 2 ≡ 0 * 2 ^ 1 + b % 2 = omega arith in e)
    ∙ (block ∙ (ap (λ k. k * 2 ^ 1 + bit_xor 0 (b % 2)) (xor_zero_r high) ∙ ap (λ k. high * 2 ^ 1 + k) (xor_zero_l (b % 2))))) in
    split ∙ sym joined

-- the high part of a register only moves down
pub reduced_by-xor : (n h r : ℕ) → reduced_by n (bit_xor (h * 2 ^ n) r) ≡ bit_xor h (reduced_by n r)
unfolding reduced_by
reduced_by-xor zero h r = ap (λ k. bit_xor k r) (omega arith)
reduced_by-xor (suc n) h r =
    let e : h * 2 ^ suc n ≡ h * 2 ^ n * 2 = ap (λ k. h * k) (pow-suc 2 n) ∙ sym (mul_assoc h (2 ^ n) 2) in
    ap (λ k. reduced_by n (reduced (bit_xor k r))) e ∙ (ap (reduced_by n) (reduced-xor (h * 2 ^ n) r) ∙ reduced_by-xor n h (reduced r))

-- to divide bits one at a time is to add them all and divide
pub fold-low_bits : (n r b : ℕ) → fold after_bit r (low_bits n b) ≡ reduced_by n (bit_xor r (b % 2 ^ n))
unfolding reduced_by
fold-low_bits zero r b = let e : b % 1 ≡ 0 = omega arith in sym (ap (bit_xor r) e ∙ xor_zero_r r)
fold-low_bits (suc n) r b =
    let high = b / 2 % 2 ^ n in
    let low = b % 2 in
    let parts : b % 2 ^ suc n ≡ bit_xor (high * 2) low = low_part n b in
    let moved : bit_xor r (bit_xor (high * 2) low) ≡ bit_xor (high * 2) (bit_xor r low) =
    sym (xor_assoc r (high * 2) low) ∙ (ap (λ k. bit_xor k low) (xor_comm r (high * 2)) ∙ xor_assoc (high * 2) r low) in
    let step : reduced (bit_xor r (b % 2 ^ suc n)) ≡ bit_xor (reduced (bit_xor r low)) high =
    ap (λ k. reduced (bit_xor r k)) parts ∙ (ap reduced moved ∙ (reduced-xor high (bit_xor r low) ∙ xor_comm high _)) in
    fold-low_bits n (reduced (bit_xor r low)) (b / 2) ∙ sym (ap (reduced_by n) step)

-- the eight bits of a byte
pub after_bits_of : (r b : ℕ) → b < 256 → register_after r (b ∷ []) ≡ reduced_by 8 (bit_xor r b)
unfolding register_after bits_of
after_bits_of r b small =
    let e : b % 2 ^ 8 ≡ b = omega arith in
    ap (fold after_bit r) (append-nil (low_bits 8 b)) ∙ (fold-low_bits 8 r b ∙ ap (λ k. reduced_by 8 (bit_xor r k)) e)

-- ---- the table

all_below : (ℕ → Bool) → ℕ → Bool
all_below p zero = true
all_below p (suc n) = p n && all_below p n

every_below : (p : ℕ → Bool) (n : ℕ) → T (all_below p n) → (i : ℕ) → i < n → T (p i)
unfolding all_below
every_below p zero h i l = absurd (omega arith)
every_below p (suc n) h i l =
    elim (eq-zero-or-pos (n - i)) [
      | inl z ↦ let e : n ≡ i = omega arith in subst (λ x. T (p x)) e (and_l _ _ h)
      | inr g ↦ every_below p n (and_r (p n) _ h) i (omega arith)
    ]

pub is_true : (b : Bool) → T b → b ≡ true
is_true true h = refl
is_true false h = absurd h

-- each place of a table has what so many bits leave of it
pub after_8 : (i : ℕ) → i < 256 → get_or AFTER_8 i 0 ≡ reduced_by 8 i
unfolding reduced_by all_below
after_8 i l = eqb-true _ _ (is_true _ (every_below (λ k. eqb (get_or AFTER_8 k 0) (reduced_by 8 k)) 256 tt i l))

pub after_16 : (i : ℕ) → i < 256 → get_or AFTER_16 i 0 ≡ reduced_by 16 i
unfolding reduced_by all_below
after_16 i l = eqb-true _ _ (is_true _ (every_below (λ k. eqb (get_or AFTER_16 k 0) (reduced_by 16 k)) 256 tt i l))

pub after_24 : (i : ℕ) → i < 256 → get_or AFTER_24 i 0 ≡ reduced_by 24 i
unfolding reduced_by all_below
after_24 i l = eqb-true _ _ (is_true _ (every_below (λ k. eqb (get_or AFTER_24 k 0) (reduced_by 24 k)) 256 tt i l))

pub after_32 : (i : ℕ) → i < 256 → get_or AFTER_32 i 0 ≡ reduced_by 32 i
unfolding reduced_by all_below
after_32 i l = eqb-true _ _ (is_true _ (every_below (λ k. eqb (get_or AFTER_32 k 0) (reduced_by 32 k)) 256 tt i l))

pub after_40 : (i : ℕ) → i < 256 → get_or AFTER_40 i 0 ≡ reduced_by 40 i
unfolding reduced_by all_below
after_40 i l = eqb-true _ _ (is_true _ (every_below (λ k. eqb (get_or AFTER_40 k 0) (reduced_by 40 k)) 256 tt i l))

pub after_48 : (i : ℕ) → i < 256 → get_or AFTER_48 i 0 ≡ reduced_by 48 i
unfolding reduced_by all_below
after_48 i l = eqb-true _ _ (is_true _ (every_below (λ k. eqb (get_or AFTER_48 k 0) (reduced_by 48 k)) 256 tt i l))

pub after_56 : (i : ℕ) → i < 256 → get_or AFTER_56 i 0 ≡ reduced_by 56 i
unfolding reduced_by all_below
after_56 i l = eqb-true _ _ (is_true _ (every_below (λ k. eqb (get_or AFTER_56 k 0) (reduced_by 56 k)) 256 tt i l))

pub after_64 : (i : ℕ) → i < 256 → get_or AFTER_64 i 0 ≡ reduced_by 64 i
unfolding reduced_by all_below
after_64 i l = eqb-true _ _ (is_true _ (every_below (λ k. eqb (get_or AFTER_64 k 0) (reduced_by 64 k)) 256 tt i l))

pub after_72 : (i : ℕ) → i < 256 → get_or AFTER_72 i 0 ≡ reduced_by 72 i
unfolding reduced_by all_below
after_72 i l = eqb-true _ _ (is_true _ (every_below (λ k. eqb (get_or AFTER_72 k 0) (reduced_by 72 k)) 256 tt i l))

pub after_80 : (i : ℕ) → i < 256 → get_or AFTER_80 i 0 ≡ reduced_by 80 i
unfolding reduced_by all_below
after_80 i l = eqb-true _ _ (is_true _ (every_below (λ k. eqb (get_or AFTER_80 k 0) (reduced_by 80 k)) 256 tt i l))

pub after_88 : (i : ℕ) → i < 256 → get_or AFTER_88 i 0 ≡ reduced_by 88 i
unfolding reduced_by all_below
after_88 i l = eqb-true _ _ (is_true _ (every_below (λ k. eqb (get_or AFTER_88 k 0) (reduced_by 88 k)) 256 tt i l))

pub after_96 : (i : ℕ) → i < 256 → get_or AFTER_96 i 0 ≡ reduced_by 96 i
unfolding reduced_by all_below
after_96 i l = eqb-true _ _ (is_true _ (every_below (λ k. eqb (get_or AFTER_96 k 0) (reduced_by 96 k)) 256 tt i l))

pub after_104 : (i : ℕ) → i < 256 → get_or AFTER_104 i 0 ≡ reduced_by 104 i
unfolding reduced_by all_below
after_104 i l = eqb-true _ _ (is_true _ (every_below (λ k. eqb (get_or AFTER_104 k 0) (reduced_by 104 k)) 256 tt i l))

pub after_112 : (i : ℕ) → i < 256 → get_or AFTER_112 i 0 ≡ reduced_by 112 i
unfolding reduced_by all_below
after_112 i l = eqb-true _ _ (is_true _ (every_below (λ k. eqb (get_or AFTER_112 k 0) (reduced_by 112 k)) 256 tt i l))

pub after_120 : (i : ℕ) → i < 256 → get_or AFTER_120 i 0 ≡ reduced_by 120 i
unfolding reduced_by all_below
after_120 i l = eqb-true _ _ (is_true _ (every_below (λ k. eqb (get_or AFTER_120 k 0) (reduced_by 120 k)) 256 tt i l))

pub after_128 : (i : ℕ) → i < 256 → get_or AFTER_128 i 0 ≡ reduced_by 128 i
unfolding reduced_by all_below
after_128 i l = eqb-true _ _ (is_true _ (every_below (λ k. eqb (get_or AFTER_128 k 0) (reduced_by 128 k)) 256 tt i l))

-- a byte by one look-up
pub by_table : (r b : ℕ) → r < 2 ^ 32 → b < 256
    → bit_xor (r / 256) (get_or AFTER_8 (bit_and (bit_xor r b) 255) 0) ≡ register_after r (b ∷ [])
by_table r b _ small =
    let x = bit_xor r b in
    let lowest : bit_and x 255 ≡ x % 256 = and_mask x 8 in
    let below : x % 256 < 256 = omega arith in
    let high : x / 256 ≡ r / 256 = xor_shr r b 8 ∙ (ap (bit_xor (r / 256)) (let e : b / 256 ≡ 0 = omega arith in e) ∙ xor_zero_r (r / 256)) in
    let whole : x ≡ bit_xor (x / 256 * 2 ^ 8) (x % 256) = parted x in
    ap (bit_xor (r / 256)) (ap (λ k. get_or AFTER_8 k 0) lowest ∙ after_8 (x % 256) below)
    ∙ (ap (λ k. bit_xor k (reduced_by 8 (x % 256))) (sym high)
    ∙ (sym (reduced_by-xor 8 (x / 256) (x % 256)) ∙ (ap (reduced_by 8) (sym whole) ∙ sym (after_bits_of r b small))))

-- ---- many bytes

pub register_after-append : (r : ℕ) (xs ys : List ℕ) → register_after r (xs ++ ys) ≡ register_after (register_after r xs) ys
unfolding register_after
register_after-append r xs ys = ap (fold after_bit r) (flat_map-append bits_of xs ys) ∙ fold-append after_bit r (flat_map bits_of xs) (flat_map bits_of ys)

pub register_after-nil : (r : ℕ) → register_after r [] ≡ r
unfolding register_after
register_after-nil r = refl

-- one more byte of what is left
pub register_after_more : (r after : ℕ) (bytes : List ℕ) (i : ℕ) → i < length bytes → after ≡ register_after r (get_or bytes i 0 ∷ [])
    → register_after after (drop (i + 1) bytes) ≡ register_after r (drop i bytes)
register_after_more r after bytes i within e =
    ap (λ k. register_after k (drop (i + 1) bytes)) e
    ∙ (sym (register_after-append r (get_or bytes i 0 ∷ []) (drop (i + 1) bytes))
    ∙ ap (register_after r) (sym (drop_more bytes i 0 within)))

pub register_after_all : (r : ℕ) (bytes : List ℕ) (i : ℕ) → length bytes ≤ i → register_after r (drop i bytes) ≡ r
register_after_all r bytes i past = ap (register_after r) (drop_all i bytes past) ∙ register_after-nil r

-- the register behind three parts
pub register_after_parts : (r a b c : ℕ) (size : List ℕ) (tag : ℕ) (key : List ℕ) → a ≡ register_after r size → b ≡ register_after a (tag ∷ [])
    → c ≡ register_after b key → c ≡ register_after r (size ++ tag ∷ key)
register_after_parts r a b c size tag key p q e =
    e ∙ (ap (λ k. register_after k key) (q ∙ ap (λ k. register_after k (tag ∷ [])) p)
    ∙ (sym (register_after-append (register_after r size) (tag ∷ []) key) ∙ sym (register_after-append r size (tag ∷ key))))

-- ---- sums

bit_times-xor : (a b : ℕ) → a < 2 → b < 2 → bit_xor a b * polynomial ≡ bit_xor (a * polynomial) (b * polynomial)
bit_times-xor zero zero p q = refl
bit_times-xor zero (suc zero) p q = refl
bit_times-xor (suc zero) zero p q = refl
bit_times-xor (suc zero) (suc zero) p q = refl
bit_times-xor zero (suc (suc b)) p q = absurd (omega arith)
bit_times-xor (suc zero) (suc (suc b)) p q = absurd (omega arith)
bit_times-xor (suc (suc a)) b p q = absurd (omega arith)

pub xor_pairs : (a b c d : ℕ) → bit_xor (bit_xor a b) (bit_xor c d) ≡ bit_xor (bit_xor a c) (bit_xor b d)
xor_pairs a b c d = cc (xor_assoc a b (bit_xor c d), xor_assoc b c d, xor_comm b c, xor_assoc c b d, xor_assoc a c (bit_xor b d))

-- the remainder of a sum is the sum of the remainders
pub reduced-sum : (a b : ℕ) → reduced (bit_xor a b) ≡ bit_xor (reduced a) (reduced b)
reduced-sum a b =
    ap (λ k. bit_xor k (bit_xor a b % 2 * polynomial)) (xor_shr a b 1)
    ∙ (ap (λ k. bit_xor (bit_xor (a / 2) (b / 2)) (k * polynomial)) (xor_mod a b 1)
    ∙ (ap (bit_xor (bit_xor (a / 2) (b / 2))) (bit_times-xor (a % 2) (b % 2) (omega arith) (omega arith))
    ∙ xor_pairs (a / 2) (b / 2) (a % 2 * polynomial) (b % 2 * polynomial)))

pub reduced_by-sum : (n a b : ℕ) → reduced_by n (bit_xor a b) ≡ bit_xor (reduced_by n a) (reduced_by n b)
unfolding reduced_by
reduced_by-sum zero a b = refl
reduced_by-sum (suc n) a b = ap (reduced_by n) (reduced-sum a b) ∙ reduced_by-sum n (reduced a) (reduced b)

pub reduced_by-more : (m n r : ℕ) → reduced_by (m + n) r ≡ reduced_by n (reduced_by m r)
unfolding reduced_by
reduced_by-more zero n r = ap (λ k. reduced_by k r) (let e : 0 + n ≡ n = omega arith in e)
reduced_by-more (suc m) n r = ap (λ k. reduced_by k r) (let e : suc m + n ≡ suc (m + n) = omega arith in e) ∙ reduced_by-more m n (reduced r)

-- ---- a word

zero_by_8 : reduced_by 8 0 ≡ 0
unfolding reduced_by
zero_by_8 = refl

-- a number so many powers on: its lowest byte, and what stands above it eight powers less
reduced_by-byte : (n x : ℕ) → reduced_by (8 + n) x ≡ bit_xor (reduced_by (8 + n) (x % 256)) (reduced_by n (x / 256))
reduced_by-byte n x =
    let high : reduced_by 8 (x / 256 * 2 ^ 8) ≡ x / 256 =
    ap (reduced_by 8) (sym (xor_zero_r (x / 256 * 2 ^ 8))) ∙ (reduced_by-xor 8 (x / 256) 0 ∙ (ap (bit_xor (x / 256)) zero_by_8 ∙ xor_zero_r (x / 256))) in
    ap (reduced_by (8 + n)) (parted x)
    ∙ (reduced_by-sum (8 + n) (x / 256 * 2 ^ 8) (x % 256)
    ∙ (ap (λ k. bit_xor k (reduced_by (8 + n) (x % 256))) (reduced_by-more 8 n (x / 256 * 2 ^ 8) ∙ ap (reduced_by n) high)
    ∙ xor_comm (reduced_by n (x / 256)) (reduced_by (8 + n) (x % 256))))

four_sums : (a b c d : ℕ) → bit_xor a (bit_xor b (bit_xor c d)) ≡ bit_xor (bit_xor (bit_xor a b) c) d
four_sums a b c d = cc (xor_assoc a b (bit_xor c d), xor_assoc (bit_xor a b) c d)

word_sum : (x : ℕ) → reduced_by 128 x
    ≡ bit_xor (bit_xor (bit_xor (reduced_by 128 (x % 256)) (reduced_by 120 (x / 256 % 256))) (reduced_by 112 (x / 256 / 256 % 256)))
    (reduced_by 104 (x / 256 / 256 / 256))
word_sum x =
    reduced_by-byte 120 x
    ∙ (ap (bit_xor (reduced_by 128 (x % 256))) (reduced_by-byte 112 (x / 256)
    ∙ ap (bit_xor (reduced_by 120 (x / 256 % 256))) (reduced_by-byte 104 (x / 256 / 256)))
    ∙ four_sums (reduced_by 128 (x % 256)) (reduced_by 120 (x / 256 % 256)) (reduced_by 112 (x / 256 / 256 % 256)) (reduced_by 104 (x / 256 / 256 / 256)))

-- a word by four look-ups
pub word_by_tables : (x : ℕ) → x < 2 ^ 32
    → bit_xor (bit_xor (bit_xor (get_or AFTER_128 (bit_and x 255) 0) (get_or AFTER_120 (bit_and (x / 256) 255) 0))
    (get_or AFTER_112 (bit_and (x / 65536) 255) 0)) (get_or AFTER_104 (x / 16777216) 0)
    ≡ reduced_by 128 x
word_by_tables x small =
    let a : get_or AFTER_128 (bit_and x 255) 0 ≡ reduced_by 128 (x % 256) =
    ap (λ k. get_or AFTER_128 k 0) (and_mask x 8) ∙ after_128 (x % 256) (omega arith) in
    let b : get_or AFTER_120 (bit_and (x / 256) 255) 0 ≡ reduced_by 120 (x / 256 % 256) =
    ap (λ k. get_or AFTER_120 k 0) (and_mask (x / 256) 8) ∙ after_120 (x / 256 % 256) (omega arith) in
    let third : x / 65536 % 256 ≡ x / 256 / 256 % 256 = omega arith in
    let c : get_or AFTER_112 (bit_and (x / 65536) 255) 0 ≡ reduced_by 112 (x / 256 / 256 % 256) =
    ap (λ k. get_or AFTER_112 k 0) (and_mask (x / 65536) 8 ∙ third) ∙ after_112 (x / 256 / 256 % 256) (omega arith) in
    let last : x / 16777216 ≡ x / 256 / 256 / 256 = omega arith in
    let d : get_or AFTER_104 (x / 16777216) 0 ≡ reduced_by 104 (x / 256 / 256 / 256) =
    ap (λ k. get_or AFTER_104 k 0) last ∙ after_104 (x / 256 / 256 / 256) (omega arith) in
    sym (word_sum x ∙ cc)

-- ---- sixteen bytes

abbrev pub sum_from : ℕ → List ℕ → ℕ
sum_from r [] = r
sum_from r (b ∷ bs) = sum_from (bit_xor r (reduced_by (8 * length (b ∷ bs)) b)) bs

-- one byte more, by what eight powers leave
register_after-byte : (r b : ℕ) (bs : List ℕ) → b < 256 → register_after r (b ∷ bs) ≡ register_after (reduced_by 8 (bit_xor r b)) bs
register_after-byte r b bs small = register_after-append r (b ∷ []) bs ∙ ap (λ k. register_after k bs) (after_bits_of r b small)

-- bytes one by one: the register and each of them, so many powers on as bytes are left
register_after-sum : (bs : List ℕ) (r : ℕ) → ((i : ℕ) → get_or bs i 0 < 256) → register_after r bs ≡ sum_from (reduced_by (8 * length bs) r) bs
unfolding reduced_by
register_after-sum [] r small = register_after-nil r
register_after-sum (b ∷ bs) r small =
    let e : 8 + 8 * length bs ≡ 8 * length (b ∷ bs) = omega arith in
    let step : reduced_by (8 * length bs) (reduced_by 8 (bit_xor r b)) ≡ bit_xor (reduced_by (8 * length (b ∷ bs)) r) (reduced_by (8 * length (b ∷ bs)) b) =
    sym (reduced_by-more 8 (8 * length bs) (bit_xor r b)) ∙ (ap (λ k. reduced_by k (bit_xor r b)) e ∙ reduced_by-sum (8 * length (b ∷ bs)) r b) in
    register_after-byte r b bs (small 0)
    ∙ (register_after-sum bs (reduced_by 8 (bit_xor r b)) (λ i. small (suc i))
    ∙ ap (λ k. sum_from k bs) step)

-- bytes as one number, the lowest first
abbrev pub joined : List ℕ → ℕ
joined [] = 0
joined (b ∷ bs) = b + 256 * joined bs

joined-xor : (r b n : ℕ) → b < 256 → bit_xor (n * 2 ^ 8) (bit_xor r b) ≡ bit_xor r (b + 256 * n)
joined-xor r b n small =
    let x = b + 256 * n in
    let low : x % 256 ≡ b = omega arith in
    let high : x / 256 ≡ n = omega arith in
    let whole : x ≡ bit_xor (n * 2 ^ 8) b = parted x ∙ (ap (λ k. bit_xor (k * 2 ^ 8) (x % 256)) high ∙ ap (bit_xor (n * 2 ^ 8)) low) in
    sym (xor_assoc (n * 2 ^ 8) r b) ∙ (ap (λ k. bit_xor k b) (xor_comm (n * 2 ^ 8) r) ∙ (xor_assoc r (n * 2 ^ 8) b ∙ ap (bit_xor r) (sym whole)))

-- bytes that meet the register as one number
pub register_after-joined : (bs : List ℕ) (r : ℕ) → ((i : ℕ) → get_or bs i 0 < 256) → register_after r bs ≡ reduced_by (8 * length bs) (bit_xor r (joined bs))
unfolding reduced_by
register_after-joined [] r small = register_after-nil r ∙ sym (xor_zero_r r)
register_after-joined (b ∷ bs) r small =
    let n = joined bs in
    let e : 8 + 8 * length bs ≡ 8 * length (b ∷ bs) = omega arith in
    register_after-byte r b bs (small 0)
    ∙ (register_after-joined bs (reduced_by 8 (bit_xor r b)) (λ i. small (suc i))
    ∙ (ap (reduced_by (8 * length bs)) (xor_comm (reduced_by 8 (bit_xor r b)) n
    ∙ (sym (reduced_by-xor 8 n (bit_xor r b)) ∙ ap (reduced_by 8) (joined-xor r b n (small 0))))
    ∙ (sym (reduced_by-more 8 (8 * length bs) (bit_xor r (joined (b ∷ bs)))) ∙ ap (λ k. reduced_by k (bit_xor r (joined (b ∷ bs)))) e)))

look : {a b c d : ℕ} → a ≡ c → b ≡ d → bit_xor a b ≡ bit_xor c d
look {a} {b} {c} {d} p q = ap (λ k. bit_xor k b) p ∙ ap (bit_xor c) q

pub first_small : (b : ℕ) (bs : List ℕ) → b < 256 → ((i : ℕ) → get_or bs i 0 < 256) → (i : ℕ) → get_or (b ∷ bs) i 0 < 256
first_small b bs p q zero = p
first_small b bs p q (suc i) = q i

pub none_small : (i : ℕ) → get_or [] i 0 < 256
none_small i = omega arith

-- sixteen bytes: the first four as one word, and the others by look-ups
sixteen_sum : (r w : ℕ) (front back : List ℕ) → length front ≡ 4 → length back ≡ 12 → ((i : ℕ) → get_or front i 0 < 256) → ((i : ℕ) → get_or back i 0 < 256)
    → w ≡ reduced_by 128 (bit_xor r (joined front)) → sum_from w back ≡ register_after r (front ++ back)
sixteen_sum r w front back p q f g e =
    let middle : register_after r front ≡ reduced_by 32 (bit_xor r (joined front)) =
    register_after-joined front r f ∙ ap (λ n. reduced_by (8 * n) (bit_xor r (joined front))) p in
    let whole : reduced_by (8 * length back) (register_after r front) ≡ w =
    ap (λ n. reduced_by (8 * n) (register_after r front)) q
    ∙ (ap (reduced_by 96) middle ∙ (sym (reduced_by-more 32 96 (bit_xor r (joined front))) ∙ sym e)) in
    sym (register_after-append r front back ∙ (register_after-sum back (register_after r front) g ∙ ap (λ k. sum_from k back) whole))

-- the bytes of a list from a place on, so many
abbrev pub listed : ℕ → ℕ → List ℕ → List ℕ
listed zero i bs = []
listed (suc n) i bs = get_or bs i 0 ∷ listed n (suc i) bs

drop-listed : (n i : ℕ) (bs : List ℕ) → length bs ≡ n + i → drop i bs ≡ listed n i bs
drop-listed zero i bs e = drop_all i bs (omega arith)
drop-listed (suc n) i bs e =
    drop_more bs i 0 (omega arith)
    ∙ (ap (λ k. get_or bs i 0 ∷ drop k bs) (let f : i + 1 ≡ suc i = omega arith in f)
    ∙ ap (λ k. get_or bs i 0 ∷ k) (drop-listed n (suc i) bs (omega arith)))

listed_small : (n i : ℕ) (bs : List ℕ) → ((k : ℕ) → get_or bs k 0 < 256) → (k : ℕ) → get_or (listed n i bs) k 0 < 256
listed_small zero i bs h k = none_small k
listed_small (suc n) i bs h k = first_small (get_or bs i 0) (listed n (suc i) bs) (h i) (listed_small n (suc i) bs h) k

-- sixteen bytes by look-ups
pub sixteen_by_tables : (r x w : ℕ) (bs : List ℕ) → length bs ≡ 16 → ((i : ℕ) → get_or bs i 0 < 256)
    → x ≡ get_or bs 0 0 + get_or bs 1 0 * 256 + get_or bs 2 0 * 65536 + get_or bs 3 0 * 16777216 → w ≡ reduced_by 128 (bit_xor r x)
    → bit_xor (bit_xor (bit_xor (bit_xor (bit_xor (bit_xor (bit_xor (bit_xor (bit_xor (bit_xor (bit_xor (bit_xor w
    (get_or AFTER_96 (get_or bs 4 0) 0)) (get_or AFTER_88 (get_or bs 5 0) 0)) (get_or AFTER_80 (get_or bs 6 0) 0))
    (get_or AFTER_72 (get_or bs 7 0) 0)) (get_or AFTER_64 (get_or bs 8 0) 0)) (get_or AFTER_56 (get_or bs 9 0) 0))
    (get_or AFTER_48 (get_or bs 10 0) 0)) (get_or AFTER_40 (get_or bs 11 0) 0)) (get_or AFTER_32 (get_or bs 12 0) 0))
    (get_or AFTER_24 (get_or bs 13 0) 0)) (get_or AFTER_16 (get_or bs 14 0) 0)) (get_or AFTER_8 (get_or bs 15 0) 0)
    ≡ register_after r bs
sixteen_by_tables r x w bs sized small p q =
    let front = listed 4 0 bs in
    let back = listed 12 4 bs in
    let whole : front ++ back ≡ bs = sym (drop-listed 16 0 bs sized) in
    let word : x ≡ joined front = omega arith in
    look (look (look (look
    (look (look (look (look
    (look (look (look (look refl (after_96 (get_or bs 4 0) (small 4))) (after_88 (get_or bs 5 0) (small 5))) (after_80 (get_or bs 6 0) (small 6)))
    (after_72 (get_or bs 7 0) (small 7))) (after_64 (get_or bs 8 0) (small 8))) (after_56 (get_or bs 9 0) (small 9)))
    (after_48 (get_or bs 10 0) (small 10))) (after_40 (get_or bs 11 0) (small 11))) (after_32 (get_or bs 12 0) (small 12)))
    (after_24 (get_or bs 13 0) (small 13))) (after_16 (get_or bs 14 0) (small 14))) (after_8 (get_or bs 15 0) (small 15))
    ∙ (sixteen_sum r w front back refl refl (listed_small 4 0 bs small) (listed_small 12 4 bs small) (q ∙ ap (λ k. reduced_by 128 (bit_xor r k)) word)
    ∙ ap (register_after r) whole)

-- many bytes, some of them at a time
pub register_after_some : (n r after : ℕ) (bytes : List ℕ) (i : ℕ) → after ≡ register_after r (take n (drop i bytes))
    → register_after after (drop (i + n) bytes) ≡ register_after r (drop i bytes)
register_after_some n r after bytes i e =
    ap (λ k. register_after k (drop (i + n) bytes)) e
    ∙ (sym (register_after-append r (take n (drop i bytes)) (drop (i + n) bytes))
    ∙ ap (register_after r) (ap (λ k. take n (drop i bytes) ++ k) (sym (drop-drop n i bytes)) ∙ take-append-drop n (drop i bytes)))

-- ---- crc_more

crc-nil : crc [] ≡ 0
unfolding crc register_after
crc-nil = refl

pub crc_more-none : (bytes : List ℕ) → crc bytes ≡ crc_more 0 bytes
unfolding crc crc_more
crc_more-none bytes = refl

pub crc_more-crc : (front bytes : List ℕ) → crc (front ++ bytes) ≡ crc_more (crc front) bytes
unfolding crc crc_more
crc_more-crc front bytes =
    let r = register_after all_ones front in
    let back : bit_xor (bit_xor r all_ones) all_ones ≡ r = xor_assoc r all_ones all_ones ∙ xor_zero_r r in
    ap (λ k. bit_xor k all_ones) (register_after-append all_ones front bytes ∙ ap (λ k. register_after k bytes) (sym back))
