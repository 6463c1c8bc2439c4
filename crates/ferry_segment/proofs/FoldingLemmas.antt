-- Lemmas on specs/Crc.antt: the register is linear in the bytes, and a multiple of the polynomial with few terms tells where bytes leave the same remainder.
use Rattle.std.proofs.Common.{◌≡◌, ℕ, zero, suc, ◌+◌, ◌-◌, ◌*◌, ◌/◌, ◌%◌, ◌^◌, ◌<◌, ◌≤◌, eqb, List, [], ◌∷◌, ◌++◌, length, take, drop, get_or, bit_xor, fold}
use Rattle.std.proofs.Common.{refl, sym, ◌∙◌, ap, subst, arith, eqb-true}
use Rattle.std.specs.Int.{w32, to_le_bytes}
use Rattle.std.specs.Int.Bits.{xor_assoc, xor_zero_l, xor_zero_r}
use Rattle.std.proofs.lemmas.Nat.{xor_mod, xor_comm}
use Rattle.std.proofs.lemmas.List.{append-nil, drop_all, drop-drop, length-drop, length-append, length-take-le, take-append-drop}
use Rattle.std.proofs.Math.Seq.{drop-append-add, drop-append_seam}
use borrow.Rule.Slice.PartMut.{put_mid}
use Rattle.ferry_lanes.specs.Bytes.{xor_lists}
use Rattle.ferry_segment.proofs.CrcLemmas.{fold-low_bits, is_true, joined, none_small, reduced-sum, reduced_by-more, reduced_by-sum}
use Rattle.ferry_segment.proofs.CrcLemmas.{register_after-append, register_after-joined, register_after-nil, xor_pairs}
use Rattle.ferry_segment.specs.Crc.{after_bit, bits_of, low_bits, reduced, reduced_by, register_after}

-- ---- sums of bytes

byte_after : (r b : ℕ) → register_after r (b ∷ []) ≡ reduced_by 8 (bit_xor r (b % 256))
unfolding register_after bits_of
byte_after r b = ap (fold after_bit r) (append-nil (low_bits 8 b)) ∙ fold-low_bits 8 r b

-- one more byte
byte_first : (r b : ℕ) (bs : List ℕ) → register_after r (b ∷ bs) ≡ register_after (reduced_by 8 (bit_xor r (b % 256))) bs
byte_first r b bs = register_after-append r (b ∷ []) bs ∙ ap (λ k. register_after k bs) (byte_after r b)

-- the register after a sum is the sum of the registers
register_after-both : (xs ys : List ℕ) (r q : ℕ) → length xs ≡ length ys
    → register_after (bit_xor r q) (xor_lists xs ys) ≡ bit_xor (register_after r xs) (register_after q ys)
register_after-both [] [] r q same =
    register_after-nil (bit_xor r q)
    ∙ sym (ap (λ k. bit_xor k (register_after q [])) (register_after-nil r) ∙ ap (bit_xor r) (register_after-nil q))
register_after-both [] (y ∷ ys) r q same = absurd (omega arith)
register_after-both (x ∷ xs) [] r q same = absurd (omega arith)
register_after-both (x ∷ xs) (y ∷ ys) r q same =
    let sum : reduced_by 8 (bit_xor (bit_xor r q) (bit_xor x y % 256)) ≡ bit_xor (reduced_by 8 (bit_xor r (x % 256))) (reduced_by 8 (bit_xor q (y % 256))) =
    ap (λ k. reduced_by 8 (bit_xor (bit_xor r q) k)) (xor_mod x y 8)
    ∙ (ap (reduced_by 8) (xor_pairs r q (x % 256) (y % 256)) ∙ reduced_by-sum 8 (bit_xor r (x % 256)) (bit_xor q (y % 256))) in
    byte_first (bit_xor r q) (bit_xor x y) (xor_lists xs ys)
    ∙ (ap (λ k. register_after k (xor_lists xs ys)) sum
    ∙ (register_after-both xs ys (reduced_by 8 (bit_xor r (x % 256))) (reduced_by 8 (bit_xor q (y % 256))) (omega arith)
    ∙ sym (ap (λ k. bit_xor k (register_after q (y ∷ ys))) (byte_first r x xs)
    ∙ ap (bit_xor (register_after (reduced_by 8 (bit_xor r (x % 256))) xs)) (byte_first q y ys))))

swapped : (r q m : ℕ) → bit_xor (bit_xor r q) m ≡ bit_xor (bit_xor r m) q
swapped r q m = xor_assoc r q m ∙ (ap (bit_xor r) (xor_comm q m) ∙ sym (xor_assoc r m q))

-- what is added to the register moves on as bytes follow
register_after-more : (bs : List ℕ) (r q : ℕ) → register_after (bit_xor r q) bs ≡ bit_xor (register_after r bs) (reduced_by (8 * length bs) q)
unfolding reduced_by
register_after-more [] r q = register_after-nil (bit_xor r q) ∙ sym (ap (λ k. bit_xor k q) (register_after-nil r))
register_after-more (b ∷ bs) r q =
    let e : 8 + 8 * length bs ≡ 8 * length (b ∷ bs) = omega arith in
    let step : reduced_by 8 (bit_xor (bit_xor r q) (b % 256)) ≡ bit_xor (reduced_by 8 (bit_xor r (b % 256))) (reduced_by 8 q) =
    ap (reduced_by 8) (swapped r q (b % 256)) ∙ reduced_by-sum 8 (bit_xor r (b % 256)) q in
    byte_first (bit_xor r q) b bs
    ∙ (ap (λ k. register_after k bs) step
    ∙ (register_after-more bs (reduced_by 8 (bit_xor r (b % 256))) (reduced_by 8 q)
    ∙ (ap (λ k. bit_xor k (reduced_by (8 * length bs) (reduced_by 8 q))) (sym (byte_first r b bs))
    ∙ ap (bit_xor (register_after r (b ∷ bs))) (sym (reduced_by-more 8 (8 * length bs) q) ∙ ap (λ k. reduced_by k q) e))))

-- bytes that are added at a place
pub sum_at : (r at : ℕ) (old with new : List ℕ) → at + length with ≤ length old
    → new ≡ take at old ++ (xor_lists (take (length with) (drop at old)) with ++ drop (at + length with) old)
    → register_after r new ≡ bit_xor (register_after r old) (reduced_by (8 * (length old - (at + length with))) (register_after 0 with))
sum_at r at old with new within is =
    let n = length with in
    let front = take at old in
    let part = take n (drop at old) in
    let back = drop (at + n) old in
    let begun = register_after r front in
    let q = register_after 0 with in
    let sized : length part ≡ n = length-take-le n (drop at old) (omega (arith, length-drop at old)) in
    let behind : length back ≡ length old - (at + n) = length-drop (at + n) old in
    let split : old ≡ front ++ (part ++ back) =
    sym (ap (λ (l : List ℕ). front ++ (part ++ l)) (sym (drop-drop n at old))
    ∙ (ap (λ (l : List ℕ). front ++ l) (take-append-drop n (drop at old)) ∙ take-append-drop at old)) in
    let whole : register_after r old ≡ register_after (register_after begun part) back =
    ap (register_after r) split ∙ (register_after-append r front (part ++ back) ∙ register_after-append begun part back) in
    let added : register_after begun (xor_lists part with) ≡ bit_xor (register_after begun part) q =
    ap (λ k. register_after k (xor_lists part with)) (sym (xor_zero_r begun)) ∙ register_after-both part with begun 0 sized in
    ap (register_after r) is
    ∙ (register_after-append r front (xor_lists part with ++ back)
    ∙ (register_after-append begun (xor_lists part with) back
    ∙ (ap (λ k. register_after k back) added
    ∙ (register_after-more back (register_after begun part) q
    ∙ (ap (λ k. bit_xor k (reduced_by (8 * length back) q)) (sym whole)
    ∙ ap (λ k. bit_xor (register_after r old) (reduced_by (8 * k) q)) behind)))))

-- ---- the multiple

-- so many powers on a register is what it is fewer powers on, added up
abbrev pub IsFolded : ℕ → Type 0
IsFolded x = reduced_by 9600 x ≡ bit_xor (bit_xor (bit_xor (reduced_by 4960 x) (reduced_by 3744 x)) (reduced_by 2848 x)) x

folded_one : IsFolded 1
unfolding reduced_by
folded_one =
    eqb-true _ _ (is_true (eqb (reduced_by 9600 1) (bit_xor (bit_xor (bit_xor (reduced_by 4960 1) (reduced_by 3744 1)) (reduced_by 2848 1)) 1)) tt)

folded_zero : IsFolded 0
unfolding reduced_by
folded_zero =
    eqb-true _ _ (is_true (eqb (reduced_by 9600 0) (bit_xor (bit_xor (bit_xor (reduced_by 4960 0) (reduced_by 3744 0)) (reduced_by 2848 0)) 0)) tt)

folded_bit : (b : ℕ) → b < 2 → IsFolded b
folded_bit zero h = folded_zero
folded_bit (suc zero) h = folded_one
folded_bit (suc (suc b)) h = absurd (omega arith)

four_pairs : (a b c d e f g h : ℕ) → bit_xor (bit_xor (bit_xor (bit_xor a b) (bit_xor c d)) (bit_xor e f)) (bit_xor g h)
    ≡ bit_xor (bit_xor (bit_xor (bit_xor a c) e) g) (bit_xor (bit_xor (bit_xor b d) f) h)
four_pairs a b c d e f g h =
    ap (λ k. bit_xor (bit_xor k (bit_xor e f)) (bit_xor g h)) (xor_pairs a b c d)
    ∙ (ap (λ k. bit_xor k (bit_xor g h)) (xor_pairs (bit_xor a c) (bit_xor b d) e f)
    ∙ xor_pairs (bit_xor (bit_xor a c) e) (bit_xor (bit_xor b d) f) g h)

folded_sum : (x y : ℕ) → IsFolded x → IsFolded y → IsFolded (bit_xor x y)
folded_sum x y p q =
    let both : bit_xor (reduced_by 9600 x) (reduced_by 9600 y)
    ≡ bit_xor (bit_xor (bit_xor (bit_xor (reduced_by 4960 x) (reduced_by 3744 x)) (reduced_by 2848 x)) x)
    (bit_xor (bit_xor (bit_xor (reduced_by 4960 y) (reduced_by 3744 y)) (reduced_by 2848 y)) y) =
    ap (λ k. bit_xor k (reduced_by 9600 y)) p
    ∙ ap (bit_xor (bit_xor (bit_xor (bit_xor (reduced_by 4960 x) (reduced_by 3744 x)) (reduced_by 2848 x)) x)) q in
    reduced_by-sum 9600 x y
    ∙ (both
    ∙ (sym (four_pairs (reduced_by 4960 x) (reduced_by 4960 y) (reduced_by 3744 x) (reduced_by 3744 y) (reduced_by 2848 x) (reduced_by 2848 y) x y)
    ∙ (ap (λ k. bit_xor (bit_xor (bit_xor k (bit_xor (reduced_by 3744 x) (reduced_by 3744 y))) (bit_xor (reduced_by 2848 x) (reduced_by 2848 y)))
    (bit_xor x y)) (sym (reduced_by-sum 4960 x y))
    ∙ (ap (λ k. bit_xor (bit_xor (bit_xor (reduced_by 4960 (bit_xor x y)) k) (bit_xor (reduced_by 2848 x) (reduced_by 2848 y))) (bit_xor x y))
    (sym (reduced_by-sum 3744 x y))
    ∙ ap (λ k. bit_xor (bit_xor (bit_xor (reduced_by 4960 (bit_xor x y)) (reduced_by 3744 (bit_xor x y))) k) (bit_xor x y))
    (sym (reduced_by-sum 2848 x y))))))

reduced_by-reduced : (n r : ℕ) → reduced_by n (reduced r) ≡ reduced (reduced_by n r)
unfolding reduced_by
reduced_by-reduced zero r = refl
reduced_by-reduced (suc n) r = reduced_by-reduced n (reduced r)

folded_on : (x : ℕ) → IsFolded x → IsFolded (reduced x)
folded_on x p =
    let a = reduced_by 4960 x in
    let b = reduced_by 3744 x in
    let c = reduced_by 2848 x in
    reduced_by-reduced 9600 x
    ∙ (ap reduced p
    ∙ (reduced-sum (bit_xor (bit_xor a b) c) x
    ∙ (ap (λ k. bit_xor k (reduced x)) (reduced-sum (bit_xor a b) c ∙ ap (λ k. bit_xor k (reduced c)) (reduced-sum a b))
    ∙ (ap (λ k. bit_xor (bit_xor (bit_xor k (reduced b)) (reduced c)) (reduced x)) (sym (reduced_by-reduced 4960 x))
    ∙ (ap (λ k. bit_xor (bit_xor (bit_xor (reduced_by 4960 (reduced x)) k) (reduced c)) (reduced x)) (sym (reduced_by-reduced 3744 x))
    ∙ ap (λ k. bit_xor (bit_xor (bit_xor (reduced_by 4960 (reduced x)) (reduced_by 3744 (reduced x))) k) (reduced x)) (sym (reduced_by-reduced 2848 x)))))))

folded_bits : (k n r : ℕ) → IsFolded r → IsFolded (fold after_bit r (low_bits k n))
folded_bits zero n r p = p
folded_bits (suc k) n r p =
    folded_bits k (n / 2) (reduced (bit_xor r (n % 2))) (folded_on (bit_xor r (n % 2)) (folded_sum r (n % 2) p (folded_bit (n % 2) (omega arith))))

folded_byte : (r b : ℕ) → IsFolded r → IsFolded (register_after r (b ∷ []))
unfolding register_after bits_of
folded_byte r b p = subst (λ (bits : List ℕ). IsFolded (fold after_bit r bits)) (sym (append-nil (low_bits 8 b))) (folded_bits 8 b r p)

-- the register after any bytes is folded so
folded_bytes : (bs : List ℕ) (r : ℕ) → IsFolded r → IsFolded (register_after r bs)
folded_bytes [] r p = subst IsFolded (sym (register_after-nil r)) p
folded_bytes (b ∷ bs) r p =
    subst IsFolded (sym (register_after-append r (b ∷ []) bs)) (folded_bytes bs (register_after r (b ∷ [])) (folded_byte r b p))

-- ---- bytes that are added behind

-- what one addition leaves
abbrev pub IsSumAt : ℕ → List ℕ → List ℕ → List ℕ → Type 0
IsSumAt at old with new = (r : ℕ) → register_after r new
    ≡ bit_xor (register_after r old) (reduced_by (8 * (length old - (at + length with))) (register_after 0 with))

four_behind : (w a b c d : ℕ) → bit_xor (bit_xor (bit_xor (bit_xor w a) b) c) d ≡ bit_xor w (bit_xor (bit_xor (bit_xor a b) c) d)
four_behind w a b c d = cc (xor_assoc w a b, xor_assoc w (bit_xor a b) c, xor_assoc w (bit_xor (bit_xor a b) c) d)

pub sums_behind : (front old one two three new : List ℕ) → length front ≡ 576 → length old ≡ 1200 → length one ≡ length old → length two ≡ length one
    → length three ≡ length two → IsSumAt 4 old front one → IsSumAt 156 one front two → IsSumAt 268 two front three → IsSumAt 624 three front new
    → register_after 0 new ≡ register_after 0 (front ++ old)
unfolding reduced_by
sums_behind front old one two three new n m l1 l2 l3 s1 s2 s3 s4 =
    let x = register_after 0 front in
    let w = register_after 0 old in
    let e1 : 8 * (length old - (4 + length front)) ≡ 4960 = omega (arith, n, m) in
    let e2 : 8 * (length one - (156 + length front)) ≡ 3744 = omega (arith, n, m, l1) in
    let e3 : 8 * (length two - (268 + length front)) ≡ 2848 = omega (arith, n, m, l1, l2) in
    let e4 : 8 * (length three - (624 + length front)) ≡ 0 = omega (arith, n, m, l1, l2, l3) in
    let e5 : 8 * length old ≡ 9600 = omega (arith, m) in
    let r1 : register_after 0 one ≡ bit_xor w (reduced_by 4960 x) = s1 0 ∙ ap (λ k. bit_xor w (reduced_by k x)) e1 in
    let r2 : register_after 0 two ≡ bit_xor (register_after 0 one) (reduced_by 3744 x) = s2 0 ∙ ap (λ k. bit_xor (register_after 0 one) (reduced_by k x)) e2 in
    let r3 : register_after 0 three ≡ bit_xor (register_after 0 two) (reduced_by 2848 x) =
    s3 0 ∙ ap (λ k. bit_xor (register_after 0 two) (reduced_by k x)) e3 in
    let r4 : register_after 0 new ≡ bit_xor (register_after 0 three) x = s4 0 ∙ ap (λ k. bit_xor (register_after 0 three) (reduced_by k x)) e4 in
    let sum : register_after 0 new ≡ bit_xor (bit_xor (bit_xor (bit_xor w (reduced_by 4960 x)) (reduced_by 3744 x)) (reduced_by 2848 x)) x =
    r4 ∙ ap (λ k. bit_xor k x) (r3 ∙ ap (λ k. bit_xor k (reduced_by 2848 x)) (r2 ∙ ap (λ k. bit_xor k (reduced_by 3744 x)) r1)) in
    sum
    ∙ (four_behind w (reduced_by 4960 x) (reduced_by 3744 x) (reduced_by 2848 x) x
    ∙ (ap (bit_xor w) (sym (folded_bytes front 0 folded_zero))
    ∙ (ap (λ k. bit_xor w (reduced_by k x)) (sym e5)
    ∙ (sym (register_after-more old 0 x)
    ∙ (ap (λ k. register_after k old) (xor_zero_l x) ∙ sym (register_after-append 0 front old))))))

-- more bytes stand behind those that are added to
pub sums_first : (front old sums new : List ℕ) → new ≡ sums ++ drop 1200 old → register_after 0 sums ≡ register_after 0 (front ++ take 1200 old)
    → register_after 0 new ≡ register_after 0 (front ++ old)
sums_first front old sums new is e =
    let back = drop 1200 old in
    let whole : register_after 0 (front ++ old) ≡ register_after (register_after 0 (front ++ take 1200 old)) back =
    register_after-append 0 front old
    ∙ (ap (register_after (register_after 0 front)) (sym (take-append-drop 1200 old))
    ∙ (register_after-append (register_after 0 front) (take 1200 old) back
    ∙ ap (λ k. register_after k back) (sym (register_after-append 0 front (take 1200 old))))) in
    ap (register_after 0) is ∙ (register_after-append 0 sums back ∙ (ap (λ k. register_after k back) e ∙ sym whole))

-- the first bytes of a list are added to those behind them
pub front_folded : (old front behind sums new : List ℕ) → old ≡ front ++ behind → length front ≡ 576 → new ≡ front ++ sums
    → register_after 0 sums ≡ register_after 0 (front ++ behind) → register_after 0 (drop 576 new) ≡ register_after 0 old
front_folded old front behind sums new split n is e =
    let left : drop 576 new ≡ sums =
    ap (drop 576) is ∙ (ap (λ k. drop k (front ++ sums)) (sym n) ∙ drop-append_seam front sums) in
    ap (register_after 0) left ∙ (e ∙ ap (register_after 0) (sym split))

-- what is left of bytes whose rest was changed
pub rest_changed : (at more : ℕ) (old rest new : List ℕ) → at ≤ length old → new ≡ take at old ++ rest → drop (at + more) new ≡ drop more rest
rest_changed at more old rest new within is =
    let n : length (take at old) ≡ at = length-take-le at old within in
    ap (drop (at + more)) is
    ∙ (ap (λ k. drop (k + more) (take at old ++ rest)) (sym n) ∙ drop-append-add (take at old) rest more)

pub rest_put : (at : ℕ) (old rest : List ℕ) → at ≤ length old → length rest ≡ length (take (length old - at) (drop at old))
    → (put_mid at (length old - at) old rest ≡ take at old ++ rest) × (length (take at old ++ rest) ≡ length old)
rest_put at old rest within same =
    let all : length (drop at old) ≡ length old - at = length-drop at old in
    let sized : length rest ≡ length old - at = same ∙ length-take-le (length old - at) (drop at old) (omega (arith, all)) in
    let none : drop (length old - at) (drop at old) ≡ [] = drop_all (length old - at) (drop at old) (omega (arith, all)) in (
      ap (λ (l : List ℕ). take at old ++ (rest ++ l)) none ∙ ap (λ (l : List ℕ). take at old ++ l) (append-nil rest),
      omega (arith, length-append (take at old) rest, length-take-le at old within, sized),
    )

-- ---- a register that is added to the first bytes

joined_le : (n : ℕ) → n < 2 ^ 32 → joined (to_le_bytes w32 n) ≡ n
joined_le n h = omega arith

le_small : (n : ℕ) → n < 2 ^ 32 → (i : ℕ) → get_or (to_le_bytes w32 n) i 0 < 256
le_small n h zero = omega arith
le_small n h (suc zero) = omega arith
le_small n h (suc (suc zero)) = omega arith
le_small n h (suc (suc (suc zero))) = omega arith
le_small n h (suc (suc (suc (suc i)))) = none_small i

register_after-le : (n : ℕ) → n < 2 ^ 32 → register_after 0 (to_le_bytes w32 n) ≡ reduced_by 32 n
register_after-le n h =
    register_after-joined (to_le_bytes w32 n) 0 (le_small n h) ∙ ap (reduced_by 32) (xor_zero_l (joined (to_le_bytes w32 n)) ∙ joined_le n h)

pub register_added : (n : ℕ) (old new : List ℕ) → n < 2 ^ 32 → 4 ≤ length old → IsSumAt 0 old (to_le_bytes w32 n) new
    → register_after 0 new ≡ register_after n old
register_added n old new h some sum =
    let e : 32 + 8 * (length old - 4) ≡ 8 * length old = omega arith in
    sum 0
    ∙ (ap (λ k. bit_xor (register_after 0 old) (reduced_by (8 * (length old - 4)) k)) (register_after-le n h)
    ∙ (ap (bit_xor (register_after 0 old)) (sym (reduced_by-more 32 (8 * (length old - 4)) n) ∙ ap (λ k. reduced_by k n) e)
    ∙ (sym (register_after-more old 0 n) ∙ ap (λ k. register_after k old) (xor_zero_l n))))
