-- Operators on four words side by side, lane by lane.
use Rattle.std.proofs.Common.{◌≡◌, ℕ, zero, suc, ◌<◌, ◌-◌, ◌*◌, ◌/◌, ◌%◌, ◌^◌, eqb, false, List, [], ◌∷◌, length, slice_set}
use Rattle.std.proofs.Common.{map, replicate, cond, get_or, slice_index, bit_and, bit_or, bit_xor, refl, sym, ap, ap₂, ◌∙◌, arith, w32}
use Rattle.std.specs.Int.{bit_not, rotate_right}
use Rattle.std.specs.Simd.Lanes.{zip2, sel_l, top}
use Rattle.std.proofs.lemmas.Simd.{get_or-sel_l, get_or-zip2, length-zip2, get_or-replicate, length-replicate, tops_compared}
use Rattle.std.proofs.lemmas.List.{get_or-map, length-map}
use Rattle.sha2.specs.Sha256.{ch, maj}
use Rattle.ferry_mac.specs.Lanes.{lane, lane_at}

-- what holds of each of four lanes
pub below_4 : (P : ℕ → Type 0) → P 0 → P 1 → P 2 → P 3 → (l : ℕ) → l < 4 → P l
below_4 P a b c d zero h = a
below_4 P a b c d (suc zero) h = b
below_4 P a b c d (suc (suc zero)) h = c
below_4 P a b c d (suc (suc (suc zero))) h = d
below_4 P a b c d (suc (suc (suc (suc l)))) h = absurd (omega arith)

-- what holds of each of eight words
pub below_8 : (P : ℕ → Type 0) → P 0 → P 1 → P 2 → P 3 → P 4 → P 5 → P 6 → P 7 → (i : ℕ) → i < 8 → P i
below_8 P a b c d e f g h zero lt = a
below_8 P a b c d e f g h (suc zero) lt = b
below_8 P a b c d e f g h (suc (suc zero)) lt = c
below_8 P a b c d e f g h (suc (suc (suc zero))) lt = d
below_8 P a b c d e f g h (suc (suc (suc (suc i)))) lt = below_4 (λ i. P (suc (suc (suc (suc i))))) e f g h i (omega arith)

-- word i of a message
pub slice_index-lane : (state : List (List ℕ)) (l i : ℕ) → i < 8 → slice_index (lane state l) i ≡ lane_at state i l
slice_index-lane state l = below_8 (λ i. slice_index (lane state l) i ≡ lane_at state i l) refl refl refl refl refl refl refl refl

-- an operator on two vectors
module _ (m : ℕ) (f : ℕ → ℕ → ℕ) (x y : List ℕ) (ex : length x ≡ m) (ey : length y ≡ m) where
  pub at-zip2 : (l : ℕ) → l < m → slice_index (zip2 f x y) l ≡ f (slice_index x l) (slice_index y l)
  at-zip2 l h = get_or-zip2 f x y l 0 0 0 (omega arith) (omega arith)

  pub size-zip2 : length (zip2 f x y) ≡ m
  size-zip2 = length-zip2 f x y (ex ∙ sym ey) ∙ ex

-- an operator on a vector and as many times the same number
module _ (m : ℕ) (f : ℕ → ℕ → ℕ) (x : List ℕ) (n : ℕ) (ex : length x ≡ m) where
  pub at-zip2_splat : (l : ℕ) → l < m → slice_index (zip2 f x (replicate m n)) l ≡ f (slice_index x l) n
  at-zip2_splat l h = at-zip2 m f x (replicate m n) ex (length-replicate m n) l h ∙ ap (f (slice_index x l)) (get_or-replicate m l n 0 h)

-- two shifts and an or are a rotation
pub at-rotated : (m : ℕ) (x : List ℕ) (k l : ℕ) → length x ≡ m → 0 < k → k < 32 → l < m
    → slice_index (zip2 bit_or (zip2 (λ a n. a / 2 ^ n) x (replicate m k)) (zip2 (λ a n. a * 2 ^ n % 2 ^ 32) x (replicate m (32 - k)))) l
    ≡ rotate_right w32 (slice_index x l) k
at-rotated m x k l ex low high h =
    let right = λ (a n : ℕ). a / 2 ^ n in
    let left = λ (a n : ℕ). a * 2 ^ n % 2 ^ 32 in
    let near : k % 32 ≡ k = omega arith in
    let far : (32 - k) % 32 ≡ 32 - k = omega arith in
    at-zip2 m bit_or _ _
    (size-zip2 m right x (replicate m k) ex (length-replicate m k))
    (size-zip2 m left x (replicate m (32 - k)) ex (length-replicate m (32 - k))) l h
    ∙ ap₂ bit_or (at-zip2_splat m right x k ex l h) (at-zip2_splat m left x (32 - k) ex l h)
    ∙ rw (near, far) refl

-- three vectors under xor
pub at-xor_of_three : (m : ℕ) (x y z : List ℕ) (l : ℕ) → length x ≡ m → length y ≡ m → length z ≡ m → l < m
    → slice_index (zip2 bit_xor (zip2 bit_xor x y) z) l ≡ bit_xor (bit_xor (slice_index x l) (slice_index y l)) (slice_index z l)
at-xor_of_three m x y z l ex ey ez h =
    at-zip2 m bit_xor _ z (size-zip2 m bit_xor x y ex ey) ez l h ∙ ap (λ n. bit_xor n (slice_index z l)) (at-zip2 m bit_xor x y ex ey l h)

pub at-ch : (m : ℕ) (x y z : List ℕ) (l : ℕ) → length x ≡ m → length y ≡ m → length z ≡ m → l < m
    → slice_index (zip2 bit_xor (zip2 bit_and x y) (zip2 bit_and (map (bit_not w32) x) z)) l
    ≡ ch (slice_index x l) (slice_index y l) (slice_index z l)
at-ch m x y z l ex ey ez h =
    let en : length (map (bit_not w32) x) ≡ m = length-map x (bit_not w32) ∙ ex in
    let negated : slice_index (map (bit_not w32) x) l ≡ bit_not w32 (slice_index x l) = get_or-map (bit_not w32) x l 0 0 (omega arith) in
    at-zip2 m bit_xor _ _ (size-zip2 m bit_and x y ex ey) (size-zip2 m bit_and (map (bit_not w32) x) z en ez) l h
    ∙ ap₂ bit_xor (at-zip2 m bit_and x y ex ey l h)
    (at-zip2 m bit_and (map (bit_not w32) x) z en ez l h ∙ ap (λ n. bit_and n (slice_index z l)) negated)

pub at-maj : (m : ℕ) (x y z : List ℕ) (l : ℕ) → length x ≡ m → length y ≡ m → length z ≡ m → l < m
    → slice_index (zip2 bit_xor (zip2 bit_xor (zip2 bit_and x y) (zip2 bit_and x z)) (zip2 bit_and y z)) l
    ≡ maj (slice_index x l) (slice_index y l) (slice_index z l)
at-maj m x y z l ex ey ez h =
    at-xor_of_three m _ _ _ l (size-zip2 m bit_and x y ex ey) (size-zip2 m bit_and x z ex ez) (size-zip2 m bit_and y z ey ez) h
    ∙ ap₂ bit_xor (ap₂ bit_xor (at-zip2 m bit_and x y ex ey l h) (at-zip2 m bit_and x z ex ez l h)) (at-zip2 m bit_and y z ey ez l h)

-- the lane of the one vector where the number is 1, and else of the other
pub at-selected : (m : ℕ) (going x y : List ℕ) (l : ℕ) → length going ≡ m → length x ≡ m → length y ≡ m → l < m
    → slice_index (sel_l (map (top 31) (zip2 (λ a b. cond (eqb a b) (2 ^ 32 - 1) 0) going (replicate m 1))) x y) l
    ≡ cond (eqb (slice_index going l) 1) (slice_index x l) (slice_index y l)
at-selected m going x y l eg ex ey h =
    let ms = zip2 eqb going (replicate m 1) in
    let em : length ms ≡ m = length-zip2 eqb going (replicate m 1) (eg ∙ sym (length-replicate m 1)) ∙ eg in
    let one : get_or {A = ℕ} (replicate m 1) l 0 ≡ 1 = get_or-replicate m l 1 0 h in
    let test : get_or ms l false ≡ eqb (slice_index going l) 1 =
    get_or-zip2 eqb going (replicate m 1) l 0 0 false (omega arith)
    (let long : length {A = ℕ} (replicate m 1) ≡ m = length-replicate m 1 in omega arith) ∙ ap (eqb (slice_index going l)) one in
    ap (λ m. slice_index (sel_l m x y) l) (tops_compared w32 eqb going (replicate m 1))
    ∙ get_or-sel_l ms x y l 0 (omega arith) (omega arith) (omega arith)
    ∙ ap (λ b. cond b (slice_index x l) (slice_index y l)) test

-- a message's words where all eight vectors are put anew
pub lane-set_eight : (v : List (List ℕ)) (a b c d e f g h : List ℕ) (l : ℕ) → length v ≡ 8
    → lane (slice_set (slice_set (slice_set (slice_set (slice_set (slice_set (slice_set (slice_set v 0 a) 1 b) 2 c) 3 d) 4 e) 5 f) 6 g) 7 h) l
    ≡ slice_index a l ∷ slice_index b l ∷ slice_index c l ∷ slice_index d l
    ∷ slice_index e l ∷ slice_index f l ∷ slice_index g l ∷ slice_index h l ∷ []
lane-set_eight (v0 ∷ v1 ∷ v2 ∷ v3 ∷ v4 ∷ v5 ∷ v6 ∷ v7 ∷ []) a b c d e f g h l long = refl
lane-set_eight [] a b c d e f g h l long = absurd (omega arith)
lane-set_eight (v0 ∷ []) a b c d e f g h l long = absurd (omega arith)
lane-set_eight (v0 ∷ v1 ∷ []) a b c d e f g h l long = absurd (omega arith)
lane-set_eight (v0 ∷ v1 ∷ v2 ∷ []) a b c d e f g h l long = absurd (omega arith)
lane-set_eight (v0 ∷ v1 ∷ v2 ∷ v3 ∷ []) a b c d e f g h l long = absurd (omega arith)
lane-set_eight (v0 ∷ v1 ∷ v2 ∷ v3 ∷ v4 ∷ []) a b c d e f g h l long = absurd (omega arith)
lane-set_eight (v0 ∷ v1 ∷ v2 ∷ v3 ∷ v4 ∷ v5 ∷ []) a b c d e f g h l long = absurd (omega arith)
lane-set_eight (v0 ∷ v1 ∷ v2 ∷ v3 ∷ v4 ∷ v5 ∷ v6 ∷ []) a b c d e f g h l long = absurd (omega arith)
lane-set_eight (v0 ∷ v1 ∷ v2 ∷ v3 ∷ v4 ∷ v5 ∷ v6 ∷ v7 ∷ v8 ∷ vs) a b c d e f g h l long = absurd (omega arith)
