-- Lemmas on specs/Planes.antt: the halves of wide planes.
use Rattle.std.proofs.Common.{◌≡◌, ℕ, zero, suc, ◌+◌, ◌*◌, ◌<◌, List, [], ◌++◌, ◌≤◌, map, length, take, drop, get_or, refl, sym, ap, ap₂, ◌∙◌, arith}
use Rattle.std.proofs.lemmas.List.{get_or-take, get_or-drop, get_or_append_left}
use Rattle.std.proofs.lemmas.List.FromFn.{fill_by_all}
use Rattle.std.proofs.lemmas.Simd.{length-chunk}
use Rattle.std.specs.List.{range_with_len}
use Rattle.std.specs.Prelude.{slice_index_or}
use Rattle.std.specs.Int.{bit_at}
use Rattle.ferry_aes.specs.Planes.{wire, byte_at, state_at, half, IsRoundKey}
use Rattle.ferry_aes.proofs.BitLemmas.{below_8}
use Rattle.ferry_aes.proofs.ByteLemmas.{byte_at-same}
use Rattle.ferry_aes.proofs.PlanesLemmas.{AreTransposed, state_by-same}

-- a lane of a part of a plane
lane-part : (xs : List ℕ) (m j : ℕ) → j < 16 → get_or (take 16 (drop m xs)) j 0 ≡ get_or xs (m + j) 0
lane-part xs m j lane = get_or-take 16 (drop m xs) j 0 lane ∙ get_or-drop m xs j 0

pub plane-part : (m : ℕ) (xs : List ℕ) → length xs ≡ 32 → m ≤ 16
    → map (λ k. get_or (xs ++ xs) (m + k) 0) (range_with_len 0 16) ≡ take 16 (drop m xs)
plane-part m xs long room =
    sym (fill_by_all (λ k. get_or (xs ++ xs) (m + k) 0) (take 16 (drop m xs)) 16 0 (omega (arith, length-chunk m 16 xs (omega (arith, long))))
    (λ k lane. lane-part xs m k lane ∙ sym (get_or_append_left xs xs 0 (m + k) (omega arith))))

pub wire-half : (h : ℕ) (p : List (List ℕ)) (k j i : ℕ) → k < 8 → j < 16
    → wire (slice_index_or (half h p) k []) j i ≡ wire (slice_index_or p k []) (16 * h + j) i
unfolding half
wire-half h p k j i plane lane =
    below_8 (λ k. wire (slice_index_or (half h p) k []) j i ≡ wire (slice_index_or p k []) (16 * h + j) i)
    (ap (λ x. bit_at x i) (lane-part (slice_index_or p 0 []) (16 * h) j lane)) (ap (λ x. bit_at x i) (lane-part (slice_index_or p 1 []) (16 * h) j lane))
    (ap (λ x. bit_at x i) (lane-part (slice_index_or p 2 []) (16 * h) j lane)) (ap (λ x. bit_at x i) (lane-part (slice_index_or p 3 []) (16 * h) j lane))
    (ap (λ x. bit_at x i) (lane-part (slice_index_or p 4 []) (16 * h) j lane)) (ap (λ x. bit_at x i) (lane-part (slice_index_or p 5 []) (16 * h) j lane))
    (ap (λ x. bit_at x i) (lane-part (slice_index_or p 6 []) (16 * h) j lane)) (ap (λ x. bit_at x i) (lane-part (slice_index_or p 7 []) (16 * h) j lane))
    k plane

pub byte_at-half : (h : ℕ) (p : List (List ℕ)) (j i : ℕ) → j < 16 → byte_at (half h p) j i ≡ byte_at p (16 * h + j) i
byte_at-half h p j i lane =
    let e0 = wire-half h p 0 j i (omega arith) lane in
    let e1 = wire-half h p 1 j i (omega arith) lane in
    let e2 = wire-half h p 2 j i (omega arith) lane in
    let e3 = wire-half h p 3 j i (omega arith) lane in
    let e4 = wire-half h p 4 j i (omega arith) lane in
    let e5 = wire-half h p 5 j i (omega arith) lane in
    let e6 = wire-half h p 6 j i (omega arith) lane in
    let e7 = wire-half h p 7 j i (omega arith) lane in
    byte_at-same (half h p) p j (16 * h + j) i (rw (e0, e1, e2, e3, e4, e5, e6, e7) refl)

pub byte_at-low_half : (p : List (List ℕ)) (j i x : ℕ) → j < 16 → byte_at p j i ≡ x → byte_at (half 0 p) j i ≡ x
byte_at-low_half p j i x lane is =
    let place : 16 * 0 + j ≡ j = omega arith in
    byte_at-half 0 p j i lane ∙ ap (λ k. byte_at p k i) place ∙ is

-- ---- what holds of each byte of wide planes holds of each half

pub half-moved : (p q : List (List ℕ)) (h j k i : ℕ) → j < 16 → k < 16 → byte_at q (16 * h + j) i ≡ byte_at p (16 * h + k) i
    → byte_at (half h q) j i ≡ byte_at (half h p) k i
half-moved p q h j k i lane place same = byte_at-half h q j i lane ∙ same ∙ sym (byte_at-half h p k i place)

pub half-one : (f : ℕ → ℕ) (p q : List (List ℕ)) (h j i : ℕ) → j < 16 → byte_at q (16 * h + j) i ≡ f (byte_at p (16 * h + j) i)
    → byte_at (half h q) j i ≡ f (byte_at (half h p) j i)
half-one f p q h j i lane made = byte_at-half h q j i lane ∙ made ∙ ap f (sym (byte_at-half h p j i lane))

pub half-two : (f : ℕ → ℕ → ℕ) (a b q : List (List ℕ)) (h j i : ℕ) → j < 16
    → byte_at q (16 * h + j) i ≡ f (byte_at a (16 * h + j) i) (byte_at b (16 * h + j) i)
    → byte_at (half h q) j i ≡ f (byte_at (half h a) j i) (byte_at (half h b) j i)
half-two f a b q h j i lane made =
    byte_at-half h q j i lane ∙ made ∙ ap₂ f (sym (byte_at-half h a j i lane)) (sym (byte_at-half h b j i lane))

pub transposed-half : (made x : List (List ℕ)) (h : ℕ) → h < 2
    → ((k i j : ℕ) → k < 8 → i < 8 → j < 32 → wire (slice_index_or made k []) j i ≡ wire (slice_index_or x i []) j k) → AreTransposed (half h made) (half h x)
transposed-half made x h side moved k i j plane block lane =
    wire-half h made k j i plane lane ∙ moved k i (16 * h + j) plane block (omega arith) ∙ sym (wire-half h x i j k block lane)

-- bytes that are the same make states that are the same
pub state_at-same : (p q : List (List ℕ)) (i : ℕ) → ((j : ℕ) → j < 16 → byte_at q j i ≡ byte_at p j i) → state_at q i ≡ state_at p i
unfolding state_at
state_at-same p q i each =
    state_by-same (λ r c. byte_at q (4 * r + c) i) (λ r c. byte_at p (4 * r + c) i) (λ r c row column. each (4 * r + c) (omega arith))

pub round_key-same : (w : List (List ℕ)) (n : ℕ) (p q : List (List ℕ)) → ((j i : ℕ) → j < 16 → byte_at q j i ≡ byte_at p j i) → IsRoundKey w n p
    → IsRoundKey w n q
round_key-same w n p q each key r c i row column block = each (4 * r + c) i (omega arith) ∙ key r c i row column block

-- the same round key in both halves
pub round_key-halves : (w : List (List ℕ)) (n : ℕ) (key wide : List (List ℕ)) → ((j i : ℕ) → j < 16 → byte_at (half 0 wide) j i ≡ byte_at key j i)
    → ((j i : ℕ) → j < 16 → byte_at (half 1 wide) j i ≡ byte_at key j i) → IsRoundKey w n key → (h : ℕ) → h < 2 → IsRoundKey w n (half h wide)
round_key-halves w n key wide low high made zero side = round_key-same w n key (half 0 wide) low made
round_key-halves w n key wide low high made (suc zero) side = round_key-same w n key (half 1 wide) high made
round_key-halves w n key wide low high made (suc (suc h)) side = absurd (omega (arith, side))
