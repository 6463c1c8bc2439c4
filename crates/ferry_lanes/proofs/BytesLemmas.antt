-- Lemmas on specs/Bytes.antt, and on lists of bytes that are compared place by place.
use Rattle.std.proofs.Common.{◌≡◌, ◌≢◌, ℕ, ◌+◌, ◌<◌, ◌≤◌, min, List, [], ◌∷◌}
use Rattle.std.proofs.Common.{length, get_or, take, bit_xor, All, refl, sym, ap, ◌==◌, eq-eqb, ◌∙◌}
use Rattle.std.proofs.Common.{below_more, arith}
use lib.Bits.{or_comm, xor_assoc, xor_self, xor_zero_r, xor_zero_l}
use Rattle.std.specs.Prelude.{bit_or}
use Rattle.std.specs.Int.{bit_at}
use Rattle.std.specs.List.{zip}
use Rattle.std.proofs.lemmas.List.{length-map, length-take, get_or-map, get_or-take, get_or_default, ext_get_or}
use Rattle.std.proofs.lemmas.Bool.{ne_eqb}
use Rattle.std.proofs.lemmas.List.Folds.{length-prefix_len}
use Rattle.std.proofs.lemmas.List.Sums.{prefix_len_is}
use Rattle.std.proofs.lemmas.Nat.Bits.{bit_at_or, bit_at-zero, same_from_bits}
use Rattle.std.proofs.lemmas.Slice.Zip.{length-zip, get_or-zip}
use Rattle.ferry_lanes.specs.Bytes.{xor_lists, leading_zeros}

-- ---- xor_lists

pub length-xor_lists : (xs ys : List ℕ) → length (xor_lists xs ys) ≡ min (length xs) (length ys)
length-xor_lists xs ys = length-map (zip xs ys) (λ p. bit_xor p.0 p.1) ∙ length-zip xs ys

pub get_or-xor_lists : (xs ys : List ℕ) (k : ℕ) → k < length xs → length xs ≡ length ys → get_or (xor_lists xs ys) k 0 ≡ bit_xor (get_or xs k 0) (get_or ys k 0)
get_or-xor_lists xs ys k within same =
    get_or-map (λ p. bit_xor p.0 p.1) (zip xs ys) k (0, 0) 0 (omega (arith, length-zip xs ys))
    ∙ ap (λ p. bit_xor p.0 p.1) (get_or-zip xs ys k (0, 0) within (omega arith))

pub xor_lists_by_places : (xs ys zs : List ℕ) → length xs ≡ length ys → length zs ≡ length xs
    → ((k : ℕ) → k < length zs → get_or zs k 0 ≡ bit_xor (get_or xs k 0) (get_or ys k 0)) → zs ≡ xor_lists xs ys
xor_lists_by_places xs ys zs same long each =
    ext_get_or 0 zs (xor_lists xs ys) (omega (arith, length-xor_lists xs ys)) (λ k l. each k l ∙ sym (get_or-xor_lists xs ys k (omega arith) same))

xor_twice : (a b : ℕ) → bit_xor (bit_xor a b) b ≡ a
xor_twice a b = xor_assoc a b b ∙ ap (bit_xor a) (xor_self b) ∙ xor_zero_r a

-- what is added twice is gone
pub xor_lists_twice : (xs ys : List ℕ) → length xs ≡ length ys → xor_lists (xor_lists xs ys) ys ≡ xs
xor_lists_twice [] ys same = refl
xor_lists_twice (x ∷ xs) [] same = absurd (omega arith)
xor_lists_twice (x ∷ xs) (y ∷ ys) same = rw (xor_twice x y, xor_lists_twice xs ys (omega arith)) refl

-- ---- leading_zeros

pub leading_zeros_at : (xs : List ℕ) (n : ℕ) → n ≤ length xs → ((k : ℕ) → k < n → get_or xs k 0 ≡ 0) → (n < length xs → get_or xs n 0 ≢ 0)
    → n ≡ leading_zeros xs
leading_zeros_at xs n within zeros end =
    let e = prefix_len_is (λ byte. byte == 0) xs n 0 within (λ k l. eq-eqb (get_or xs k 0) 0 (zeros k l)) (λ l. ne_eqb (get_or xs n 0) 0 (end l)) in
    sym (length-prefix_len (λ byte. byte == 0) xs ∙ e)

-- zero bytes in front, one by one, and as a fact on the front
pub zeros_in_front : (xs : List ℕ) (n : ℕ) → ((k : ℕ) → k < n → get_or xs k 0 ≡ 0) → All (λ byte. byte ≡ 0) (take n xs)
zeros_in_front xs n each k d within =
    let inside : k < n = omega (arith, length-take n xs) in
    get_or-take n xs k d inside ∙ get_or_default xs k d 0 (omega (arith, length-take n xs)) ∙ each k inside

-- ---- equal lists

-- two bytes whose xor is 0 are equal
equal_from_xor : (a b : ℕ) → bit_xor a b ≡ 0 → a ≡ b
equal_from_xor a b none = sym (xor_twice a b) ∙ ap (λ x. bit_xor x b) none ∙ xor_zero_l b

-- where the or is 0, so are both
zero_from_or_left : (a b : ℕ) → bit_or a b ≡ 0 → a ≡ 0
zero_from_or_left a b none =
    same_from_bits a 0 (λ i.
    let e = bit_at_or a b i in
    let f : bit_at (bit_or a b) i ≡ bit_at 0 i = ap (λ x. bit_at x i) none in
    let z = bit_at-zero i in
    omega arith)

-- the bytes of two lists differ below i exactly where the or of their xors is not 0
abbrev pub EqualBelow : List ℕ → List ℕ → ℕ → Type 0
EqualBelow xs ys i = (k : ℕ) → k < i → get_or xs k 0 ≡ get_or ys k 0

abbrev pub TellsEqualBelow : List ℕ → List ℕ → ℕ → ℕ → Type 0
TellsEqualBelow xs ys i difference = (difference ≡ 0 → EqualBelow xs ys i) × (EqualBelow xs ys i → difference ≡ 0)

pub tells_more : (xs ys : List ℕ) (i difference a b : ℕ) → TellsEqualBelow xs ys i difference → a ≡ get_or xs i 0 → b ≡ get_or ys i 0
    → TellsEqualBelow xs ys (i + 1) (bit_or difference (bit_xor a b))
tells_more xs ys i difference a b so_far is_a is_b = (
  λ none. below_more _ i (so_far.0 (zero_from_or_left difference (bit_xor a b) none))
      (sym is_a ∙ equal_from_xor a b (zero_from_or_left (bit_xor a b) difference (or_comm (bit_xor a b) difference ∙ none)) ∙ is_b),
  λ equal.
      let d : difference ≡ 0 = so_far.1 (λ k l. equal k (omega arith)) in
      let e : a ≡ b = is_a ∙ equal i (omega arith) ∙ sym is_b in
      rw (d, e, xor_self) refl,
)

pub equal_at_end : (xs ys : List ℕ) (i difference : ℕ) → length xs ≡ length ys → i ≡ length xs → TellsEqualBelow xs ys i difference
    → (difference ≡ 0 → xs ≡ ys) × (xs ≡ ys → difference ≡ 0)
equal_at_end xs ys i difference same end told = (
  λ none. ext_get_or 0 xs ys same (λ k l. told.0 none k (omega arith)),
  λ equal. told.1 (λ k l. ap (λ zs. get_or zs k 0) equal),
)
