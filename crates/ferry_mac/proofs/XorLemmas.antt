-- Lemmas on the xor of lists, for the loops that write one.
use Rattle.std.proofs.Common.{◌≡◌, ℕ, zero, suc, ◌+◌, ◌<◌, List, [], ◌∷◌, ◌++◌, length, map, take, drop, replicate, get_or, set, bit_xor, refl, ap, add-one}
use Rattle.std.proofs.Common.{arith}
use Rattle.std.specs.Simd.Lanes.{zip2}

map_over_suc : (f : ℕ → ℕ) (xs : List ℕ) (i : ℕ) → i < length xs
    → set (map f (take i xs) ++ drop i xs) i (f (get_or (map f (take i xs) ++ drop i xs) i 0)) ≡ map f (take (suc i) xs) ++ drop (suc i) xs
map_over_suc f [] i within = absurd (omega arith)
map_over_suc f (x ∷ xs) zero within = refl
map_over_suc f (x ∷ xs) (suc i) within = ap (λ rest. f x ∷ rest) (map_over_suc f xs i (omega arith))

-- a loop that writes f x over each element x of xs
pub map_over_more : (f : ℕ → ℕ) (xs : List ℕ) (i : ℕ) → i < length xs
    → set (map f (take i xs) ++ drop i xs) i (f (get_or (map f (take i xs) ++ drop i xs) i 0)) ≡ map f (take (i + 1) xs) ++ drop (i + 1) xs
map_over_more f xs i within = rw (add-one i) (map_over_suc f xs i within)

zip2_over_suc : (f : ℕ → ℕ → ℕ) (xs ys : List ℕ) (i : ℕ) → i < length xs → i < length ys
    → set (zip2 f (take i xs) (take i ys) ++ drop i xs) i (f (get_or (zip2 f (take i xs) (take i ys) ++ drop i xs) i 0) (get_or ys i 0))
    ≡ zip2 f (take (suc i) xs) (take (suc i) ys) ++ drop (suc i) xs
zip2_over_suc f [] ys i in_xs in_ys = absurd (omega arith)
zip2_over_suc f (x ∷ xs) [] i in_xs in_ys = absurd (omega arith)
zip2_over_suc f (x ∷ xs) (y ∷ ys) zero in_xs in_ys = refl
zip2_over_suc f (x ∷ xs) (y ∷ ys) (suc i) in_xs in_ys =
    ap (λ rest. f x y ∷ rest) (zip2_over_suc f xs ys i (omega arith) (omega arith))

-- a loop that writes f x y over each element x of xs, where y is the element of ys at its place
pub zip2_over_more : (f : ℕ → ℕ → ℕ) (xs ys : List ℕ) (i : ℕ) → i < length xs → i < length ys
    → set (zip2 f (take i xs) (take i ys) ++ drop i xs) i (f (get_or (zip2 f (take i xs) (take i ys) ++ drop i xs) i 0) (get_or ys i 0))
    ≡ zip2 f (take (i + 1) xs) (take (i + 1) ys) ++ drop (i + 1) xs
zip2_over_more f xs ys i in_xs in_ys = rw (add-one i) (zip2_over_suc f xs ys i in_xs in_ys)

-- zeros leave a list as it is
pub zip2-bit_xor-zeros : (xs : List ℕ) → zip2 bit_xor (replicate (length xs) 0) xs ≡ xs
zip2-bit_xor-zeros [] = refl
zip2-bit_xor-zeros (x ∷ xs) = ap (λ rest. x ∷ rest) (zip2-bit_xor-zeros xs)
