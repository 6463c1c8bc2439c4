-- Lemmas on specs/State.antt and specs/Rounds.antt: a block of 16 bytes and its state.
use Rattle.std.proofs.Common.{◌≡◌, ℕ, ◌+◌, ◌*◌, ◌/◌, ◌%◌, ◌<◌, ◌≤◌, List, [], ◌++◌, length, map, take, drop, arith, get_or, bit_xor, refl, ap, ◌∙◌}
use Rattle.std.proofs.lemmas.List.{append-nil, take_all, drop_all}
use Rattle.std.proofs.lemmas.List.FromFn.{fill_by_all}
use Rattle.ferry_aes.specs.SBox.{sbox}
use Rattle.ferry_aes.specs.State.{word, state_of, block_of}
use Rattle.ferry_aes.specs.Rounds.{sub_bytes, add_round_key}

-- ---- block_of

-- a block is the one that its state is copied into
pub block_of-state_of : (xs : List ℕ) → length xs ≡ 16 → xs ≡ block_of (state_of xs)
unfolding state_of block_of
block_of-state_of xs sixteen = fill_by_all (λ k. get_or xs k 0) xs 16 0 sixteen (λ k l. refl)

-- ---- sub_bytes

-- byte by byte, in any order of the bytes
pub map-sbox : (xs : List ℕ) → length xs ≡ 16 → map sbox xs ≡ block_of (sub_bytes (state_of xs))
unfolding state_of block_of sub_bytes
map-sbox xs sixteen = ap (map sbox) (block_of-state_of xs sixteen)

pub sbox_at_end : (xs ys : List ℕ) (i : ℕ) → length xs ≡ 16 → 16 ≤ i → ys ≡ map sbox (take i xs) ++ drop i xs → ys ≡ block_of (sub_bytes (state_of xs))
sbox_at_end xs ys i sixteen end so_far =
    let all : take i xs ≡ xs = take_all i xs (omega arith) in
    let none : drop i xs ≡ [] = drop_all i xs (omega arith) in
    so_far ∙ rw (all, none, append-nil) (map-sbox xs sixteen)

-- ---- add_round_key

-- byte k of a block with the round key of round n added
abbrev pub key_added : List (List ℕ) → ℕ → List ℕ → ℕ → ℕ
key_added w n xs k = bit_xor (get_or xs k 0) (get_or (word w (4 * n + k / 4)) (k % 4) 0)

pub add_round_key_from_bytes : (w : List (List ℕ)) (n : ℕ) (xs ys : List ℕ) → length ys ≡ 16 → ((k : ℕ) → k < 16 → get_or ys k 0 ≡ key_added w n xs k)
    → ys ≡ block_of (add_round_key w n (state_of xs))
unfolding state_of block_of add_round_key
add_round_key_from_bytes w n xs ys sixteen each = fill_by_all (key_added w n xs) ys 16 0 sixteen each
