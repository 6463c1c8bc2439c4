-- Lemmas on specs/Cipher.antt: a block stands for the state that it is copied into.
use Rattle.std.proofs.Common.{◌≡◌, ℕ, zero, suc, ◌-◌, ◌<◌, List, length, refl, arith}
use Rattle.ferry_aes.specs.State.{state_of, block_of}
use Rattle.ferry_aes.specs.Rounds.{sub_bytes, shift_rows, mix_column, mix_columns, add_round_key}
use Rattle.ferry_aes.specs.Cipher.{round, last_round, after_round, cipher}

-- ---- state_of

pub state_of-sub_bytes : (s : List (List ℕ)) → state_of (block_of (sub_bytes s)) ≡ sub_bytes s
unfolding state_of block_of sub_bytes
state_of-sub_bytes s = refl

pub state_of-shift_rows : (s : List (List ℕ)) → state_of (block_of (shift_rows s)) ≡ shift_rows s
unfolding state_of block_of shift_rows
state_of-shift_rows s = refl

pub state_of-mix_columns : (s : List (List ℕ)) → state_of (block_of (mix_columns s)) ≡ mix_columns s
unfolding state_of block_of mix_columns mix_column
state_of-mix_columns s = refl

pub state_of-add_round_key : (w : List (List ℕ)) (n : ℕ) (s : List (List ℕ)) → state_of (block_of (add_round_key w n s)) ≡ add_round_key w n s
unfolding state_of block_of add_round_key
state_of-add_round_key w n s = refl

-- ---- round, last_round

-- a round by four calls that each change a block
pub round_by_blocks : (w : List (List ℕ)) (n : ℕ) (before subbed shifted mixed after : List ℕ)
    → subbed ≡ block_of (sub_bytes (state_of before)) → shifted ≡ block_of (shift_rows (state_of subbed))
    → mixed ≡ block_of (mix_columns (state_of shifted)) → after ≡ block_of (add_round_key w n (state_of mixed))
    → after ≡ block_of (round w n (state_of before))
unfolding round
round_by_blocks w n before subbed shifted mixed after a b c d =
    let e = state_of-sub_bytes (state_of before) in
    let f = state_of-shift_rows (sub_bytes (state_of before)) in
    let g = state_of-mix_columns (shift_rows (sub_bytes (state_of before))) in
    cc

pub last_round_by_blocks : (w : List (List ℕ)) (before subbed shifted after : List ℕ)
    → subbed ≡ block_of (sub_bytes (state_of before)) → shifted ≡ block_of (shift_rows (state_of subbed))
    → after ≡ block_of (add_round_key w 14 (state_of shifted)) → after ≡ block_of (last_round w (state_of before))
unfolding last_round
last_round_by_blocks w before subbed shifted after a b d =
    let e = state_of-sub_bytes (state_of before) in
    let f = state_of-shift_rows (sub_bytes (state_of before)) in
    cc

-- ---- after_round

pub after_round_first : (w : List (List ℕ)) (s : List (List ℕ)) (block : List ℕ) → block ≡ block_of (add_round_key w 0 s) → state_of block ≡ after_round w s 0
unfolding after_round
after_round_first w s block made = let e = state_of-add_round_key w 0 s in cc

state_of-round : (w : List (List ℕ)) (n : ℕ) (s : List (List ℕ)) → state_of (block_of (round w n s)) ≡ round w n s
unfolding round
state_of-round w n s = state_of-add_round_key w n (mix_columns (shift_rows (sub_bytes s)))

pub after_round_more : (w : List (List ℕ)) (s : List (List ℕ)) (block next : List ℕ) (n : ℕ) → 0 < n → state_of block ≡ after_round w s (n - 1)
    → next ≡ block_of (round w n (state_of block)) → state_of next ≡ after_round w s n
unfolding after_round
after_round_more w s block next zero pos known made = absurd (omega arith)
after_round_more w s block next (suc n) pos known made =
    let e : suc n - 1 ≡ n = omega arith in
    let f = state_of-round w (suc n) (state_of block) in
    cc

-- ---- cipher

pub cipher_from_rounds : (w : List (List ℕ)) (input block output : List ℕ) (n : ℕ) → n ≡ 13 → state_of block ≡ after_round w (state_of input) n
    → output ≡ block_of (last_round w (state_of block)) → output ≡ cipher w input
unfolding cipher
cipher_from_rounds w input block output n last known made = cc

pub length-cipher : (w : List (List ℕ)) (input : List ℕ) → length (cipher w input) ≡ 16
unfolding cipher block_of
length-cipher w input = refl
