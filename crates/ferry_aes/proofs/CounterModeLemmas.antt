-- Lemmas on specs/CounterMode.antt.
use Rattle.std.proofs.Common.{◌≡◌, ℕ, zero, suc, ◌+◌, ◌-◌, ◌*◌, ◌/◌, ◌%◌, ◌^◌, ◌<◌, ◌≤◌, min}
use Rattle.std.proofs.Common.{List, [], ◌∷◌, ◌++◌, length, take, drop, refl, sym, ap, subst, ◌∙◌, inl}
use Rattle.std.proofs.Common.{inr, arith, length-append}
use borrow.Rule.Slice.PartMut.{put_mid}
use Rattle.std.specs.List.{range_with_len, flat_map}
use Rattle.std.proofs.lemmas.List.{map-id, append-nil, flat_map_more, take_all, drop_all, drop-drop, length-take-le}
use Rattle.std.proofs.lemmas.Grind.{flat_map-append}
use Rattle.std.proofs.lemmas.Slice.{take-put_mid}
use Rattle.std.proofs.Math.Seq.{take-append-add}
use Rattle.std.proofs.lemmas.List.FromFn.{map-range_with_len_more, fill_by_all}
use Rattle.std.proofs.lemmas.Simd.{take_more_put_chunk, Each1-get_or, length-chunk, Each1-chunk, Each1-from_get_or}
use Rattle.std.specs.Simd.Lanes.{put_chunk, Each1}
use Rattle.std.proofs.lemmas.Bool.{cases_lt}
use Rattle.std.specs.Prelude.{slice_index, slice_index_or}
use Rattle.std.specs.Int.{w128, to_be_bytes}
use Rattle.std.proofs.lemmas.List.{append_assoc, take-append-le}
use Rattle.ferry_aes.specs.Cipher.{cipher, piece, each_encrypted}
use Rattle.ferry_aes.specs.CounterMode.{counter_block, output_blocks, key_stream}
use Rattle.ferry_aes.specs.Planes.{block_at, crossed_place, joined_blocks}
use Rattle.ferry_aes.proofs.BitLemmas.{below_16}
use Rattle.ferry_aes.proofs.CipherLemmas.{length-cipher}

-- ---- output_blocks

range_more : (n : ℕ) → range_with_len 0 (n + 1) ≡ range_with_len 0 n ++ n ∷ []
range_more n =
    let e = map-range_with_len_more (λ x. x) 0 n n (omega arith) in
    sym (map-id (range_with_len 0 (n + 1))) ∙ e ∙ ap (λ xs. xs ++ n ∷ []) (map-id (range_with_len 0 n))

pub output_blocks_more : (w : List (List ℕ)) (n count : ℕ) → output_blocks w n (count + 1) ≡ output_blocks w n count ++ cipher w (counter_block (n + count))
unfolding output_blocks
output_blocks_more w n count = rw (range_more count) (sym (flat_map_more (λ j. cipher w (counter_block (n + j))) [] (range_with_len 0 count) count))

pub length-output_blocks : (w : List (List ℕ)) (n count : ℕ) → length (output_blocks w n count) ≡ 16 * count
unfolding output_blocks
length-output_blocks w n zero = refl
length-output_blocks w n (suc count) =
    let P : ℕ → Type 0 = λ m. length (output_blocks w n m) ≡ 16 * m in
    let e : count + 1 ≡ suc count = omega arith in
    let joined = ap length (output_blocks_more w n count) ∙ length-append (output_blocks w n count) (cipher w (counter_block (n + count))) in
    subst P e (omega (arith, joined, length-output_blocks w n count, length-cipher w (counter_block (n + count))))

pub joined_more : (rows : List (List ℕ)) (count : ℕ)
    → flat_map (λ i. block_at rows i) (range_with_len 0 (count + 1)) ≡ flat_map (λ i. block_at rows i) (range_with_len 0 count) ++ block_at rows count
joined_more rows count = rw (range_more count) (sym (flat_map_more (λ i. block_at rows i) [] (range_with_len 0 count) count))

-- ---- counter_block

-- byte t of a number, the lowest first, by single divisions
abbrev pub byte_by_steps : ℕ → ℕ → ℕ
byte_by_steps n zero = n % 256
byte_by_steps n (suc t) = byte_by_steps (n / 256) t

-- the counter as a vector of two words makes it, its bytes by rows
abbrev pub words_by_rows : ℕ → List ℕ
words_by_rows m =
    byte_by_steps m 15 ∷ byte_by_steps m 11 ∷ byte_by_steps m 7 ∷ byte_by_steps m 3 ∷ byte_by_steps m 14 ∷ byte_by_steps m 10 ∷ byte_by_steps m 6
    ∷ byte_by_steps m 2
    ∷ byte_by_steps m 13 ∷ byte_by_steps m 9 ∷ byte_by_steps m 5 ∷ byte_by_steps m 1 ∷ byte_by_steps m 12 ∷ byte_by_steps m 8 ∷ byte_by_steps m 4
    ∷ byte_by_steps m 0 ∷ []

rows_of_counter : (n m : ℕ) → n < 2 ^ 128 → m ≡ n → (j : ℕ) → j < 16 → slice_index (words_by_rows m) j ≡ slice_index (counter_block n) (crossed_place j)
unfolding counter_block
rows_of_counter n m fits same j lane =
    below_16 (λ j. slice_index (words_by_rows m) j ≡ slice_index (counter_block n) (crossed_place j))
    (omega arith) (omega arith) (omega arith) (omega arith) (omega arith) (omega arith) (omega arith) (omega arith)
    (omega arith) (omega arith) (omega arith) (omega arith) (omega arith) (omega arith) (omega arith) (omega arith)
    j lane

pub counter_by_words : (n : ℕ) → n < 2 ^ 128 → (j : ℕ) → j < 16
    → slice_index (words_by_rows (n % 18446744073709551616 + 18446744073709551616 * (n / 18446744073709551616 + 0))) j
    ≡ slice_index (counter_block n) (crossed_place j)
counter_by_words n fits j lane =
    rows_of_counter n (n % 18446744073709551616 + 18446744073709551616 * (n / 18446744073709551616 + 0)) fits (omega arith) j lane

-- the numbers count modulo 2^128
pub counter_block-wrapped : (n k : ℕ) → counter_block (n % 2 ^ 128 + k) ≡ counter_block (n + k)
unfolding counter_block
counter_block-wrapped n k =
    let e : (n % 2 ^ 128 + k) % 2 ^ 128 ≡ (n + k) % 2 ^ 128 = omega arith in
    ap (to_be_bytes w128) e

pub counter_block-wrapped_sum : (n k m : ℕ) → m ≡ (n + k) % 2 ^ 128 → counter_block m ≡ counter_block (n + k)
unfolding counter_block
counter_block-wrapped_sum n k m is =
    let e : m % 2 ^ 128 ≡ (n + k) % 2 ^ 128 = omega arith in
    ap (to_be_bytes w128) e

-- a block that stands by rows, by columns
pub block_at-counter : (n : ℕ) (rows : List (List ℕ)) (i : ℕ)
    → ((j : ℕ) → j < 16 → slice_index (slice_index_or rows i []) j ≡ slice_index (counter_block n) (crossed_place j))
    → block_at rows i ≡ counter_block n
unfolding block_at counter_block
block_at-counter n rows i each =
    let e0 : slice_index (slice_index_or rows i []) 0 % 256 ≡ slice_index (counter_block n) 0 = omega (arith, each 0 (omega arith)) in
    let e1 : slice_index (slice_index_or rows i []) 4 % 256 ≡ slice_index (counter_block n) 1 = omega (arith, each 4 (omega arith)) in
    let e2 : slice_index (slice_index_or rows i []) 8 % 256 ≡ slice_index (counter_block n) 2 = omega (arith, each 8 (omega arith)) in
    let e3 : slice_index (slice_index_or rows i []) 12 % 256 ≡ slice_index (counter_block n) 3 = omega (arith, each 12 (omega arith)) in
    let e4 : slice_index (slice_index_or rows i []) 1 % 256 ≡ slice_index (counter_block n) 4 = omega (arith, each 1 (omega arith)) in
    let e5 : slice_index (slice_index_or rows i []) 5 % 256 ≡ slice_index (counter_block n) 5 = omega (arith, each 5 (omega arith)) in
    let e6 : slice_index (slice_index_or rows i []) 9 % 256 ≡ slice_index (counter_block n) 6 = omega (arith, each 9 (omega arith)) in
    let e7 : slice_index (slice_index_or rows i []) 13 % 256 ≡ slice_index (counter_block n) 7 = omega (arith, each 13 (omega arith)) in
    let e8 : slice_index (slice_index_or rows i []) 2 % 256 ≡ slice_index (counter_block n) 8 = omega (arith, each 2 (omega arith)) in
    let e9 : slice_index (slice_index_or rows i []) 6 % 256 ≡ slice_index (counter_block n) 9 = omega (arith, each 6 (omega arith)) in
    let e10 : slice_index (slice_index_or rows i []) 10 % 256 ≡ slice_index (counter_block n) 10 = omega (arith, each 10 (omega arith)) in
    let e11 : slice_index (slice_index_or rows i []) 14 % 256 ≡ slice_index (counter_block n) 11 = omega (arith, each 14 (omega arith)) in
    let e12 : slice_index (slice_index_or rows i []) 3 % 256 ≡ slice_index (counter_block n) 12 = omega (arith, each 3 (omega arith)) in
    let e13 : slice_index (slice_index_or rows i []) 7 % 256 ≡ slice_index (counter_block n) 13 = omega (arith, each 7 (omega arith)) in
    let e14 : slice_index (slice_index_or rows i []) 11 % 256 ≡ slice_index (counter_block n) 14 = omega (arith, each 11 (omega arith)) in
    let e15 : slice_index (slice_index_or rows i []) 15 % 256 ≡ slice_index (counter_block n) 15 = omega (arith, each 15 (omega arith)) in
    rw (e0, e1, e2, e3, e4, e5, e6, e7, e8, e9, e10, e11, e12, e13, e14, e15) refl

-- ---- output_blocks

pub output_blocks-append : (w : List (List ℕ)) (n a b : ℕ) → output_blocks w n (a + b) ≡ output_blocks w n a ++ output_blocks w (n + a) b
unfolding output_blocks
output_blocks-append w n a zero =
    let e : a + 0 ≡ a = omega arith in
    rw (e, append-nil) refl
output_blocks-append w n a (suc b) =
    let e : a + b + 1 ≡ a + suc b = omega arith in
    let f : b + 1 ≡ suc b = omega arith in
    let g : n + (a + b) ≡ n + a + b = omega arith in
    let last : output_blocks w (n + a) (b + 1) ≡ output_blocks w (n + a) b ++ cipher w (counter_block (n + a + b)) = output_blocks_more w (n + a) b in
    let more : output_blocks w n (a + b + 1) ≡ output_blocks w n (a + b) ++ cipher w (counter_block (n + (a + b))) = output_blocks_more w n (a + b) in
    let left : output_blocks w n (a + suc b) ≡ output_blocks w n (a + b + 1) = ap (output_blocks w n) (sym e) in
    let right : output_blocks w (n + a) (b + 1) ≡ output_blocks w (n + a) (suc b) = ap (output_blocks w (n + a)) f in
    left ∙ more ∙ ap (λ m. output_blocks w n (a + b) ++ cipher w (counter_block m)) g
    ∙ ap (λ xs. xs ++ cipher w (counter_block (n + a + b))) (output_blocks-append w n a b)
    ∙ append_assoc (output_blocks w n a) (output_blocks w (n + a) b) (cipher w (counter_block (n + a + b)))
    ∙ ap (λ xs. output_blocks w n a ++ xs) (sym last ∙ right)

-- eight blocks of rows are those of eight numbers
pub output_blocks_of : (w : List (List ℕ)) (n : ℕ) (rows : List (List ℕ)) → ((i : ℕ) → i < 8 → block_at rows i ≡ cipher w (counter_block (n + i)))
    → joined_blocks rows ≡ output_blocks w n 8
unfolding output_blocks
output_blocks_of w n rows made =
    let e0 = made 0 (omega arith) in
    let e1 = made 1 (omega arith) in
    let e2 = made 2 (omega arith) in
    let e3 = made 3 (omega arith) in
    let e4 = made 4 (omega arith) in
    let e5 = made 5 (omega arith) in
    let e6 = made 6 (omega arith) in
    let e7 = made 7 (omega arith) in
    rw (e0, e1, e2, e3, e4, e5, e6, e7) refl

pub output_blocks_by_rows : (w : List (List ℕ)) (n : ℕ) (blocks rows : List (List ℕ)) → ((i : ℕ) → i < 8 → block_at blocks i ≡ counter_block (n + i))
    → ((i : ℕ) → i < 8 → block_at rows i ≡ cipher w (block_at blocks i)) → joined_blocks rows ≡ output_blocks w n 8
output_blocks_by_rows w n blocks rows counted made = output_blocks_of w n rows (λ i l. made i l ∙ ap (cipher w) (counted i l))

-- the output blocks of a number that is taken modulo 2^128
pub output_blocks-wrapped : (w : List (List ℕ)) (n : ℕ) → output_blocks w (n % 2 ^ 128) 8 ≡ output_blocks w n 8
unfolding output_blocks
output_blocks-wrapped w n =
    let e0 = counter_block-wrapped n 0 in
    let e1 = counter_block-wrapped n 1 in
    let e2 = counter_block-wrapped n 2 in
    let e3 = counter_block-wrapped n 3 in
    let e4 = counter_block-wrapped n 4 in
    let e5 = counter_block-wrapped n 5 in
    let e6 = counter_block-wrapped n 6 in
    let e7 = counter_block-wrapped n 7 in
    rw (e0, e1, e2, e3, e4, e5, e6, e7) refl

-- ---- key_stream

-- before the first group there is nothing
pub no_groups : (w : List (List ℕ)) (n len : ℕ) (into : List ℕ) → take (128 * 0) into ≡ take len (output_blocks w n (8 * 0))
unfolding output_blocks
no_groups w n len into = sym (take_all len [] (omega arith))

-- what eight blocks more leave, where the last one is cut
pub front_more : (w : List (List ℕ)) (n count len first : ℕ) (before after group : List ℕ) → 128 * count < len → length before ≡ len
    → take (128 * count) before ≡ take len (output_blocks w n (8 * count)) → first ≡ (n + 8 * count) % 2 ^ 128 → group ≡ output_blocks w first 8
    → take (128 * count + 128) after ≡ take (length before) (take (128 * count) before ++ group)
    → take (128 * (count + 1)) after ≡ take len (output_blocks w n (8 * (count + 1)))
front_more w n count len first before after group within same so_far number is put =
    let e : 128 * (count + 1) ≡ 128 * count + 128 = omega arith in
    let g : 8 * (count + 1) ≡ 8 * count + 8 = omega arith in
    let f : take len (output_blocks w n (8 * count)) ≡ output_blocks w n (8 * count) =
    take_all len (output_blocks w n (8 * count)) (omega (arith, length-output_blocks w n (8 * count))) in
    let h : group ≡ output_blocks w (n + 8 * count) 8 = is ∙ ap (λ m. output_blocks w m 8) number ∙ output_blocks-wrapped w (n + 8 * count) in
    let joined = output_blocks-append w n (8 * count) 8 in
    rw (e, put, so_far, f, h, same, g, joined) refl

-- blocks behind the end change nothing
take_fewer : (w : List (List ℕ)) (n a b len : ℕ) → len ≤ 16 * a → take len (output_blocks w n (a + b)) ≡ take len (output_blocks w n a)
take_fewer w n a b len room =
    ap (take len) (output_blocks-append w n a b)
    ∙ take-append-le len (output_blocks w n a) (output_blocks w (n + a) b) (omega (arith, length-output_blocks w n a))

pub key_stream_at_end : (w : List (List ℕ)) (n count len : ℕ) (into : List ℕ) → length into ≡ len → count ≡ (len + 127) / 128
    → take (128 * count) into ≡ take len (output_blocks w n (8 * count)) → into ≡ key_stream w n len
unfolding key_stream
key_stream_at_end w n count len into long all so_far =
    let a = (len + 15) / 16 in
    let b = 8 * count - a in
    let e : 8 * count ≡ a + b = omega arith in
    sym (take_all (128 * count) into (omega arith)) ∙ so_far ∙ ap (λ m. take len (output_blocks w n m)) e ∙ take_fewer w n a b len (omega arith)

-- ---- eight blocks over a part of a list

-- the lists are joined behind n elements, and cut m elements later
take_joined : (xs ys : List ℕ) (n m total : ℕ) → length xs ≡ n → n + m ≡ total → take total (xs ++ ys) ≡ xs ++ take m ys
take_joined xs ys n m total long sum =
    let e : length xs + m ≡ total = omega arith in
    subst (λ t. take t (xs ++ ys) ≡ xs ++ take m ys) e (take-append-add xs ys m)

-- fewer than 128 bytes are left
front_of_short : (xs block : List ℕ) (at count : ℕ) → at < length xs → at + count ≡ length xs → count ≤ 128 → 128 ≤ length block
    → take (at + 128) (put_mid at count xs (take count block)) ≡ take (length xs) (take at xs ++ block)
front_of_short xs block at count within sum short long =
    let none : drop count (drop at xs) ≡ [] = drop-drop count at xs ∙ drop_all (at + count) xs (omega arith) in
    let front : length (take at xs) ≡ at = length-take-le at xs (omega arith) in
    let piece : length (take count block) ≡ count = length-take-le count block (omega arith) in
    let joined = length-append (take at xs) (take count block) in
    rw (none, append-nil)
    (take_all (at + 128) (take at xs ++ take count block) (omega arith) ∙ sym (take_joined (take at xs) block at count (length xs) front sum))

-- 128 bytes or more are left
front_of_whole : (xs block : List ℕ) (at : ℕ) → at + 128 ≤ length xs → length block ≡ 128
    → take (at + 128) (put_mid at 128 xs block) ≡ take (length xs) (take at xs ++ block)
front_of_whole xs block at room whole_group =
    let front : length (take at xs) ≡ at = length-take-le at xs (omega arith) in
    let joined = length-append (take at xs) block in
    take-put_mid at 128 xs block (at + 128) (omega arith) (omega arith) ∙ sym (take_all (length xs) (take at xs ++ block) (omega arith))

-- what put_group leaves: count bytes from at on are those of the block
pub front_of_put : (xs block written : List ℕ) (at count : ℕ) → at < length xs → length block ≡ 128 → count ≡ min (length xs - at) 128
    → written ≡ take count block
    → take (at + 128) (put_mid at count xs written) ≡ take (length xs) (take at xs ++ block)
front_of_put xs block written at count within whole_group is put =
    elim (cases_lt (length xs - at) 128) [
      | inl short ↦ rw put (front_of_short xs block at count within (omega arith) (omega arith) (omega arith))
      | inr whole ↦
          let e : count ≡ 128 = omega arith in
          let f : written ≡ block = put ∙ take_all count block (omega arith) in
          rw (e, f) (front_of_whole xs block at (omega arith) whole_group)
    ]

-- ---- blocks joined

block_by_lanes : (rows : List (List ℕ)) (i : ℕ) (v : List ℕ) → length v ≡ 16
    → ((m : ℕ) → m < 16 → slice_index v m ≡ slice_index (slice_index_or rows i []) (crossed_place m) % 256) → v ≡ block_at rows i
unfolding block_at
block_by_lanes rows i v long each = fill_by_all (λ m. slice_index (slice_index_or rows i []) (crossed_place m) % 256) v 16 0 long each

pub joined_next : (rows : List (List ℕ)) (at i : ℕ) (front bytes v : List ℕ) → i < 8 → at + 128 ≤ length bytes → length v ≡ 16
    → ((m : ℕ) → m < 16 → slice_index v m ≡ slice_index (slice_index_or rows i []) (crossed_place m) % 256)
    → take (at + 16 * i) bytes ≡ front ++ flat_map (λ i. block_at rows i) (range_with_len 0 i)
    → take (at + 16 * (i + 1)) (put_chunk (at + 16 * i) bytes v) ≡ front ++ flat_map (λ i. block_at rows i) (range_with_len 0 (i + 1))
joined_next rows at i front bytes v within room lanes each so_far =
    let is = block_by_lanes rows i v lanes each in
    take_more_put_chunk (at + 16 * i) bytes v (at + 16 * (i + 1)) (omega (arith, lanes)) (omega (arith, room))
    ∙ rw (so_far, joined_more rows i, is) (append_assoc front (flat_map (λ i. block_at rows i) (range_with_len 0 i)) (block_at rows i))

pub joined_at_end : (rows : List (List ℕ)) (at i : ℕ) (front bytes : List ℕ) → i ≡ 8
    → take (at + 16 * i) bytes ≡ front ++ flat_map (λ i. block_at rows i) (range_with_len 0 i) → take (at + 128) bytes ≡ front ++ joined_blocks rows
joined_at_end rows at i front bytes end so_far =
    let e : at + 16 * i ≡ at + 128 = omega arith in
    ap (λ n. take n bytes) (sym e) ∙ so_far ∙ ap (λ m. front ++ flat_map (λ i. block_at rows i) (range_with_len 0 m)) end

-- ---- pieces

pub length-piece : (bytes : List ℕ) (i : ℕ) → length bytes ≡ 256 → i < 16 → length (piece bytes i) ≡ 16
length-piece bytes i long within = length-chunk (16 * i) 16 bytes (omega (arith, long))

pub piece-bytes : (bytes : List ℕ) (i : ℕ) → ((k : ℕ) → slice_index bytes k < 256) → Each1 (λ x. x < 256) (piece bytes i)
piece-bytes bytes i fits = Each1-chunk (λ x. x < 256) (16 * i) 16 bytes (Each1-from_get_or (λ x. x < 256) bytes 0 (λ k l. fits k))

piece_lane : (rows : List (List ℕ)) (i : ℕ) (xs : List ℕ) (m k : ℕ) → slice_index (slice_index_or rows i []) k ≡ slice_index xs m → slice_index xs m < 256
    → slice_index xs m ≡ slice_index (slice_index_or rows i []) k % 256
piece_lane rows i xs m k e low = omega (arith, e, low)

-- a piece that stands by rows
pub block_at-piece : (rows : List (List ℕ)) (i : ℕ) (xs : List ℕ) → length xs ≡ 16 → Each1 (λ x. x < 256) xs
    → ((m : ℕ) → m < 16 → slice_index (slice_index_or rows i []) m ≡ slice_index xs (crossed_place m)) → block_at rows i ≡ xs
unfolding block_at
block_at-piece rows i xs long bytes each =
    sym (fill_by_all (λ m. slice_index (slice_index_or rows i []) (crossed_place m) % 256) xs 16 0 long
    (below_16 (λ m. slice_index xs m ≡ slice_index (slice_index_or rows i []) (crossed_place m) % 256)
    (piece_lane rows i xs 0 0 (each 0 (omega arith)) (Each1-get_or (λ x. x < 256) xs 0 0 (omega (arith, long)) bytes))
    (piece_lane rows i xs 1 4 (each 4 (omega arith)) (Each1-get_or (λ x. x < 256) xs 1 0 (omega (arith, long)) bytes))
    (piece_lane rows i xs 2 8 (each 8 (omega arith)) (Each1-get_or (λ x. x < 256) xs 2 0 (omega (arith, long)) bytes))
    (piece_lane rows i xs 3 12 (each 12 (omega arith)) (Each1-get_or (λ x. x < 256) xs 3 0 (omega (arith, long)) bytes))
    (piece_lane rows i xs 4 1 (each 1 (omega arith)) (Each1-get_or (λ x. x < 256) xs 4 0 (omega (arith, long)) bytes))
    (piece_lane rows i xs 5 5 (each 5 (omega arith)) (Each1-get_or (λ x. x < 256) xs 5 0 (omega (arith, long)) bytes))
    (piece_lane rows i xs 6 9 (each 9 (omega arith)) (Each1-get_or (λ x. x < 256) xs 6 0 (omega (arith, long)) bytes))
    (piece_lane rows i xs 7 13 (each 13 (omega arith)) (Each1-get_or (λ x. x < 256) xs 7 0 (omega (arith, long)) bytes))
    (piece_lane rows i xs 8 2 (each 2 (omega arith)) (Each1-get_or (λ x. x < 256) xs 8 0 (omega (arith, long)) bytes))
    (piece_lane rows i xs 9 6 (each 6 (omega arith)) (Each1-get_or (λ x. x < 256) xs 9 0 (omega (arith, long)) bytes))
    (piece_lane rows i xs 10 10 (each 10 (omega arith)) (Each1-get_or (λ x. x < 256) xs 10 0 (omega (arith, long)) bytes))
    (piece_lane rows i xs 11 14 (each 14 (omega arith)) (Each1-get_or (λ x. x < 256) xs 11 0 (omega (arith, long)) bytes))
    (piece_lane rows i xs 12 3 (each 3 (omega arith)) (Each1-get_or (λ x. x < 256) xs 12 0 (omega (arith, long)) bytes))
    (piece_lane rows i xs 13 7 (each 7 (omega arith)) (Each1-get_or (λ x. x < 256) xs 13 0 (omega (arith, long)) bytes))
    (piece_lane rows i xs 14 11 (each 11 (omega arith)) (Each1-get_or (λ x. x < 256) xs 14 0 (omega (arith, long)) bytes))
    (piece_lane rows i xs 15 15 (each 15 (omega arith)) (Each1-get_or (λ x. x < 256) xs 15 0 (omega (arith, long)) bytes))))

-- sixteen blocks, from two times eight
pub each_encrypted_by_eight : (w : List (List ℕ)) (bytes : List ℕ) (low high first second : List (List ℕ))
    → ((i : ℕ) → i < 8 → block_at low i ≡ piece bytes (0 + i)) → ((i : ℕ) → i < 8 → block_at high i ≡ piece bytes (8 + i))
    → ((i : ℕ) → i < 8 → block_at first i ≡ cipher w (block_at low i)) → ((i : ℕ) → i < 8 → block_at second i ≡ cipher w (block_at high i))
    → joined_blocks first ++ joined_blocks second ≡ each_encrypted w bytes 16
unfolding each_encrypted
each_encrypted_by_eight w bytes low high first second a b d e =
    let p0 = d 0 (omega arith) ∙ ap (cipher w) (a 0 (omega arith)) in
    let q0 = e 0 (omega arith) ∙ ap (cipher w) (b 0 (omega arith)) in
    let p1 = d 1 (omega arith) ∙ ap (cipher w) (a 1 (omega arith)) in
    let q1 = e 1 (omega arith) ∙ ap (cipher w) (b 1 (omega arith)) in
    let p2 = d 2 (omega arith) ∙ ap (cipher w) (a 2 (omega arith)) in
    let q2 = e 2 (omega arith) ∙ ap (cipher w) (b 2 (omega arith)) in
    let p3 = d 3 (omega arith) ∙ ap (cipher w) (a 3 (omega arith)) in
    let q3 = e 3 (omega arith) ∙ ap (cipher w) (b 3 (omega arith)) in
    let p4 = d 4 (omega arith) ∙ ap (cipher w) (a 4 (omega arith)) in
    let q4 = e 4 (omega arith) ∙ ap (cipher w) (b 4 (omega arith)) in
    let p5 = d 5 (omega arith) ∙ ap (cipher w) (a 5 (omega arith)) in
    let q5 = e 5 (omega arith) ∙ ap (cipher w) (b 5 (omega arith)) in
    let p6 = d 6 (omega arith) ∙ ap (cipher w) (a 6 (omega arith)) in
    let q6 = e 6 (omega arith) ∙ ap (cipher w) (b 6 (omega arith)) in
    let p7 = d 7 (omega arith) ∙ ap (cipher w) (a 7 (omega arith)) in
    let q7 = e 7 (omega arith) ∙ ap (cipher w) (b 7 (omega arith)) in
    rw (p0, p1, p2, p3, p4, p5, p6, p7, q0, q1, q2, q3, q4, q5, q6, q7) (sym (flat_map-append (λ i. cipher w (piece bytes i)) (range_with_len 0 8)
    (range_with_len 8 8)))

-- ---- two times eight blocks

-- 128 bytes behind a front, and 128 bytes behind these
pub two_groups_put : (at : ℕ) (front first second between after : List ℕ) → take (at + 128) between ≡ front ++ first
    → take (at + 128 + 128) after ≡ take (at + 128) between ++ second → take (at + 256) after ≡ front ++ first ++ second
two_groups_put at front first second between after low high =
    let e : at + 256 ≡ at + 128 + 128 = omega arith in
    ap (λ k. take k after) e ∙ high ∙ ap (λ xs. xs ++ second) low

-- what sixteen blocks more leave
pub whole_more : (w : List (List ℕ)) (n count first second : ℕ) (before after : List ℕ) → take (256 * count) before ≡ output_blocks w n (16 * count)
    → first ≡ (n + 16 * count) % 2 ^ 128 → second ≡ (n + 16 * count + 8) % 2 ^ 128
    → take (256 * count + 256) after ≡ take (256 * count) before ++ output_blocks w first 8 ++ output_blocks w second 8
    → take (256 * (count + 1)) after ≡ output_blocks w n (16 * (count + 1))
whole_more w n count first second before after so_far one two put =
    let e : 256 * (count + 1) ≡ 256 * count + 256 = omega arith in
    let a : output_blocks w first 8 ≡ output_blocks w (n + 16 * count) 8 =
    ap (λ m. output_blocks w m 8) one ∙ output_blocks-wrapped w (n + 16 * count) in
    let b : output_blocks w second 8 ≡ output_blocks w (n + (16 * count + 8)) 8 =
    ap (λ m. output_blocks w m 8) two ∙ output_blocks-wrapped w (n + 16 * count + 8) ∙ ap (λ m. output_blocks w m 8) (omega arith) in
    let f : 16 * count + 8 + 8 ≡ 16 * (count + 1) = omega arith in
    let more : output_blocks w n (16 * count + 8) ≡ output_blocks w n (16 * count) ++ output_blocks w (n + 16 * count) 8 =
    output_blocks-append w n (16 * count) 8 in
    let all : output_blocks w n (16 * count + 8 + 8) ≡ output_blocks w n (16 * count + 8) ++ output_blocks w (n + (16 * count + 8)) 8 =
    output_blocks-append w n (16 * count + 8) 8 in
    ap (λ k. take k after) e ∙ put ∙ (λ t. so_far t ++ a t ++ b t) ∙ ap (λ xs. xs ++ output_blocks w (n + (16 * count + 8)) 8) (sym more) ∙ sym all
    ∙ ap (output_blocks w n) f

-- whole pairs of groups, as a front of the stream
pub pairs_as_front : (w : List (List ℕ)) (n old len : ℕ) (into : List ℕ) → old ≡ len
    → take (256 * (old / 256)) into ≡ output_blocks w n (16 * (old / 256))
    → take (128 * (len / 256 * 2)) into ≡ take len (output_blocks w n (8 * (len / 256 * 2)))
pairs_as_front w n old len into same whole =
    let count = old / 256 in
    let e : 128 * (len / 256 * 2) ≡ 256 * count = omega (arith, same) in
    let f : 16 * count ≡ 8 * (len / 256 * 2) = omega (arith, same) in
    ap (λ k. take k into) e ∙ whole
    ∙ sym (take_all len (output_blocks w n (16 * count)) (omega (arith, same, length-output_blocks w n (16 * count))))
    ∙ ap (λ k. take len (output_blocks w n k)) f
