-- Counter mode over a text that is taken piece by piece.
use Rattle.std.proofs.Common.{◌≡◌, ℕ, zero, suc, ◌+◌, ◌-◌, ◌*◌, ◌/◌, ◌<◌, min, List, [], ◌∷◌, ◌++◌, length, take, drop, bit_xor, refl, sym, ap, ◌∙◌, arith}
use Rattle.std.proofs.Common.{append_assoc, length-append}
use borrow.Rule.Slice.PartMut.{put_mid}
use Rattle.std.proofs.lemmas.List.{append-nil, take_all, take_at, drop_at, drop-drop, drop_min, take_min, length-take-le, length-drop}
use Rattle.std.proofs.Math.Seq.{take-add, take-append-add}
use Rattle.ferry_aes.specs.KeyExpansion.{key_expansion}
use Rattle.ferry_aes.specs.Cipher.{cipher}
use Rattle.ferry_aes.specs.CounterMode.{counter_block, output_blocks, key_stream, xor_lists, ctr}
use Rattle.ferry_aes.proofs.CounterModeLemmas.{output_blocks_more, length-output_blocks}
use Rattle.ferry_aes.proofs.CallerLemmas.{length-key_stream, length-ctr}

-- ---- output_blocks

output_blocks_none : (w : List (List ℕ)) (n : ℕ) → output_blocks w n 0 ≡ []
unfolding output_blocks
output_blocks_none w n = refl

output_blocks-append : (w : List (List ℕ)) (n k count : ℕ) → output_blocks w n (k + count) ≡ output_blocks w n k ++ output_blocks w (n + k) count
output_blocks-append w n k zero =
    let e : k + 0 ≡ k = omega arith in
    rw (e, output_blocks_none w (n + k), append-nil) refl
output_blocks-append w n k (suc count) =
    let e : k + suc count ≡ k + count + 1 = omega arith in
    let f : suc count ≡ count + 1 = omega arith in
    let g : n + (k + count) ≡ n + k + count = omega arith in
    rw (e, f, output_blocks_more w n (k + count), output_blocks_more w (n + k) count, g, output_blocks-append w n k count)
    (append_assoc (output_blocks w n k) (output_blocks w (n + k) count) (cipher w (counter_block (n + k + count))))

-- ---- key_stream

key_stream-append : (w : List (List ℕ)) (n k len : ℕ) → key_stream w n (16 * k + len) ≡ key_stream w n (16 * k) ++ key_stream w (n + k) len
unfolding key_stream
key_stream-append w n k len =
    let more : (16 * k + len + 15) / 16 ≡ k + (len + 15) / 16 = omega arith in
    let whole : (16 * k + 15) / 16 ≡ k = omega arith in
    let front = output_blocks w n k in
    let long : length front ≡ 16 * k = length-output_blocks w n k in
    let cut = take-append-add front (output_blocks w (n + k) ((len + 15) / 16)) len in
    let first : take (16 * k) front ≡ front = take_all (16 * k) front (omega arith) in
    rw (more, whole, output_blocks-append w n k ((len + 15) / 16), first) (rw long at cut)

-- ---- xor_lists

xor_lists-append : (xs ys us vs : List ℕ) → length xs ≡ length us → xor_lists (xs ++ ys) (us ++ vs) ≡ xor_lists xs us ++ xor_lists ys vs
xor_lists-append [] ys [] vs same = refl
xor_lists-append [] ys (u ∷ us) vs same = absurd (omega arith)
xor_lists-append (x ∷ xs) ys [] vs same = absurd (omega arith)
xor_lists-append (x ∷ xs) ys (u ∷ us) vs same = ap (λ zs. bit_xor x u ∷ zs) (xor_lists-append xs ys us vs (omega arith))

-- ---- ctr

-- behind k whole blocks, a text is encrypted from the counter k further on
pub ctr-append : (key : List ℕ) (n k : ℕ) (xs ys : List ℕ) → length xs ≡ 16 * k → ctr key n (xs ++ ys) ≡ ctr key n xs ++ ctr key (n + k) ys
unfolding ctr
ctr-append key n k xs ys whole =
    let w = key_expansion key in
    let both : length (xs ++ ys) ≡ 16 * k + length ys = omega (arith, length-append xs ys) in
    rw (both, whole, key_stream-append w n k (length ys))
    (xor_lists-append xs ys (key_stream w n (16 * k)) (key_stream w (n + k) (length ys)) (omega (arith, length-key_stream w n (16 * k))))

-- ---- a piece of a text, in place

-- the pieces before number `number` are encrypted, and then this one too, which may be cut
pub piece_more : (key : List ℕ) (n number count : ℕ) (text before piece : List ℕ) → 16384 * number < length text
    → count ≡ min 16384 (length text - 16384 * number)
    → before ≡ ctr key n (take (16384 * number) text) ++ drop (16384 * number) text
    → piece ≡ ctr key (n + 1024 * number) (take count (drop (16384 * number) before))
    → put_mid (16384 * number) count before piece ≡ ctr key n (take (16384 * (number + 1)) text) ++ drop (16384 * (number + 1)) text
piece_more key n number count text before piece within cut so_far is =
    let at = 16384 * number in
    let front = take at text in
    let rest = drop at text in
    let long : length front ≡ at = length-take-le at text (omega arith) in
    let room : length rest ≡ length text - at = length-drop at text in
    let done : length (ctr key n front) ≡ at = length-ctr key n front ∙ long in
    let kept : take at before ≡ ctr key n front = ap (take at) so_far ∙ take_at (ctr key n front) rest at done in
    let left : drop at before ≡ rest = ap (drop at) so_far ∙ drop_at (ctr key n front) rest at done in
    let next : 16384 * (number + 1) ≡ at + 16384 = omega arith in
    let measured : count ≡ min 16384 (length rest) = omega arith in
    let first : take count rest ≡ take 16384 rest = ap (λ m. take m rest) measured ∙ take_min 16384 rest in
    let behind : drop count rest ≡ drop 16384 rest = ap (λ m. drop m rest) measured ∙ drop_min 16384 rest in
    let taken : take (at + 16384) text ≡ front ++ take 16384 rest = take-add at 16384 text in
    let dropped : drop 16384 rest ≡ drop (at + 16384) text = drop-drop 16384 at text in
    let joined : ctr key n (front ++ take 16384 rest) ≡ ctr key n front ++ ctr key (n + 1024 * number) (take 16384 rest) =
    ctr-append key n (1024 * number) front (take 16384 rest) (omega arith) in
    rw (is, kept, left, first, behind, next, taken, joined, ← dropped)
    (sym (append_assoc (ctr key n front) (ctr key (n + 1024 * number) (take 16384 rest)) (drop 16384 rest)))
