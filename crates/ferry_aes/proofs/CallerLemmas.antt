-- What a crate above cites of the key stream and of counter mode.
use Rattle.std.proofs.Common.{◌≡◌, ℕ, ◌+◌, ◌/◌, min, List, [], ◌∷◌, length, bit_xor, refl, sym, ap, ◌∙◌, arith}
use lib.Bits.{xor_assoc, xor_self, xor_zero_r}
use Rattle.std.specs.List.{zip}
use Rattle.std.proofs.lemmas.List.{length-take-le, length-map}
use Rattle.std.proofs.lemmas.Slice.Zip.{length-zip}
use Rattle.ferry_aes.specs.KeyExpansion.{key_expansion}
use Rattle.ferry_aes.specs.CounterMode.{output_blocks, key_stream, xor_lists, ctr}
use Rattle.ferry_aes.proofs.CounterModeLemmas.{length-output_blocks}

-- ---- key_stream

pub length-key_stream : (w : List (List ℕ)) (n len : ℕ) → length (key_stream w n len) ≡ len
unfolding key_stream
length-key_stream w n len = length-take-le len (output_blocks w n ((len + 15) / 16)) (omega (arith, length-output_blocks w n ((len + 15) / 16)))

-- ---- xor_lists

pub length-xor_lists : (xs ys : List ℕ) → length (xor_lists xs ys) ≡ min (length xs) (length ys)
length-xor_lists xs ys = length-map (zip xs ys) (λ p. bit_xor p.0 p.1) ∙ length-zip xs ys

xor_twice : (a b : ℕ) → bit_xor (bit_xor a b) b ≡ a
xor_twice a b = xor_assoc a b b ∙ ap (bit_xor a) (xor_self b) ∙ xor_zero_r a

-- what is added twice is gone
pub xor_lists_twice : (xs ys : List ℕ) → length xs ≡ length ys → xor_lists (xor_lists xs ys) ys ≡ xs
xor_lists_twice [] ys same = refl
xor_lists_twice (x ∷ xs) [] same = absurd (omega arith)
xor_lists_twice (x ∷ xs) (y ∷ ys) same = rw (xor_twice x y, xor_lists_twice xs ys (omega arith)) refl

-- ---- ctr

pub length-ctr : (key : List ℕ) (n : ℕ) (text : List ℕ) → length (ctr key n text) ≡ length text
unfolding ctr
length-ctr key n text = length-xor_lists text (key_stream (key_expansion key) n (length text))
    ∙ omega (arith, length-key_stream (key_expansion key) n (length text))

-- a text that is encrypted twice at the same counter is the text again
pub ctr-ctr : (key : List ℕ) (n : ℕ) (text : List ℕ) → ctr key n (ctr key n text) ≡ text
unfolding ctr
ctr-ctr key n text =
    let e : length (xor_lists text (key_stream (key_expansion key) n (length text))) ≡ length text = length-ctr key n text in
    rw e (xor_lists_twice text (key_stream (key_expansion key) n (length text)) (sym (length-key_stream (key_expansion key) n (length text))))
