-- What crates above cite of printed texts.
use Rattle.std.proofs.Common.{◌≡◌, ◌≢◌, ℕ, ◌+◌, ◌*◌, ◌^◌, ◌<◌, ◌≤◌, Bool, true, false, cond, List, [], ◌∷◌, ◌++◌, length, All, refl, ap, ◌∙◌, arith}
use Rattle.std.specs.Prelude.{decimal}
use Rattle.std.proofs.lemmas.Fmt.{decimal_is_IsNumeral_wide, length-decimal-le_wide}
use Rattle.std.proofs.lemmas.Grind.{flat_map-append}
use Rattle.std.proofs.lemmas.List.{length-append}
use Rattle.hex.specs.Hex.{encode_lower, lower_digits}
use Rattle.hex.proofs.HexLemmas.{length-encode_with}
use Rattle.ferry_text.specs.Text.{is_plain, escape, escaped_byte, escaped}
use Rattle.ferry_text.proofs.TextLemmas.{escaped-cons}
pub use Rattle.ferry_text.proofs.TextLemmas.{escaped-nil, escaped-plain_cons, escaped-escape_cons, escaped-plain_front}
pub use Rattle.ferry_text.proofs.LawLemmas.{escaped-plain, escaped_printed, escaped_same, id_same, number_same}

-- the text of bytes in a row is their texts in a row
pub escaped-append : (a b : List ℕ) → escaped (a ++ b) ≡ escaped a ++ escaped b
unfolding escaped
escaped-append a b = flat_map-append escaped_byte a b

-- no line feed stands in a text
pub escaped_no_line_feed : (bytes : List ℕ) → All (λ byte. byte ≢ 10) (escaped bytes)
escaped_no_line_feed bytes k d within e = let printed = (escaped_printed bytes k d within).0 in absurd (omega arith)

-- ---- lengths

-- a byte has one byte of text, or four
length-escaped_byte : (byte : ℕ) (b : Bool) → is_plain byte ≡ b → (1 ≤ length (escaped_byte byte)) × (length (escaped_byte byte) ≤ 4)
length-escaped_byte byte true plain =
    let text : length (escaped_byte byte) ≡ 1 = ap (λ b. length (cond b (byte ∷ []) (escape byte))) plain in
    (omega arith, omega arith)
length-escaped_byte byte false other =
    let text : length (escaped_byte byte) ≡ length (escape byte) = ap (λ b. length (cond b (byte ∷ []) (escape byte))) other in
    let digits : length (encode_lower (byte ∷ [])) ≡ 2 = length-encode_with lower_digits (byte ∷ []) in
    (omega arith, omega arith)

-- a text is as long as its bytes or longer, and four times as long at most
pub length-escaped : (bytes : List ℕ) → (length bytes ≤ length (escaped bytes)) × (length (escaped bytes) ≤ 4 * length bytes)
length-escaped [] = let none : length (escaped []) ≡ 0 = ap length escaped-nil in (omega arith, omega arith)
length-escaped (byte ∷ rest) =
    let one = length-escaped_byte byte (is_plain byte) refl in
    let more = length-escaped rest in
    let whole : length (escaped (byte ∷ rest)) ≡ length (escaped_byte byte) + length (escaped rest) =
    ap length (escaped-cons byte rest) ∙ length-append (escaped_byte byte) (escaped rest) in
    (omega arith, omega arith)

-- an id has 64 digits
pub length-id : (id : List ℕ) → length id ≡ 32 → length (encode_lower id) ≡ 64
length-id id long = omega (arith, length-encode_with lower_digits id)

-- a number has a digit or more, and 39 at most
pub length-number : (number : ℕ) → number < 2 ^ 128 → (0 < length (decimal number)) × (length (decimal number) ≤ 39)
length-number number below = ((decimal_is_IsNumeral_wide number (omega arith)).0.0, length-decimal-le_wide 39 number (omega arith) (omega arith) (omega arith))
