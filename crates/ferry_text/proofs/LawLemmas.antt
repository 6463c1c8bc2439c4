-- What holds of all texts: different bytes have different texts, and a text is one line.
use Rattle.std.proofs.Common.{◌≡◌, ◌≢◌, ℕ, ◌^◌, ◌<◌, ◌≤◌, ◌/◌, ◌%◌, Bool, true, false, List, [], ◌∷◌, ◌++◌, slice_index, All, Some, Ok, refl, sym, ap, subst}
use Rattle.std.proofs.Common.{◌∙◌, arith}
use Rattle.std.specs.Prelude.{decimal}
use Rattle.std.specs.List.{AllPass}
use Rattle.std.proofs.lemmas.Bool.Decides.{nat_tests}
use Rattle.std.proofs.lemmas.Fmt.{decimal_is_IsNumeral_wide}
use Rattle.std.proofs.lemmas.List.{append-nil}
use Rattle.std.proofs.lemmas.List.Elements.{All-append, All-cons, All-nil}
use Rattle.std.proofs.lemmas.List.Sums.{AllPass-from_list_all}
use Rattle.std.specs.Str.Parse.{digits_value}
use Rattle.hex.specs.Hex.{IsBytes, encode_with, encode_lower, lower_digits, hex_digit_value, decode_of}
use Rattle.hex.proofs.HexLemmas.{IsDigits-lower_digits, decode_of-encode_lower}
use Rattle.ferry_text.specs.Text.{is_plain, escape, escaped}
use Rattle.ferry_text.proofs.TextLemmas.{escaped-nil, escaped-plain_cons, escaped-escape_cons, escaped-plain_front}

-- ---- bytes of a text

-- a byte that is printed as it is isn't below 32, and isn't 127
abbrev pub IsPrinted : ℕ → Type 0
IsPrinted byte = (32 ≤ byte) × (byte ≢ 127)

printed_plain : (byte : ℕ) → is_plain byte ≡ true → IsPrinted byte
printed_plain byte plain = grind (arith, nat_tests)

-- the others are below 128
other_below : (byte : ℕ) → is_plain byte ≡ false → byte < 128
other_below byte other = grind (arith, nat_tests)

digits_plain : AllPass is_plain lower_digits
digits_plain = AllPass-from_list_all is_plain lower_digits refl

digit_printed : (d : ℕ) → d < 16 → IsPrinted (slice_index lower_digits d)
digit_printed d below = printed_plain (slice_index lower_digits d) (digits_plain d 0 below)

-- the bytes of an escape
escape_is : (byte : ℕ) → escape byte ≡ 92 ∷ 120 ∷ slice_index lower_digits (byte / 16) ∷ slice_index lower_digits (byte % 16) ∷ []
unfolding encode_with
escape_is byte = refl

four_printed : (a b c d : ℕ) → IsPrinted a → IsPrinted b → IsPrinted c → IsPrinted d → All IsPrinted (a ∷ b ∷ c ∷ d ∷ [])
four_printed a b c d first second third fourth =
    All-cons IsPrinted a (b ∷ c ∷ d ∷ []) first
    (All-cons IsPrinted b (c ∷ d ∷ []) second (All-cons IsPrinted c (d ∷ []) third (All-cons IsPrinted d [] fourth (All-nil IsPrinted))))

backslash_printed : IsPrinted 92
backslash_printed = (omega arith, λ e. absurd (omega arith))

escape_printed : (byte : ℕ) → byte < 128 → All IsPrinted (escape byte)
escape_printed byte below =
    subst (All IsPrinted) (sym (escape_is byte))
    (four_printed 92 120 (slice_index lower_digits (byte / 16)) (slice_index lower_digits (byte % 16)) backslash_printed (printed_plain 120 refl)
    (digit_printed (byte / 16) (omega arith)) (digit_printed (byte % 16) (omega arith)))

text_printed : (byte : ℕ) (rest : List ℕ) (b : Bool) → is_plain byte ≡ b → All IsPrinted (escaped rest) → All IsPrinted (escaped (byte ∷ rest))
text_printed byte rest true plain h =
    subst (All IsPrinted) (sym (escaped-plain_cons byte rest plain)) (All-cons IsPrinted byte (escaped rest) (printed_plain byte plain) h)
text_printed byte rest false other h =
    subst (All IsPrinted) (sym (escaped-escape_cons byte rest other))
    (All-append IsPrinted (escape byte) (escaped rest) (escape_printed byte (other_below byte other)) h)

-- no text has a byte below 32, or the byte 127
pub escaped_printed : (bytes : List ℕ) → All IsPrinted (escaped bytes)
escaped_printed [] = subst (All IsPrinted) (sym escaped-nil) (All-nil IsPrinted)
escaped_printed (byte ∷ rest) = text_printed byte rest (is_plain byte) refl (escaped_printed rest)

-- bytes that are all printed as they are have themselves as their text
pub escaped-plain : (bytes : List ℕ) → AllPass is_plain bytes → escaped bytes ≡ bytes
escaped-plain bytes plain = ap escaped (sym (append-nil bytes)) ∙ escaped-plain_front bytes [] plain ∙ ap (λ k. bytes ++ k) escaped-nil ∙ append-nil bytes

-- ---- different texts

some_same : (m n : ℕ) → Some m ≡ Some n → m ≡ n
some_same m n e = cc

digit_same : (d e : ℕ) → d < 16 → e < 16 → slice_index lower_digits d ≡ slice_index lower_digits e → d ≡ e
digit_same d e d_below e_below same = some_same d e (sym (IsDigits-lower_digits d d_below) ∙ ap hex_digit_value same ∙ IsDigits-lower_digits e e_below)

-- bytes with one escape are one, and so is what follows
four_same : (a b c d e f g h : ℕ) (x y : List ℕ) → a ∷ b ∷ c ∷ d ∷ x ≡ e ∷ f ∷ g ∷ h ∷ y → (c ≡ g) × (d ≡ h) × (x ≡ y)
four_same a b c d e f g h x y same = (cc, cc, cc)

escape_same : (a b : ℕ) (x y : List ℕ) → a < 128 → b < 128 → escape a ++ x ≡ escape b ++ y → (a ≡ b) × (x ≡ y)
escape_same a b x y a_below b_below same =
    let parts = four_same _ _ _ _ _ _ _ _ x y (ap (λ k. k ++ x) (sym (escape_is a)) ∙ same ∙ ap (λ k. k ++ y) (escape_is b)) in
    let high : a / 16 ≡ b / 16 = digit_same (a / 16) (b / 16) (omega arith) (omega arith) parts.0 in
    let low : a % 16 ≡ b % 16 = digit_same (a % 16) (b % 16) (omega arith) (omega arith) parts.1 in
    (omega arith, parts.2)

-- a byte that is printed as it is doesn't begin an escape
plain_apart : (a b : ℕ) (x y : List ℕ) → is_plain a ≡ true → a ∷ x ≡ escape b ++ y → ⊥
plain_apart a b x y plain same =
    let first : a ≡ 92 = cc in
    let none : is_plain 92 ≡ true = subst (λ k. is_plain k ≡ true) first plain in
    cc

cons_same : (a b : ℕ) (x y : List ℕ) → a ∷ x ≡ b ∷ y → (a ≡ b) × (x ≡ y)
cons_same a b x y same = (cc, cc)

first_same : (a b : ℕ) (x y : List ℕ) (p q : Bool) → is_plain a ≡ p → is_plain b ≡ q → escaped (a ∷ x) ≡ escaped (b ∷ y) → (a ≡ b) × (escaped x ≡ escaped y)
first_same a b x y true true p q same = cons_same a b (escaped x) (escaped y) (sym (escaped-plain_cons a x p) ∙ same ∙ escaped-plain_cons b y q)
first_same a b x y true false p q same = absurd (plain_apart a b (escaped x) (escaped y) p (sym (escaped-plain_cons a x p) ∙ same ∙ escaped-escape_cons b y q))
first_same a b x y false true p q same =
    absurd (plain_apart b a (escaped y) (escaped x) q (sym (escaped-plain_cons b y q) ∙ sym same ∙ escaped-escape_cons a x p))
first_same a b x y false false p q same =
    escape_same a b (escaped x) (escaped y) (other_below a p) (other_below b q) (sym (escaped-escape_cons a x p) ∙ same ∙ escaped-escape_cons b y q)

not_nothing : (a : ℕ) (x : List ℕ) (p : Bool) → is_plain a ≡ p → escaped (a ∷ x) ≡ [] → ⊥
not_nothing a x true p none = let e : a ∷ escaped x ≡ [] = sym (escaped-plain_cons a x p) ∙ none in cc
not_nothing a x false p none = let e : escape a ++ escaped x ≡ [] = sym (escaped-escape_cons a x p) ∙ none in cc

-- different bytes have different texts
pub escaped_same : (a b : List ℕ) → escaped a ≡ escaped b → a ≡ b
escaped_same [] [] same = refl
escaped_same [] (b ∷ y) same = absurd (not_nothing b y (is_plain b) refl (sym same ∙ escaped-nil))
escaped_same (a ∷ x) [] same = absurd (not_nothing a x (is_plain a) refl (same ∙ escaped-nil))
escaped_same (a ∷ x) (b ∷ y) same =
    let parts = first_same a b x y (is_plain a) (is_plain b) refl refl same in
    let rests : x ≡ y = escaped_same x y parts.1 in
    rw (parts.0, rests) refl

-- different ids have different texts
pub id_same : (a b : List ℕ) → IsBytes a → IsBytes b → encode_lower a ≡ encode_lower b → a ≡ b
id_same a b a_bytes b_bytes same =
    let read : Ok a ≡ Ok b = sym (decode_of-encode_lower a a_bytes) ∙ ap decode_of same ∙ decode_of-encode_lower b b_bytes in
    cc

-- different numbers have different texts
pub number_same : (a b : ℕ) → a < 2 ^ 128 → b < 2 ^ 128 → decimal a ≡ decimal b → a ≡ b
number_same a b a_below b_below same =
    sym (decimal_is_IsNumeral_wide a (omega arith)).1 ∙ ap (digits_value 10) same ∙ (decimal_is_IsNumeral_wide b (omega arith)).1
