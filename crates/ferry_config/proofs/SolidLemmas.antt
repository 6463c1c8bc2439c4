-- Texts without spaces, tabs and ends of lines: what decimal, hex and base64 write.
use Rattle.std.proofs.Common.{◌≡◌, ℕ, zero, suc, ◌+◌, ◌*◌, ◌/◌, ◌%◌, ◌≤◌, ◌==◌, ◌&&◌, Bool, true, false, not, List, [], ◌∷◌, ◌++◌, length, take, drop}
use Rattle.std.proofs.Common.{get_or, replicate, refl, ap, ◌∙◌, arith, nat_le}
use Rattle.std.proofs.lemmas.Bool.{leb-true}
use Rattle.ferry_config.proofs.BoolLemmas.{and_left, and_right, not_equal, not_true}
use Rattle.std.proofs.lemmas.List.Folds.{list_all-append}
use Rattle.std.specs.Char.{is_ascii_digit}
use Rattle.std.specs.List.{list_all}
use Rattle.std.specs.Str.{all_ascii_digits}
use Rattle.hex.specs.Hex.{encode_lower, encode_with, lower_digits}
use Rattle.base64.specs.Engines.{standard}
use Rattle.base64.specs.GeneralPurpose.{encode_of, engine_symbols}
use Rattle.base64.specs.Rfc4648.{encode_symbols, padding_len}
use Rattle.ferry_config.specs.Line.{is_space, trimmed, trimmed_end, trimmed_front}

-- no space, tab or end of a line
abbrev pub is_solid : ℕ → Bool
is_solid byte = not (byte == 9) && (not (byte == 10) && (not (byte == 13) && not (byte == 32)))

-- each byte of the text is solid
abbrev pub is_solid_text : List ℕ → Bool
is_solid_text text = list_all is_solid text

-- no end of a line
abbrev pub is_inner : ℕ → Bool
is_inner byte = not (byte == 10) && not (byte == 13)

-- ---- what a solid byte isn't

record IsSolid (byte : ℕ) : Type 0 where
  tab : (byte == 9) ≡ false
  feed : (byte == 10) ≡ false
  return : (byte == 13) ≡ false
  space : (byte == 32) ≡ false

parts_of : (byte : ℕ) → is_solid byte ≡ true → IsSolid byte
parts_of byte solid =
    let tab = and_left (not (byte == 9)) _ solid in
    let others = and_right (not (byte == 9)) _ solid in
    let feed = and_left (not (byte == 10)) _ others in
    let last = and_right (not (byte == 10)) _ others in
    record {
      tab = not_true _ tab;
      feed = not_true _ feed;
      return = not_true _ (and_left (not (byte == 13)) _ last);
      space = not_true _ (and_right (not (byte == 13)) _ last);
    }

pub is_space-solid : (byte : ℕ) → is_solid byte ≡ true → is_space byte ≡ false
is_space-solid byte solid = let parts = parts_of byte solid in rw (parts.tab, parts.space) refl

pub is_inner-solid : (byte : ℕ) → is_solid byte ≡ true → is_inner byte ≡ true
is_inner-solid byte solid = let parts = parts_of byte solid in rw (parts.feed, parts.return) refl

-- ---- texts

pub solid-head : (byte : ℕ) (rest : List ℕ) → is_solid_text (byte ∷ rest) ≡ true → is_solid byte ≡ true
solid-head byte rest solid = and_left (is_solid byte) (is_solid_text rest) solid

pub solid-tail : (byte : ℕ) (rest : List ℕ) → is_solid_text (byte ∷ rest) ≡ true → is_solid_text rest ≡ true
solid-tail byte rest solid = and_right (is_solid byte) (is_solid_text rest) solid

pub solid-inner : (text : List ℕ) → is_solid_text text ≡ true → list_all is_inner text ≡ true
solid-inner [] solid = refl
solid-inner (byte ∷ rest) solid = rw (is_inner-solid byte (solid-head byte rest solid)) (solid-inner rest (solid-tail byte rest solid))

pub solid-append : (xs ys : List ℕ) → is_solid_text xs ≡ true → is_solid_text ys ≡ true → is_solid_text (xs ++ ys) ≡ true
solid-append xs ys first second = rw (list_all-append is_solid xs ys, first) second

pub solid-take : (n : ℕ) (text : List ℕ) → is_solid_text text ≡ true → is_solid_text (take n text) ≡ true
solid-take zero text solid = refl
solid-take (suc n) [] solid = refl
solid-take (suc n) (byte ∷ rest) solid = rw (solid-head byte rest solid) (solid-take n rest (solid-tail byte rest solid))

pub solid-drop : (n : ℕ) (text : List ℕ) → is_solid_text text ≡ true → is_solid_text (drop n text) ≡ true
solid-drop zero text solid = solid
solid-drop (suc n) [] solid = refl
solid-drop (suc n) (byte ∷ rest) solid = solid-drop n rest (solid-tail byte rest solid)

-- a solid text is not trimmed
pub trimmed_end-solid : (text : List ℕ) → is_solid_text text ≡ true → trimmed_end text ≡ text
unfolding trimmed_end
trimmed_end-solid [] solid = refl
trimmed_end-solid (byte ∷ rest) solid =
    rw (is_space-solid byte (solid-head byte rest solid)) (ap (λ text. byte ∷ text) (trimmed_end-solid rest (solid-tail byte rest solid)))

pub trimmed_front-solid : (text : List ℕ) → is_solid_text text ≡ true → trimmed_front text ≡ text
unfolding trimmed_front
trimmed_front-solid [] solid = refl
trimmed_front-solid (byte ∷ rest) solid = rw (is_space-solid byte (solid-head byte rest solid)) refl

pub trimmed-solid : (text : List ℕ) → is_solid_text text ≡ true → trimmed text ≡ text
trimmed-solid text solid = ap trimmed_end (trimmed_front-solid text solid) ∙ trimmed_end-solid text solid

-- ---- what is written

-- an element of a solid table, and 0 behind its end
solid-get_or : (table : List ℕ) (i : ℕ) → is_solid_text table ≡ true → is_solid (get_or table i 0) ≡ true
solid-get_or [] i solid = refl
solid-get_or (byte ∷ rest) zero solid = solid-head byte rest solid
solid-get_or (byte ∷ rest) (suc i) solid = solid-get_or rest i (solid-tail byte rest solid)

solid-encode_with : (table bytes : List ℕ) → is_solid_text table ≡ true → is_solid_text (encode_with table bytes) ≡ true
unfolding encode_with
solid-encode_with table [] solid = refl
solid-encode_with table (byte ∷ rest) solid =
    rw (solid-get_or table (byte / 16) solid, solid-get_or table (byte % 16) solid) (solid-encode_with table rest solid)

pub solid-hex : (bytes : List ℕ) → is_solid_text (encode_lower bytes) ≡ true
solid-hex bytes = solid-encode_with lower_digits bytes refl

solid-symbols : (table bytes : List ℕ) → is_solid_text table ≡ true → is_solid_text (encode_symbols table bytes) ≡ true
unfolding encode_symbols
solid-symbols table [] solid = refl
solid-symbols table (a ∷ []) solid =
    rw (solid-get_or table (a / 4) solid, solid-get_or table (a % 4 * 16) solid) refl
solid-symbols table (a ∷ b ∷ []) solid =
    rw (solid-get_or table (a / 4) solid, solid-get_or table (a % 4 * 16 + b / 16) solid, solid-get_or table (b % 16 * 4) solid) refl
solid-symbols table (a ∷ b ∷ c ∷ rest) solid =
    rw (
      solid-get_or table (a / 4) solid,
      solid-get_or table (a % 4 * 16 + b / 16) solid,
      solid-get_or table (b % 16 * 4 + c / 64) solid,
      solid-get_or table
          (c % 64) solid,
    )
    (solid-symbols table rest solid)

solid-replicate : (n : ℕ) → is_solid_text (replicate n 61) ≡ true
solid-replicate zero = refl
solid-replicate (suc n) = solid-replicate n

pub solid-base64 : (bytes : List ℕ) → is_solid_text (encode_of standard bytes) ≡ true
solid-base64 bytes =
    solid-append (encode_symbols (engine_symbols standard) bytes) (replicate (padding_len (length bytes)) 61)
    (solid-symbols (engine_symbols standard) bytes refl) (solid-replicate (padding_len (length bytes)))

digit_solid : (byte : ℕ) → is_ascii_digit byte ≡ true → is_solid byte ≡ true
digit_solid byte digit =
    let least : 48 ≤ byte = leb-true _ _ (and_left (nat_le 48 byte) (nat_le byte 57) digit) in
    rw (
      not_equal byte 9 (λ e. omega arith),
      not_equal byte 10 (λ e. omega arith),
      not_equal byte 13 (λ e. omega arith),
      not_equal byte 32
          (λ e. omega arith),
    ) refl

pub solid-digits : (text : List ℕ) → all_ascii_digits text ≡ true → is_solid_text text ≡ true
solid-digits [] digits = refl
solid-digits (byte ∷ rest) digits =
    rw (digit_solid byte (and_left (is_ascii_digit byte) (all_ascii_digits rest) digits))
    (solid-digits rest (and_right (is_ascii_digit byte) (all_ascii_digits rest) digits))
