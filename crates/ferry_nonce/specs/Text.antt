-- The text of the file `nonce`: which number it spells, and what is written of a number.
use Rattle.std.specs.Prelude.{ℕ, nat_eq, ◌&&◌, if◌then◌else◌, List, length, take, slice_index, Option, Some}
use Rattle.std.specs.Prelude.{None, Result, Ok, Err, ◌≡◌, ◌++◌, ◌∷◌, [], codes, refl}
use Rattle.std.specs.Int.{w64, from_be_bytes, to_be_bytes}
use Rattle.hex.specs.Hex.{encode_lower, encode_with, decode_sized, decode_pairs}
use Rattle.hex.specs.declared.error.FromHexError.{FromHexError}

-- what is written of a number: its 16 hex digits in lower case, and no line feed
abbrev pub number_text : ℕ → List ℕ
number_text number = encode_lower (to_be_bytes w64 number)

-- a text without the line feed that may stand behind 16 digits
abbrev pub digits_of : List ℕ → List ℕ
digits_of text = if nat_eq (length text) 17 && nat_eq (slice_index text 16) 10 then take 16 text else text

-- the number of 8 bytes, the highest first, where there are any
abbrev pub number_of : Result (List ℕ) FromHexError → Option ℕ
number_of (Ok bytes) = Some (from_be_bytes w64 bytes)
number_of (Err fault) = None

-- the number that a text spells
unfoldable pub number_in : List ℕ → Option ℕ
number_in text = number_of (decode_sized (digits_of text) 8)

-- Examples: the first reservation, an old number with a line feed and digits of both cases, and texts that spell none.
pub first_reservation : number_text 268435457 ≡ codes "0000000010000001"
unfolding encode_with
first_reservation = refl

pub both_cases : number_in (codes "00000000000000fF" ++ 10 ∷ []) ≡ Some 255
unfolding number_in decode_pairs
both_cases = refl

pub too_short : number_in (codes "12") ≡ None
unfolding number_in
too_short = refl

pub no_digit : number_in (codes "000000000000000g") ≡ None
unfolding number_in decode_pairs
no_digit = refl
