-- What the values of the known names of `config` say.
use Rattle.std.specs.Prelude.{ℕ, ◌+◌, ◌-◌, ◌*◌, ◌==◌, ◌&&◌, nat_le, not, Bool, if◌then◌else◌, List, [], ◌∷◌, slice_index, codes, Option, Some, None}
use Rattle.std.specs.Result.{result_ok}
use Rattle.std.specs.Str.{all_ascii_digits, bytes_eq}
use Rattle.hex.specs.Hex.{decode_sized}
use Rattle.base64.specs.Engines.{standard}
use Rattle.base64.specs.GeneralPurpose.{decode_of}

-- `version`: whether it is 1
abbrev pub is_version_1 : List ℕ → Bool
is_version_1 text = bytes_eq text (codes "1")

-- `id`: the 32 bytes of 64 hex digits
unfoldable pub id_of : List ℕ → Option (List ℕ)
id_of text = result_ok (decode_sized text 32)

-- `key`: the bytes of a base64 text with padding, under the standard alphabet (RFC 4648, section 4); no bytes of an empty text
unfoldable pub key_of : List ℕ → Option (List ℕ)
key_of text = result_ok (decode_of standard text)

-- the number that decimal digits spell, from the one that the digits before them spell
unfoldable pub number_from : ℕ → List ℕ → ℕ
number_from before [] = before
number_from before (digit ∷ rest) = number_from (10 * before + (digit - 48)) rest

-- the greatest number that is taken
abbrev pub greatest : ℕ
greatest = 4294967295

-- a number in decimal digits, the first of which isn't 0, from 1 to the greatest
unfoldable pub number_of : List ℕ → Option ℕ
number_of text =
    if all_ascii_digits text && (not (slice_index text 0 == 48)
    && (nat_le 1 (number_from 0 text) && nat_le (number_from 0 text) greatest))
    then Some (number_from 0 text) else None
