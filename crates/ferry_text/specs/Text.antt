-- Printed texts. The escape is this project's own; it keeps each text on one line and tells different bytes apart.
use Rattle.std.specs.Prelude.{ℕ, ◌==◌, nat_le, ◌&&◌, not, Bool, if◌then◌else◌, List, [], ◌∷◌, ◌++◌, codes}
use Rattle.std.specs.List.{flat_map}
use Rattle.hex.specs.Hex.{encode_lower}

-- whether a byte is printed as it is: all but those below 32, 127 and the backslash, 92
abbrev pub is_plain : ℕ → Bool
is_plain byte = nat_le 32 byte && not (byte == 127) && not (byte == 92)

-- the escape of a byte: a backslash, an x and its two hex digits in lower case
abbrev pub escape : ℕ → List ℕ
escape byte = codes "\\x" ++ encode_lower (byte ∷ [])

-- the text of one byte
abbrev pub escaped_byte : ℕ → List ℕ
escaped_byte byte = if is_plain byte then byte ∷ [] else escape byte

-- the text of bytes: the texts of each, one behind the other
unfoldable pub escaped : List ℕ → List ℕ
escaped bytes = flat_map escaped_byte bytes
