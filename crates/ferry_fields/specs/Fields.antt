-- The fields of a msgpack map: the value of a name, and its kind and length.
use Rattle.std.specs.Prelude.{ℕ, ◌==◌, Bool, false, if◌then◌else◌, List, [], ◌∷◌, length, codes, ℤ, pos, negsuc, Option, Some, None, option_and_then, Result}
use Rattle.std.specs.Prelude.{Ok, Err}
use Rattle.std.specs.Option.{option_map_or}
use Rattle.std.specs.Str.{bytes_eq}
use Rattle.ferry_msgpack.specs.declared.fault.PackFault.{PackFault}
use Rattle.ferry_msgpack.specs.Tree.{Tree, nil, flag, number, raw, array, table, Pairs, no_pairs, pair}
use Rattle.ferry_msgpack.specs.Reading.{value_at}

-- the pairs of a value that is a map
abbrev pub pairs_in : Tree → Option Pairs
pairs_in nil = None
pairs_in (flag b) = None
pairs_in (number z) = None
pairs_in (raw content) = None
pairs_in (array items) = None
pairs_in (table pairs) = Some pairs

-- the same where the value was read with nothing behind it
abbrev pub only_map : Result (Tree × List ℕ) PackFault → Option Pairs
only_map (Err fault) = None
only_map (Ok (t, [])) = pairs_in t
only_map (Ok (t, b ∷ bytes)) = None

-- the pairs of the map that these bytes spell, with nothing behind it
unfoldable pub map_of : List ℕ → Option Pairs
map_of bytes = only_map (value_at 64 bytes)

-- the value of a name
unfoldable pub value_of : List ℕ → Pairs → Option Tree
value_of name no_pairs = None
value_of name (pair key t pairs) = if bytes_eq key name then Some t else value_of name pairs

-- the number that a value is
abbrev pub number_of : Tree → Option ℤ
number_of nil = None
number_of (flag b) = None
number_of (number z) = Some z
number_of (raw content) = None
number_of (array items) = None
number_of (table pairs) = None

-- the bytes that a value is
abbrev pub raw_of : Tree → Option (List ℕ)
raw_of nil = None
raw_of (flag b) = None
raw_of (number z) = None
raw_of (raw content) = Some content
raw_of (array items) = None
raw_of (table pairs) = None

-- bytes that are 32
abbrev pub of_32 : List ℕ → Option (List ℕ)
of_32 bytes = if length bytes == 32 then Some bytes else None

-- bytes that are 64
abbrev pub of_64 : List ℕ → Option (List ℕ)
of_64 bytes = if length bytes == 64 then Some bytes else None

-- the number of a name
abbrev pub number_in : List ℕ → Pairs → Option ℤ
number_in name pairs = option_and_then number_of (value_of name pairs)

-- the bytes of a name
abbrev pub raw_in : List ℕ → Pairs → Option (List ℕ)
raw_in name pairs = option_and_then raw_of (value_of name pairs)

-- the 32 bytes of a name
abbrev pub raw32_in : List ℕ → Pairs → Option (List ℕ)
raw32_in name pairs = option_and_then of_32 (raw_in name pairs)

-- the 64 bytes of a name
abbrev pub raw64_in : List ℕ → Pairs → Option (List ℕ)
raw64_in name pairs = option_and_then of_64 (raw_in name pairs)

-- the pairs of a name
abbrev pub map_in : List ℕ → Pairs → Option Pairs
map_in name pairs = option_and_then pairs_in (value_of name pairs)

-- whether a number is 1
abbrev pub is_1 : ℤ → Bool
is_1 (pos n) = n == 1
is_1 (negsuc n) = false

-- whether `version` is there and is 1
abbrev pub has_version_1 : Pairs → Bool
has_version_1 pairs = option_map_or is_1 (number_in (codes "version") pairs) false
