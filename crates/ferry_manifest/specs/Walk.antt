-- The place of the authentication tag as a function: the map is walked pair by pair.
use Rattle.std.specs.Prelude.{ℕ, zero, suc, ◌-◌, ◌==◌, ◌&&◌, nat_le, nat_lt, Bool, false, if◌then◌else◌, List, [], ◌∷◌, ◌++◌, length, take, drop, codes}
use Rattle.std.specs.Prelude.{replicate, Option, Some, None, option_and_then, Result, Ok, Err}
use Rattle.std.specs.Int.{Width, w16, w32, byte_len, from_be_bytes}
use Rattle.std.specs.Str.{bytes_eq}
use Rattle.ferry_msgpack.specs.declared.fault.PackFault.{PackFault}
use Rattle.ferry_msgpack.specs.Tree.{Tree, nil, flag, number, raw, array, table}
use Rattle.ferry_msgpack.specs.Reading.{value_at}

-- a number of the width, and what follows it
unfoldable pub count_front : Width → List ℕ → Option (ℕ × List ℕ)
count_front w bytes =
    if nat_lt (length bytes) (byte_len w) then None
    else Some (from_be_bytes w (take (byte_len w) bytes), drop (byte_len w) bytes)

-- how many pairs the map in front has, and what follows its head
unfoldable pub map_front : List ℕ → Option (ℕ × List ℕ)
map_front [] = None
map_front (b ∷ bytes) =
    if nat_le 0x80 b && nat_lt b 0x90 then Some (b - 0x80, bytes)
    else if b == 0xde then count_front w16 bytes
    else if b == 0xdf then count_front w32 bytes
    else None

-- what was read
abbrev pub was_read : Result (Tree × List ℕ) PackFault → Option (Tree × List ℕ)
was_read (Ok x) = Some x
was_read (Err fault) = None

-- the value in front, and what follows it
unfoldable pub value_front : List ℕ → Option (Tree × List ℕ)
value_front bytes = was_read (value_at 64 bytes)

-- whether a value is this raw
abbrev pub is_raw : List ℕ → Tree → Bool
is_raw name nil = false
is_raw name (flag b) = false
is_raw name (number z) = false
is_raw name (raw content) = bytes_eq content name
is_raw name (array items) = false
is_raw name (table pairs) = false

-- what stands behind this name, among so many pairs
unfoldable pub behind_name : List ℕ → ℕ → List ℕ → Option (List ℕ)
behind_name name zero bytes = None
behind_name name (suc n) bytes =
    option_and_then
    (λ key. if is_raw name key.0 then Some key.1
    else option_and_then (λ value. behind_name name n value.1) (value_front key.1))
    (value_front bytes)

-- what stands behind this name in the map in front
unfoldable pub behind_name_in_map : List ℕ → List ℕ → Option (List ℕ)
behind_name_in_map name bytes = option_and_then (λ map. behind_name name map.0 map.1) (map_front bytes)

-- whether a value is a raw of 64 bytes
abbrev pub is_raw64 : Tree → Bool
is_raw64 nil = false
is_raw64 (flag b) = false
is_raw64 (number z) = false
is_raw64 (raw content) = length content == 64
is_raw64 (array items) = false
is_raw64 (table pairs) = false

-- what follows the raw of 64 bytes in front
unfoldable pub behind_raw64 : List ℕ → Option (List ℕ)
behind_raw64 bytes = option_and_then (λ value. if is_raw64 value.0 then Some value.1 else None) (value_front bytes)

-- what follows the authentication tag
unfoldable pub behind_tag : List ℕ → Option (List ℕ)
behind_tag bytes =
    option_and_then behind_raw64
    (option_and_then (behind_name_in_map (codes "hmac")) (behind_name_in_map (codes "tam") bytes))

-- these bytes, with 64 zero bytes before those that follow the tag
abbrev pub zeros_before : List ℕ → Option (List ℕ) → List ℕ
zeros_before bytes None = bytes
zeros_before bytes (Some back) = take (length bytes - length back - 64) bytes ++ (replicate 64 0 ++ back)

-- the bytes with the tag replaced by 64 zero bytes in its place
unfoldable pub zeroed : List ℕ → List ℕ
zeroed bytes = zeros_before bytes (behind_tag bytes)
