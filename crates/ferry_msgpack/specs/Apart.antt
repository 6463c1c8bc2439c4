-- A map with the value of one name apart: of an array of raws of 32 bytes its contents alone, and no values.
use Rattle.std.specs.Prelude.{ℕ, ◌==◌, Bool, if◌then◌else◌, List, [], ◌∷◌, ◌++◌, length, Option, Some, None, option_and_then, option_map, Result, Ok}
use Rattle.std.specs.Str.{bytes_eq}
use Rattle.ferry_msgpack.specs.declared.apart.Apart.{Apart}
use Rattle.ferry_msgpack.specs.declared.fault.PackFault.{PackFault}
use Rattle.ferry_msgpack.specs.First.{Count, First, array_value, map_value}
use Rattle.ferry_msgpack.specs.Tree.{Tree, nil, flag, number, raw, array, table, Items, no_items, item, Pairs, no_pairs, pair}
use Rattle.ferry_msgpack.specs.View.{pairs_view}
use Rattle.ferry_msgpack.specs.Reading.{◌>>=◌, first_of, count_at, items_at, pairs_at, value_at}

-- the 32 bytes that a value is
abbrev pub raw32_of : Tree → Option (List ℕ)
raw32_of nil = None
raw32_of (flag b) = None
raw32_of (number z) = None
raw32_of (raw content) = if length content == 32 then Some content else None
raw32_of (array items) = None
raw32_of (table pairs) = None

-- the 32 bytes that each of these values is, where all are such raws
unfoldable pub contents_in : Items → Option (List (List ℕ))
contents_in no_items = Some []
contents_in (item t ts) = option_and_then (λ content. option_map (λ contents. content ∷ contents) (contents_in ts)) (raw32_of t)

-- the contents of an array of such raws
abbrev pub contents_of : Tree → Option (List (List ℕ))
contents_of nil = None
contents_of (flag b) = None
contents_of (number z) = None
contents_of (raw content) = None
contents_of (array items) = contents_in items
contents_of (table pairs) = None

-- the contents of the value of a name
unfoldable pub contents_under : List ℕ → Pairs → Option (List (List ℕ))
contents_under name no_pairs = None
contents_under name (pair key t pairs) = if bytes_eq key name then contents_of t else contents_under name pairs

-- the pairs, that of the name with nil for its value
unfoldable pub blanked : List ℕ → Pairs → Pairs
blanked name no_pairs = no_pairs
blanked name (pair key t pairs) = pair key (if bytes_eq key name then nil else t) (blanked name pairs)

-- pairs, and the contents of the value that is apart
abbrev pub Parts : Type 0
Parts = Pairs × Option (List (List ℕ))

-- what an `Apart` says, apart from where its values lie in memory
abbrev pub apart_view : Apart → Parts
apart_view apart = (pairs_view apart.pairs.items, option_map (λ all. all.items) apart.contents)

-- the pairs of a map with the value of the name apart
abbrev pub parted : List ℕ → Pairs → Parts
parted name pairs = (blanked name pairs, contents_under name pairs)

-- the same of a value that is a map
abbrev pub parts_of : List ℕ → Tree → Option Parts
parts_of name nil = None
parts_of name (flag b) = None
parts_of name (number z) = None
parts_of name (raw content) = None
parts_of name (array items) = None
parts_of name (table pairs) = Some (parted name pairs)

-- a value in front, where it is a map with the value of the name apart, and what follows it
unfoldable pub parts_at : List ℕ → List ℕ → Result (Option Parts × List ℕ) PackFault
parts_at name bytes = do
  value ← value_at 64 bytes
  Ok (parts_of name value.0, value.1)

-- the count of an array that begins in front, and what follows its first byte
abbrev pub array_by : First → List ℕ → Option (Count × List ℕ)
array_by (array_value c) bytes = Some (c, bytes)
array_by _ bytes = None

abbrev pub array_front : List ℕ → Option (Count × List ℕ)
array_front [] = None
array_front (b ∷ bytes) = array_by (first_of b) bytes

-- the count of a map that begins in front, and what follows its first byte
abbrev pub map_by : First → List ℕ → Option (Count × List ℕ)
map_by (map_value c) bytes = Some (c, bytes)
map_by _ bytes = None

abbrev pub map_front : List ℕ → Option (Count × List ℕ)
map_front [] = None
map_front (b ∷ bytes) = map_by (first_of b) bytes

-- contents, and one more, where both are there
abbrev pub with_content : Option (List (List ℕ)) → Option (List ℕ) → Option (List (List ℕ))
with_content contents content = option_and_then (λ all. option_map (λ one. all ++ one ∷ []) content) contents

-- what of the values of an array is kept, and what follows them
abbrev pub items_apart : Result (Items × List ℕ) PackFault → Result (Option (List (List ℕ)) × List ℕ) PackFault
items_apart read = read >>= λ x. Ok (contents_in x.0, x.1)

-- what of the value that is apart is kept, and what follows it
abbrev pub value_apart : Result (Tree × List ℕ) PackFault → Result (Option (List (List ℕ)) × List ℕ) PackFault
value_apart read = read >>= λ x. Ok (contents_of x.0, x.1)

-- the same of an array behind its first byte
abbrev pub array_apart : Count → List ℕ → Result (Option (List (List ℕ)) × List ℕ) PackFault
array_apart c bytes = count_at c bytes >>= λ n. items_apart (items_at (value_at 62) n.0 n.1)

-- what of a pair's value is kept with the contents before it, and what follows it
abbrev pub pair_apart : Bool → Option (List (List ℕ)) → Result (Tree × List ℕ) PackFault
    → Result (Tree × Option (List (List ℕ)) × List ℕ) PackFault
pair_apart is_apart contents read =
    read >>= λ x. Ok (if is_apart then nil else x.0, if is_apart then contents_of x.0 else contents, x.1)

-- what of the pairs of a map is kept, and what follows them
abbrev pub pairs_apart : List ℕ → Result (Pairs × List ℕ) PackFault → Result (Parts × List ℕ) PackFault
pairs_apart name read = read >>= λ x. Ok (parted name x.0, x.1)

-- the same of the outermost map behind its first byte
abbrev pub table_apart : List ℕ → Count → List ℕ → Result (Parts × List ℕ) PackFault
table_apart name c bytes = count_at c bytes >>= λ n. pairs_apart name (pairs_at (value_at 63) n.0 no_pairs n.1)
