-- The one spelling that is written. msgpack specification, "Formats": the shortest form of a number, the shortest head
-- of an array or map, and of a raw the first of fixstr, str 16 and str 32 that fits, which every reader knows.
use Rattle.std.specs.Prelude.{ℕ, ◌+◌, ◌^◌, List, [], ◌∷◌, ◌++◌, length, true, false, ℤ, pos, neg_ℤ, nat_lt, int_lt, if◌then◌else◌}
use Rattle.std.specs.Int.{Width, w8, w16, w32, w64, to_be_bytes, cast_unsigned}
use Rattle.ferry_msgpack.specs.Tree.{Tree, nil, flag, number, raw, array, table, Items, no_items, item, items_count, Pairs, no_pairs, pair, pairs_count}

-- a number in so many bytes, in two's complement where it is below 0
abbrev pub bytes_of : Width → ℤ → List ℕ
bytes_of w z = to_be_bytes w (cast_unsigned w z)

-- A number from -32 to 127 is a byte of its own. Others have a first byte, and the least of 1, 2, 4 and 8 bytes
-- that hold them: with a sign below 0, without one above.
unfoldable pub shortest_number : ℤ → List ℕ
shortest_number z =
    if int_lt z (neg_ℤ (pos 0x80000000)) then 0xd3 ∷ bytes_of w64 z else (
    if int_lt z (neg_ℤ (pos 0x8000)) then 0xd2 ∷ bytes_of w32 z else (
    if int_lt z (neg_ℤ (pos 0x80)) then 0xd1 ∷ bytes_of w16 z else (
    if int_lt z (neg_ℤ (pos 0x20)) then 0xd0 ∷ bytes_of w8 z else (
    if int_lt z (pos 0x80) then bytes_of w8 z else (
    if int_lt z (pos 0x100) then 0xcc ∷ bytes_of w8 z else (
    if int_lt z (pos 0x10000) then 0xcd ∷ bytes_of w16 z else (
    if int_lt z (pos 0x100000000) then 0xce ∷ bytes_of w32 z else
    0xcf ∷ bytes_of w64 z)))))))

-- A count below small is added to the first byte. Others stand behind a first byte of their own, in 2 bytes or in 4.
unfoldable pub shortest_count : (first small two four n : ℕ) → List ℕ
shortest_count first small two four n =
    if nat_lt n small then (first + n) ∷ [] else (
    if nat_lt n (2 ^ 16) then two ∷ to_be_bytes w16 n else
    four ∷ to_be_bytes w32 n)

abbrev pub raw_head : ℕ → List ℕ
raw_head n = shortest_count 0xa0 0x20 0xda 0xdb n

abbrev pub array_head : ℕ → List ℕ
array_head n = shortest_count 0x90 0x10 0xdc 0xdd n

abbrev pub map_head : ℕ → List ℕ
map_head n = shortest_count 0x80 0x10 0xde 0xdf n

abbrev pub shortest_raw : List ℕ → List ℕ
shortest_raw content = raw_head (length content) ++ content

abbrev mutual
  pub shortest : Tree → List ℕ
  shortest nil = 0xc0 ∷ []
  shortest (flag false) = 0xc2 ∷ []
  shortest (flag true) = 0xc3 ∷ []
  shortest (number z) = shortest_number z
  shortest (raw content) = shortest_raw content
  shortest (array items) = array_head (items_count items) ++ shortest_items items
  shortest (table pairs) = map_head (pairs_count pairs) ++ shortest_pairs pairs

  pub shortest_items : Items → List ℕ
  shortest_items no_items = []
  shortest_items (item t ts) = shortest t ++ shortest_items ts

  -- The pairs of a table stand in byte order of their keys.
  pub shortest_pairs : Pairs → List ℕ
  shortest_pairs no_pairs = []
  shortest_pairs (pair k t ps) = shortest_raw k ++ (shortest t ++ shortest_pairs ps)
