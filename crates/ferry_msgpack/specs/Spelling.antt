-- Which bytes spell a value: all of the spellings that are read. msgpack specification, "Formats".
-- Numbers and lengths stand with their highest byte first, and may be spelled longer than needed.
use Rattle.std.specs.Prelude.{◌≡◌, ℕ, suc, List, [], ◌∷◌, ◌++◌, length, false, pos}
use Rattle.std.specs.Int.{Width, byte_len, from_be_bytes, cast_signed}
use Rattle.ferry_msgpack.specs.Tree.{Tree, nil, flag, number, raw, array, table, Items, no_items, item, items_count, Pairs, no_pairs, has_key, put}
use Rattle.ferry_msgpack.specs.First.{Count, given, behind, nil_value, flag_value, small_number, unsigned_number, signed_number, raw_value, array_value}
use Rattle.ferry_msgpack.specs.First.{map_value, Row}

-- these bytes, behind the first byte, give this count
abbrev pub Counts : Count → ℕ → List ℕ → Type 0
Counts (given n) count bytes = (count ≡ n) × (bytes ≡ [])
Counts (behind w) count bytes = (count ≡ from_be_bytes w bytes) × (length bytes ≡ byte_len w)

-- a raw: its length, and then its bytes
pub data SpellsRaw : List ℕ → List ℕ → Type 0 where
  spells_raw : (b : ℕ) (c : Count) (count content : List ℕ) → Row b (raw_value c) → Counts c (length content) count → SpellsRaw content (b ∷ (count ++ content))

-- The bytes spell the value, in which at most so many arrays and maps stand inside each other.
mutual
  pub data SpellsWithin : ℕ → Tree → List ℕ → Type 0 where
    spells_nil : (d b : ℕ) → Row b nil_value → SpellsWithin d nil (b ∷ [])
    spells_flag : (d b : ℕ) (f : _) → Row b (flag_value f) → SpellsWithin d (flag f) (b ∷ [])
    spells_small : (d b : ℕ) (z : _) → Row b (small_number z) → SpellsWithin d (number z) (b ∷ [])
    spells_unsigned : (d b : ℕ) (w : Width) (bytes : List ℕ) → Row b (unsigned_number w) → length bytes ≡ byte_len w
        → SpellsWithin d (number (pos (from_be_bytes w bytes))) (b ∷ bytes)
    spells_signed : (d b : ℕ) (w : Width) (bytes : List ℕ) → Row b (signed_number w) → length bytes ≡ byte_len w
        → SpellsWithin d (number (cast_signed w (from_be_bytes w bytes))) (b ∷ bytes)
    spells_bytes : (d : ℕ) (content bytes : List ℕ) → SpellsRaw content bytes → SpellsWithin d (raw content) bytes
    spells_array : (d b : ℕ) (c : Count) (items : Items) (count body : List ℕ) → Row b (array_value c) → Counts c (items_count items) count
        → SpellsItems d items body → SpellsWithin (suc d) (array items) (b ∷ (count ++ body))
    spells_map : (d b : ℕ) (c : Count) (n : ℕ) (pairs : Pairs) (count body : List ℕ) → Row b (map_value c) → Counts c n count
        → SpellsPairs d n no_pairs pairs body → SpellsWithin (suc d) (table pairs) (b ∷ (count ++ body))

  -- the values of an array, one behind the other
  pub data SpellsItems : ℕ → Items → List ℕ → Type 0 where
    spells_no_items : (d : ℕ) → SpellsItems d no_items []
    spells_item : (d : ℕ) (t : Tree) (ts : Items) (front rest : List ℕ) → SpellsWithin d t front → SpellsItems d ts rest
        → SpellsItems d (item t ts) (front ++ rest)

  -- n more pairs of a map, each key a raw that doesn't stand before: with the pairs before them they are these pairs
  pub data SpellsPairs : ℕ → ℕ → Pairs → Pairs → List ℕ → Type 0 where
    spells_no_pairs : (d : ℕ) (pairs : Pairs) → SpellsPairs d 0 pairs pairs []
    spells_pair : (d n : ℕ) (before pairs : Pairs) (key : List ℕ) (t : Tree) (front middle rest : List ℕ) → SpellsRaw key front → has_key key before ≡ false
        → SpellsWithin d t middle → SpellsPairs d n (put key t before) pairs rest → SpellsPairs d (suc n) before pairs (front ++ (middle ++ rest))

-- At most 64 arrays and maps stand inside each other.
abbrev pub Spells : Tree → List ℕ → Type 0
Spells t bytes = SpellsWithin 64 t bytes
