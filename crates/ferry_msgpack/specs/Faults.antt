-- The first broken rule, from the left and depth first: what stands before it is spelled right.
use Rattle.std.specs.Prelude.{◌≡◌, ℕ, suc, ◌<◌, List, [], ◌∷◌, ◌++◌, length, true, false, ⊤}
use Rattle.std.specs.Int.{Width, byte_len}
use Rattle.ferry_msgpack.specs.declared.fault.PackFault.{PackFault}
use Rattle.ferry_msgpack.specs.declared.fault.PackFault.TheVariants.{Short, Kind, Key, Repeat, Deep}
use Rattle.ferry_msgpack.specs.Tree.{Tree, Pairs, no_pairs, has_key, put}
use Rattle.ferry_msgpack.specs.First.{Count, behind, First, no_value, unsigned_number, signed_number, raw_value, array_value, map_value, Row}
use Rattle.ferry_msgpack.specs.Spelling.{Counts, SpellsRaw, SpellsWithin}

-- these bytes, behind the first byte, end before the count does
abbrev pub CountEnds : Count → List ℕ → Type 0
CountEnds (behind w) bytes = length bytes < byte_len w
CountEnds _ bytes = ⊥

-- these bytes, behind a raw's first byte, end before its length or its bytes do
pub data RawEnds : Count → List ℕ → Type 0 where
  ends_in_length : (c : Count) (bytes : List ℕ) → CountEnds c bytes → RawEnds c bytes
  ends_in_content : (c : Count) (n : ℕ) (count rest : List ℕ) → Counts c n count → length rest < n → RawEnds c (count ++ rest)

-- the first byte of a value that is no raw
abbrev pub IsOtherValue : First → Type 0
IsOtherValue no_value = ⊥
IsOtherValue (raw_value c) = ⊥
IsOtherValue _ = ⊤

-- the first broken rule where a key stands
pub data BreaksKey : List ℕ → PackFault → Type 0 where
  key_missing : BreaksKey [] Short
  key_refused : (b : ℕ) (rest : List ℕ) → Row b no_value → BreaksKey (b ∷ rest) Kind
  key_not_raw : (b : ℕ) (first : First) (rest : List ℕ) → Row b first → IsOtherValue first → BreaksKey (b ∷ rest) Key
  key_ends : (b : ℕ) (c : Count) (rest : List ℕ) → Row b (raw_value c) → RawEnds c rest → BreaksKey (b ∷ rest) Short

-- the first broken rule where a value stands, inside which so many arrays and maps may stand
mutual
  pub data BreaksWithin : ℕ → List ℕ → PackFault → Type 0 where
    value_missing : (d : ℕ) → BreaksWithin d [] Short
    value_refused : (d b : ℕ) (rest : List ℕ) → Row b no_value → BreaksWithin d (b ∷ rest) Kind
    unsigned_ends : (d b : ℕ) (w : Width) (rest : List ℕ) → Row b (unsigned_number w) → length rest < byte_len w → BreaksWithin d (b ∷ rest) Short
    signed_ends : (d b : ℕ) (w : Width) (rest : List ℕ) → Row b (signed_number w) → length rest < byte_len w → BreaksWithin d (b ∷ rest) Short
    raw_ends : (d b : ℕ) (c : Count) (rest : List ℕ) → Row b (raw_value c) → RawEnds c rest → BreaksWithin d (b ∷ rest) Short
    array_too_deep : (b : ℕ) (c : Count) (rest : List ℕ) → Row b (array_value c) → BreaksWithin 0 (b ∷ rest) Deep
    map_too_deep : (b : ℕ) (c : Count) (rest : List ℕ) → Row b (map_value c) → BreaksWithin 0 (b ∷ rest) Deep
    array_ends : (d b : ℕ) (c : Count) (rest : List ℕ) → Row b (array_value c) → CountEnds c rest → BreaksWithin (suc d) (b ∷ rest) Short
    map_ends : (d b : ℕ) (c : Count) (rest : List ℕ) → Row b (map_value c) → CountEnds c rest → BreaksWithin (suc d) (b ∷ rest) Short
    in_array : (d b : ℕ) (c : Count) (n : ℕ) (count rest : List ℕ) (fault : PackFault) → Row b (array_value c) → Counts c n count
        → BreaksItems d n rest fault → BreaksWithin (suc d) (b ∷ (count ++ rest)) fault
    in_map : (d b : ℕ) (c : Count) (n : ℕ) (count rest : List ℕ) (fault : PackFault) → Row b (map_value c) → Counts c n count
        → BreaksPairs d n no_pairs rest fault → BreaksWithin (suc d) (b ∷ (count ++ rest)) fault

  -- the same where n values stand one behind the other
  pub data BreaksItems : ℕ → ℕ → List ℕ → PackFault → Type 0 where
    in_first_item : (d n : ℕ) (bytes : List ℕ) (fault : PackFault) → BreaksWithin d bytes fault → BreaksItems d (suc n) bytes fault
    in_later_item : (d n : ℕ) (t : Tree) (front rest : List ℕ) (fault : PackFault) → SpellsWithin d t front → BreaksItems d n rest fault
        → BreaksItems d (suc n) (front ++ rest) fault

  -- the same where n pairs stand behind these pairs of their map
  pub data BreaksPairs : ℕ → ℕ → Pairs → List ℕ → PackFault → Type 0 where
    in_key : (d n : ℕ) (before : Pairs) (bytes : List ℕ) (fault : PackFault) → BreaksKey bytes fault → BreaksPairs d (suc n) before bytes fault
    key_stands_before : (d n : ℕ) (before : Pairs) (key front rest : List ℕ) → SpellsRaw key front → has_key key before ≡ true
        → BreaksPairs d (suc n) before (front ++ rest) Repeat
    in_value : (d n : ℕ) (before : Pairs) (key front rest : List ℕ) (fault : PackFault) → SpellsRaw key front → has_key key before ≡ false
        → BreaksWithin d rest fault → BreaksPairs d (suc n) before (front ++ rest) fault
    in_later_pair : (d n : ℕ) (before : Pairs) (key : List ℕ) (t : Tree) (front middle rest : List ℕ) (fault : PackFault) → SpellsRaw key front
        → has_key key before ≡ false
        → SpellsWithin d t middle → BreaksPairs d n (put key t before) rest fault → BreaksPairs d (suc n) before (front ++ (middle ++ rest)) fault

-- the first broken rule of a value of which at most 64 arrays and maps may stand inside each other
abbrev pub Breaks : List ℕ → PackFault → Type 0
Breaks bytes fault = BreaksWithin 64 bytes fault
