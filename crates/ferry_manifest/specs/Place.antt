-- Where the authentication tag stands in the packed bytes of a manifest. BorgBackup 1.2 Internals, "Data structures and
-- file formats", The manifest: the pair `tam` of the map is a map, whose pair `hmac` is a raw of 64 bytes. msgpack
-- specification, "Formats", for heads and raws.
use Rattle.std.specs.Prelude.{◌≡◌, ◌≢◌, ℕ, suc, ◌<◌, List, [], ◌∷◌, ◌++◌, length, take, codes, if◌then◌else◌, Option, Some, None, option_map}
use Rattle.std.specs.Str.{bytes_eq}
use Rattle.ferry_msgpack.specs.Tree.{Tree}
use Rattle.ferry_msgpack.specs.First.{Count, raw_value, map_value, Row}
use Rattle.ferry_msgpack.specs.Spelling.{Counts, SpellsRaw, Spells}

-- so many spelled pairs of a map, none of which has this name
pub data Passes (name : List ℕ) : ℕ → List ℕ → Type 0 where
  passes_none : Passes name 0 []
  passes_pair : (n : ℕ) (key : List ℕ) (t : Tree) (front middle rest : List ℕ) → SpellsRaw key front → key ≢ name
      → Spells t middle → Passes name n rest → Passes name (suc n) (front ++ (middle ++ rest))

-- the front of a map up to the value of this name: the head of the map, pairs of other names, and the name
pub data LeadsTo (name : List ℕ) : List ℕ → Type 0 where
  leads_to : (b : ℕ) (c : Count) (n passed : ℕ) (count pairs named : List ℕ) → Row b (map_value c) → Counts c n count
      → Passes name passed pairs → passed < n → SpellsRaw name named → LeadsTo name (b ∷ (count ++ (pairs ++ named)))

-- the head of a raw of 64 bytes
pub data Heads64 : List ℕ → Type 0 where
  heads_64 : (b : ℕ) (c : Count) (count : List ℕ) → Row b (raw_value c) → Counts c 64 count → Heads64 (b ∷ count)

-- the bytes are front, the 64 bytes of the authentication tag in their place, and back
pub record TagStands (bytes front tag back : List ℕ) : Type 0 where
  pub outer : List ℕ
  pub inner : List ℕ
  pub head : List ℕ
  pub tam : LeadsTo (codes "tam") outer
  pub hmac : LeadsTo (codes "hmac") inner
  pub raw : Heads64 head
  pub front_is : front ≡ outer ++ (inner ++ head)
  pub size : length tag ≡ 64
  pub parts : bytes ≡ front ++ (tag ++ back)

-- the place where a text first stands in bytes
unfoldable pub first_place : List ℕ → List ℕ → Option ℕ
first_place text [] = None
first_place text (b ∷ bytes) =
    if bytes_eq (take (length text) (b ∷ bytes)) text then Some 0 else option_map suc (first_place text bytes)
