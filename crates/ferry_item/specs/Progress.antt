-- How far a value at the front of bytes was read, where the bytes end before it does. msgpack specification, "Formats".
use Rattle.std.specs.Prelude.{◌≡◌, ℕ, ◌≤◌, List, [], ◌∷◌, ◌++◌, length, drop, Bool, true, false, Option, Some, None, Result, Ok, Err}
use Rattle.std.specs.Int.{w16, w32}
use Rattle.std.specs.Global.{Vec}
use Rattle.ferry_msgpack.specs.declared.fault.PackFault.{PackFault}
use Rattle.ferry_msgpack.specs.declared.fault.PackFault.TheVariants.{Short}
use Rattle.ferry_msgpack.specs.Tree.{Tree}
use Rattle.ferry_msgpack.specs.First as table
use Rattle.ferry_msgpack.specs.First.{First, no_value, nil_value, flag_value, small_number, unsigned_number, signed_number, raw_value, array_value, map_value}
use Rattle.ferry_msgpack.specs.Reading.{◌>>=◌, first_of, value_at, items_at, pairs_at, key_at, count_at}
use Rattle.ferry_msgpack.specs.View.{pairs_view}
use Rattle.ferry_item.specs.declared.opening.Count.{Count}
use Rattle.ferry_item.specs.declared.opening.Count.TheVariants.{Given, Two, Four}
use Rattle.ferry_item.specs.declared.opening.Opening.{Opening}
use Rattle.ferry_item.specs.declared.opening.Opening.TheVariants.{Array, Map, Raw, Other}
use Rattle.ferry_item.specs.declared.progress.Level.{Level}
use Rattle.ferry_item.specs.declared.progress.Level.TheVariants.{Values, Pairs}

-- ---- what a first byte opens

abbrev pub count_view : Count → table.Count
count_view (Given n) = table.given n
count_view Two = table.behind w16
count_view Four = table.behind w32

-- whether a first byte is that of a raw
abbrev pub is_raw : First → Bool
is_raw (raw_value c) = true
is_raw _ = false

-- whether a first byte opens neither an array nor a map
abbrev pub is_flat : First → Bool
is_flat (array_value c) = false
is_flat (map_value c) = false
is_flat _ = true

-- the first byte opens this
abbrev pub Opens : Opening → First → Type 0
Opens (Array c) first = first ≡ array_value (count_view c)
Opens (Map c) first = first ≡ map_value (count_view c)
Opens Raw first = is_raw first ≡ true
Opens Other first = is_flat first ≡ true

-- the first of the bytes is such a first byte
abbrev pub BeginsWith : List ℕ → (First → Type 0) → Type 0
BeginsWith [] IsSuch = ⊥
BeginsWith (byte ∷ bytes) IsSuch = IsSuch (first_of byte)

-- ---- what is missing

-- the bytes behind what was read
abbrev pub rest_of : {X : Type 0} → Result (X × List ℕ) PackFault → Result (List ℕ) PackFault
rest_of (Ok x) = Ok x.1
rest_of (Err fault) = Err fault

-- the bytes behind all that one level misses, or the first broken rule
unfoldable pub behind_level : Level → List ℕ → Result (List ℕ) PackFault
behind_level (Values depth left) bytes = rest_of (items_at (value_at depth) left bytes)
behind_level (Pairs depth left names) bytes = rest_of (pairs_at (value_at depth) left (pairs_view names.entries) bytes)

-- the same of levels that stand inside each other, the outermost first
unfoldable pub behind_all : List Level → List ℕ → Result (List ℕ) PackFault
behind_all [] bytes = Ok bytes
behind_all (level ∷ inner) bytes = behind_all inner bytes >>= behind_level level

-- the bytes end before all levels have what they miss
unfoldable pub Lacks : List Level → List ℕ → Type 0
Lacks levels bytes = behind_all levels bytes ≡ Err Short

-- where later levels lack bytes behind the rest, these do behind the bytes, whatever follows
unfoldable pub Follows : List Level → List ℕ → List Level → List ℕ → Type 0
Follows levels bytes later rest = (more : List ℕ) → Lacks later (rest ++ more) → Lacks levels (bytes ++ more)

-- So many of the bytes were read, and these levels still miss something: where they lack bytes, the value at the front does.
unfoldable pub IsAhead : List ℕ → ℕ → List Level → Type 0
IsAhead bytes seen levels = (seen ≤ length bytes) × ((more : List ℕ) → Lacks levels (drop seen bytes ++ more) → value_at 64 (bytes ++ more) ≡ Err Short)

-- ---- what the calls say

-- a step past so many bytes, or none where the bytes end
abbrev pub GoesOn : Option ℕ → List Level → List ℕ → List Level → Type 0
GoesOn (Some passed) levels bytes later = (passed ≤ length bytes) × Follows levels bytes later (drop passed bytes)
GoesOn None levels bytes later = (later ≡ levels) × Lacks levels bytes

-- a count, and how many bytes it takes behind the first one; none where the bytes end
abbrev pub IsCount : Option (ℕ × ℕ) → table.Count → List ℕ → Type 0
IsCount (Some x) count bytes = (x.1 ≤ length bytes) × (count_at count bytes ≡ Ok (x.0, drop x.1 bytes))
IsCount None count bytes = count_at count bytes ≡ Err Short

-- a value of so many bytes; none where the bytes end
abbrev pub IsValue : Option ℕ → List ℕ → Type 0
IsValue (Some passed) bytes = (passed ≤ length bytes) × ((t : Tree) × (value_at 64 bytes ≡ Ok (t, drop passed bytes)))
IsValue None bytes = value_at 64 bytes ≡ Err Short

-- a name and how many bytes it takes; none where the bytes end
abbrev pub IsName : Option (Vec ℕ × ℕ) → List ℕ → Type 0
IsName (Some x) bytes = (x.1 ≤ length bytes) × (key_at bytes ≡ Ok (x.0.items, drop x.1 bytes))
IsName None bytes = key_at bytes ≡ Err Short
