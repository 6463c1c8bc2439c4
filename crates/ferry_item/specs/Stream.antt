-- An item stream, whole or in pieces. BorgBackup 1.2 Internals, "Data structures and file formats", Archives: the items
-- are packed one behind the other, and the stream is cut into chunks anywhere.
use Rattle.std.specs.Prelude.{◌≡◌, ◌≢◌, ℕ, List, [], ◌∷◌, ◌++◌, Option, Some, None, Result, Ok, Err}
use Rattle.ferry_msgpack.specs.declared.fault.PackFault.{PackFault}
use Rattle.ferry_msgpack.specs.declared.fault.PackFault.TheVariants as rule
use Rattle.ferry_msgpack.specs.Tree.{Tree, Pairs, table}
use Rattle.ferry_msgpack.specs.Spelling.{Spells}
use Rattle.ferry_msgpack.specs.Faults.{Breaks}
use Rattle.ferry_msgpack.specs.Reading.{value_at}
use Rattle.ferry_fields.specs.Fields.{pairs_in}
use Rattle.ferry_item.specs.Item.{ItemText, item_of, item_of_value}
use Rattle.ferry_item.specs.declared.fault.ItemFault.{ItemFault}
use Rattle.ferry_item.specs.declared.fault.ItemFault.TheVariants.{Pack, Memory}

-- what stands at the front of bytes of a stream: an item and the bytes behind it, nothing as long as no more bytes come,
-- or a fault
pub data Front : Type 0 where
  an_item : ItemText → List ℕ → Front
  nothing_yet : Front
  a_fault : ItemFault → Front

-- the front that each case of the standard gives
pub data StandsInFront : List ℕ → Front → Type 0 where
  item_stands : (pairs : Pairs) (text : ItemText) (front rest : List ℕ) → Spells (table pairs) front → item_of pairs ≡ Ok text
      → StandsInFront (front ++ rest) (an_item text rest)
  item_is_faulty : (pairs : Pairs) (fault : ItemFault) (front rest : List ℕ) → Spells (table pairs) front → item_of pairs ≡ Err fault
      → StandsInFront (front ++ rest) (a_fault fault)
  no_map_stands : (t : Tree) (front rest : List ℕ) → Spells t front → pairs_in t ≡ None → StandsInFront (front ++ rest) (a_fault Pack)
  rule_is_broken : (bytes : List ℕ) (broken : PackFault) → Breaks bytes broken → broken ≢ rule.Short → StandsInFront bytes (a_fault Pack)
  value_ends : (bytes : List ℕ) → Breaks bytes rule.Short → StandsInFront bytes nothing_yet

-- the item or the fault, with these bytes behind it
abbrev pub front_of : Result ItemText ItemFault → List ℕ → Front
front_of (Ok text) rest = an_item text rest
front_of (Err fault) rest = a_fault fault

-- the fault where a rule of a value is broken; none where the bytes end before it does
abbrev pub fault_of_rule : PackFault → Option ItemFault
fault_of_rule rule.Short = None
fault_of_rule rule.Kind = Some Pack
fault_of_rule rule.Key = Some Pack
fault_of_rule rule.Repeat = Some Pack
fault_of_rule rule.Deep = Some Pack
fault_of_rule rule.Memory = Some Memory

-- this fault, or nothing
abbrev pub front_of_fault : Option ItemFault → Front
front_of_fault None = nothing_yet
front_of_fault (Some fault) = a_fault fault

-- the front that a value gives, or the first broken rule
abbrev pub front_read : Result (Tree × List ℕ) PackFault → Front
front_read (Ok x) = front_of (item_of_value x.0) x.1
front_read (Err broken) = front_of_fault (fault_of_rule broken)

-- what stands at the front of bytes, as a function
unfoldable pub front_item : List ℕ → Front
front_item bytes = front_read (value_at 64 bytes)

-- the bytes are exactly the spellings of these items, one behind the other
pub data ItemsOf : List ℕ → List ItemText → Type 0 where
  no_more_items : ItemsOf [] []
  one_more_item : (pairs : Pairs) (text : ItemText) (front rest : List ℕ) (items : List ItemText) → Spells (table pairs) front → item_of pairs ≡ Ok text
      → ItemsOf rest items → ItemsOf (front ++ rest) (text ∷ items)

-- how the reading of a stream ends: with bytes left in which nothing stands, none maybe, or with a fault
pub data End : Type 0 where
  bytes_left : List ℕ → End
  fault_found : ItemFault → End

-- From these bytes, with these pieces fed one after another where nothing stands in front, come these items and this end.
pub data Reads : List ℕ → List (List ℕ) → List ItemText → End → Type 0 where
  reads_item : (bytes rest : List ℕ) (pieces : List (List ℕ)) (text : ItemText) (items : List ItemText) (end : End) → front_item bytes ≡ an_item text rest
      → Reads rest pieces items end → Reads bytes pieces (text ∷ items) end
  feeds_piece : (bytes piece : List ℕ) (pieces : List (List ℕ)) (items : List ItemText) (end : End) → front_item bytes ≡ nothing_yet
      → Reads (bytes ++ piece) pieces items end → Reads bytes (piece ∷ pieces) items end
  ends : (bytes : List ℕ) → front_item bytes ≡ nothing_yet → Reads bytes [] [] (bytes_left bytes)
  fails : (bytes : List ℕ) (pieces : List (List ℕ)) (fault : ItemFault) → front_item bytes ≡ a_fault fault → Reads bytes pieces [] (fault_found fault)

-- the pieces one behind the other
abbrev pub joined : List (List ℕ) → List ℕ
joined [] = []
joined (piece ∷ pieces) = piece ++ joined pieces
