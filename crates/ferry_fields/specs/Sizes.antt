-- Which values can be written, apart from the lengths in them.
use Rattle.std.specs.Prelude.{⊤}
use Rattle.ferry_msgpack.specs.Tree.{Tree, nil, flag, number, raw, array, table, Items, no_items, item, Pairs, no_pairs, pair}
use Rattle.ferry_msgpack.specs.Writable.{IsNumber, IsIncreasing}

-- Numbers lie from -2^63 to 2^64-1, and the keys of each table increase.
abbrev mutual
  pub IsOrdered : Tree → Type 0
  IsOrdered nil = ⊤
  IsOrdered (flag b) = ⊤
  IsOrdered (number z) = IsNumber z
  IsOrdered (raw content) = ⊤
  IsOrdered (array items) = ItemsOrdered items
  IsOrdered (table pairs) = IsIncreasing pairs × PairsOrdered pairs

  pub ItemsOrdered : Items → Type 0
  ItemsOrdered no_items = ⊤
  ItemsOrdered (item t ts) = IsOrdered t × ItemsOrdered ts

  pub PairsOrdered : Pairs → Type 0
  PairsOrdered no_pairs = ⊤
  PairsOrdered (pair k t ps) = IsOrdered t × PairsOrdered ps
