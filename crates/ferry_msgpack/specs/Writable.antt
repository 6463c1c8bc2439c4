-- Which values can be written.
use Rattle.std.specs.Prelude.{◌≡◌, ℕ, suc, ◌^◌, ◌<◌, ◌≤◌, max, List, length, ℤ, pos, neg_ℤ, ◌≤ℤ◌, ◌<ℤ◌, ⊤}
use Rattle.std.specs.Ordering.{nat_cmp}
use Rattle.std.specs.declared.cmp.Ordering.TheVariants.{Less}
use Rattle.std.specs.Cmp.Lexicographic.{slice_cmp}
use Rattle.ferry_msgpack.specs.Tree.{Tree, nil, flag, number, raw, array, table, Items, no_items, item, items_count, Pairs, no_pairs, pair, pairs_count}

-- how many arrays and maps stand inside each other at most
abbrev mutual
  pub depth : Tree → ℕ
  depth nil = 0
  depth (flag b) = 0
  depth (number z) = 0
  depth (raw content) = 0
  depth (array items) = suc (items_depth items)
  depth (table pairs) = suc (pairs_depth pairs)

  pub items_depth : Items → ℕ
  items_depth no_items = 0
  items_depth (item t ts) = max (depth t) (items_depth ts)

  pub pairs_depth : Pairs → ℕ
  pairs_depth no_pairs = 0
  pairs_depth (pair k t ps) = max (depth t) (pairs_depth ps)

-- a number that 64 bits hold, with a sign or without one
abbrev pub IsNumber : ℤ → Type 0
IsNumber z = (neg_ℤ (pos (2 ^ 63)) ≤ℤ z) × (z <ℤ pos (2 ^ 64))

-- the key is below the first of the pairs, by byte order
abbrev pub IsBelow : List ℕ → Pairs → Type 0
IsBelow k no_pairs = ⊤
IsBelow k (pair l t ps) = slice_cmp nat_cmp k l ≡ Less

-- each key is below the next one
abbrev pub IsIncreasing : Pairs → Type 0
IsIncreasing no_pairs = ⊤
IsIncreasing (pair k t ps) = IsBelow k ps × IsIncreasing ps

-- Numbers are such numbers, lengths are below 2 ^ 32, and the keys of each table increase.
abbrev mutual
  pub Fits : Tree → Type 0
  Fits nil = ⊤
  Fits (flag b) = ⊤
  Fits (number z) = IsNumber z
  Fits (raw content) = length content < 2 ^ 32
  Fits (array items) = (items_count items < 2 ^ 32) × ItemsFit items
  Fits (table pairs) = (pairs_count pairs < 2 ^ 32) × IsIncreasing pairs × PairsFit pairs

  pub ItemsFit : Items → Type 0
  ItemsFit no_items = ⊤
  ItemsFit (item t ts) = Fits t × ItemsFit ts

  pub PairsFit : Pairs → Type 0
  PairsFit no_pairs = ⊤
  PairsFit (pair k t ps) = (length k < 2 ^ 32) × Fits t × PairsFit ps

-- a value that can be written
pub record IsWritable (t : Tree) : Type 0 where
  pub depth_fits : depth t ≤ 64
  pub fits : Fits t
