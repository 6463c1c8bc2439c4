-- What a value is, apart from where it lies in memory. msgpack specification, "Type system"; map keys are raw.
use Rattle.std.specs.Prelude.{ℕ, ◌+◌, List, Bool, false, ◌||◌, ℤ}
use Rattle.std.specs.Ordering.{nat_cmp, match_ordering, is_eq}
use Rattle.std.specs.Cmp.Lexicographic.{slice_cmp}

mutual
  pub data Tree : Type 0 where
    nil : Tree
    flag : Bool → Tree
    number : ℤ → Tree
    raw : List ℕ → Tree
    array : Items → Tree
    table : Pairs → Tree

  pub data Items : Type 0 where
    no_items : Items
    item : Tree → Items → Items

  -- keys and values
  pub data Pairs : Type 0 where
    no_pairs : Pairs
    pair : List ℕ → Tree → Pairs → Pairs

-- how many values, and how many pairs
abbrev pub items_count : Items → ℕ
items_count no_items = 0
items_count (item t ts) = items_count ts + 1

abbrev pub pairs_count : Pairs → ℕ
pairs_count no_pairs = 0
pairs_count (pair k t ps) = pairs_count ps + 1

-- one of the pairs has this key
abbrev pub has_key : List ℕ → Pairs → Bool
has_key k no_pairs = false
has_key k (pair l t ps) = is_eq (slice_cmp nat_cmp k l) || has_key k ps

-- the pairs, with this one in its place by the byte order of the keys
abbrev pub put : List ℕ → Tree → Pairs → Pairs
put k t no_pairs = pair k t no_pairs
put k t (pair l u ps) = match_ordering (slice_cmp nat_cmp k l) (pair k t (pair l u ps)) (pair l t ps) (pair l u (put k t ps))
