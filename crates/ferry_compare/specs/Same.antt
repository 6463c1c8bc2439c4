-- When two msgpack values are the same, as a test that computes.
use Rattle.std.specs.Prelude.{Bool, true, false, ◌&&◌}
use Rattle.std.specs.Bool.{beq}
use Rattle.std.specs.Ordering.{int_eq}
use Rattle.std.specs.Str.{bytes_eq}
use Rattle.ferry_msgpack.specs.Tree.{Tree, nil, flag, number, raw, array, table, Items, no_items, item, Pairs, no_pairs, pair}

-- whether two values are the same: of one kind, with the same number, bytes or parts in the same order
abbrev mutual
  pub same_tree : Tree → Tree → Bool
  same_tree nil nil = true
  same_tree (flag a) (flag b) = beq a b
  same_tree (number a) (number b) = int_eq a b
  same_tree (raw a) (raw b) = bytes_eq a b
  same_tree (array a) (array b) = same_items a b
  same_tree (table a) (table b) = same_pairs a b
  same_tree a b = false

  pub same_items : Items → Items → Bool
  same_items no_items no_items = true
  same_items no_items (item u us) = false
  same_items (item t ts) no_items = false
  same_items (item t ts) (item u us) = same_tree t u && same_items ts us

  pub same_pairs : Pairs → Pairs → Bool
  same_pairs no_pairs no_pairs = true
  same_pairs no_pairs (pair l u us) = false
  same_pairs (pair k t ts) no_pairs = false
  same_pairs (pair k t ts) (pair l u us) = bytes_eq k l && (same_tree t u && same_pairs ts us)
