-- The tree of a `Value`.
use Rattle.std.specs.Prelude.{ℕ, List, [], ◌∷◌, map}
use Rattle.std.specs.Global.{Vec}
use Rattle.ferry_msgpack.specs.Tree.{Tree, nil, flag, number, raw, array, table, Items, no_items, item, Pairs, no_pairs, pair}
use Rattle.ferry_msgpack.specs.declared.value.Value.{Value, fold-Value}
use Rattle.ferry_msgpack.specs.declared.value.Value.TheOpen.{Value-F}

abbrev pub items_of : List Tree → Items
items_of [] = no_items
items_of (t ∷ ts) = item t (items_of ts)

abbrev pub pairs_of : List (Vec ℕ × Tree) → Pairs
pairs_of [] = no_pairs
pairs_of (p ∷ ps) = pair p.0.items p.1 (pairs_of ps)

-- one level, with each value inside already seen as its tree
abbrev pub value_view_step : Value-F Tree → Tree
value_view_step Value-F.Nil = nil
value_view_step (Value-F.Flag b) = flag b
value_view_step (Value-F.Number z) = number z
value_view_step (Value-F.Raw v) = raw v.items
value_view_step (Value-F.Array v) = array (items_of v.items)
value_view_step (Value-F.Table v) = table (pairs_of v.items)

abbrev pub value_view : Value → Tree
value_view = fold-Value Tree value_view_step

abbrev pub items_view : List Value → Items
items_view vs = items_of (map value_view vs)

abbrev pub pairs_view : List (Vec ℕ × Value) → Pairs
pairs_view ps = pairs_of (map (λ p. (p.0, value_view p.1)) ps)
