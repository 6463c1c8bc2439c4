-- Values of packed maps.
use Rattle.std.specs.Prelude.{ℕ, List, [], ◌∷◌, Option, Some, None, unwrap_or}
use Rattle.ferry_msgpack.specs.Tree.{Tree, raw, Items, no_items, item, Pairs, no_pairs}
use Rattle.ferry_fields.specs.Fields.{pairs_in}

-- the pairs of a table
abbrev pub pairs_of_table : Tree → Pairs
pairs_of_table t = unwrap_or (pairs_in t) no_pairs

-- these bytes as the values of an array
unfoldable pub raws : List (List ℕ) → Items
raws [] = no_items
raws (content ∷ contents) = item (raw content) (raws contents)

-- what is said of a name: this where it is absent, or else what its value says
abbrev pub where_absent : {A : Type 0} → A → (Tree → Option A) → Option Tree → Option A
where_absent absent says None = Some absent
where_absent absent says (Some t) = says t
