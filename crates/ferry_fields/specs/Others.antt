-- The pairs of a msgpack map whose names aren't those of its fields.
use Rattle.std.specs.Prelude.{ℕ, Bool, false, ◌||◌, if◌then◌else◌, List}
use Rattle.std.specs.List.{list_any}
use Rattle.std.specs.Str.{bytes_eq}
use Rattle.ferry_msgpack.specs.Tree.{Pairs, no_pairs, pair}

-- whether a name is one of these
abbrev pub is_among : List (List ℕ) → List ℕ → Bool
is_among names name = list_any (λ one. bytes_eq name one) names

-- the pairs whose names aren't among these
unfoldable pub without : List (List ℕ) → Pairs → Pairs
without names no_pairs = no_pairs
without names (pair name t pairs) = if is_among names name then without names pairs else pair name t (without names pairs)

-- whether one of the pairs has a name among these
unfoldable pub has_among : List (List ℕ) → Pairs → Bool
has_among names no_pairs = false
has_among names (pair name t pairs) = is_among names name || has_among names pairs
