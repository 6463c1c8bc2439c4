-- The least of two pairs of a key and its place, for the contracts of the log's parts.
use Rattle.std.specs.Prelude.{ℕ, List, Option, Some, None, cond}
use Rattle.std.specs.Ordering.{is_lt}
use Rattle.ferry_log.specs.Live.{key_cmp}
use Rattle.ferry_log.specs.declared.place.Place.{Place}

-- the pair with the lesser key, the first where they are the same
abbrev pub lesser_pair : Option (List ℕ × Place) → Option (List ℕ × Place) → Option (List ℕ × Place)
lesser_pair None b = b
lesser_pair (Some a) None = Some a
lesser_pair (Some a) (Some b) = cond (is_lt (key_cmp b.0 a.0)) (Some b) (Some a)
