-- What contracts see of the paths that are known.
use Rattle.std.specs.Prelude.{ℕ, List, Option}
use Rattle.std.specs.BTreeMap.{get_by}
use Rattle.std.specs.Cmp.Lexicographic.{slice_cmp}
use Rattle.std.specs.Ordering.{nat_cmp}
use Rattle.ferry_tree.specs.declared.known.Index.{Index}
use Rattle.ferry_tree.specs.declared.known.Mark.{Mark}

-- what is known of each path
abbrev pub known_in : Index → List ℕ → Option Mark
known_in index path = get_by (λ k. slice_cmp nat_cmp path k.items) index.marks
