use Rattle.std.proofs.Common.{option_map, ◌-◌}
use Rattle.ferry_msgpack.specs.Tree.{no_pairs}
use Rattle.ferry_msgpack.specs.View.{pairs_view}
use Rattle.ferry_msgpack.specs.Reading.{value_at, pairs_at}
use Rattle.ferry_msgpack.proofs.ApartLemmas.{Kept}
use Rattle.ferry_msgpack.proofs.apart.pairs_apart.Given as goal

abbrev pub invariant-pairs : goal.invariant-pairs
invariant-pairs l =
    Kept l.name (value_at 63) (l.count - l.counter) l.rest (pairs_at (value_at 63) l.count no_pairs l.bytes) (pairs_view l.found.entries)
    (option_map (λ all. all.items) l.contents)
