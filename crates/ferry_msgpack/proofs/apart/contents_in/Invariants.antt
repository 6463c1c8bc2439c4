use Rattle.std.proofs.Common.{◌≡◌, option_map, ◌-◌}
use Rattle.ferry_msgpack.specs.Reading.{value_at, items_at}
use Rattle.ferry_msgpack.specs.Apart.{items_apart}
use Rattle.ferry_msgpack.proofs.ApartLemmas.{behind}
use Rattle.ferry_msgpack.proofs.apart.contents_in.Given as goal

abbrev pub invariant-items : goal.invariant-items
invariant-items l =
    behind (option_map (λ all. all.items) l.contents) (items_apart (items_at (value_at 62) (l.count - l.counter) l.rest))
    ≡ items_apart (items_at (value_at 62) l.count l.bytes)
