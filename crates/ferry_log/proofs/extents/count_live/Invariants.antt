use Rattle.std.proofs.Common.{◌≡◌, map}
use Rattle.ferry_log.specs.Opening.{counted_live}
use Rattle.ferry_log.proofs.extents.count_live.Given as goal

-- with the places that are left, the extents are counted as with all
abbrev pub invariant-loop-place : goal.invariant-loop-place
invariant-loop-place l =
    (goal.iterator-loop-place).can_next l.place-iterator
    × (goal.iterator-loop-place).is_finite l.place-iterator
    × (map (counted_live l.place-iterator) l.extents ≡ map (counted_live l.live.entries) l.fn.extents)
    × (map (λ e. e.segment) l.extents ≡ l.numbers)
