use Rattle.std.proofs.Common.{◌≡◌}
use Rattle.ferry_msgpack.specs.View.{items_view, pairs_view}
use Rattle.ferry_compare.specs.Same.{same_items, same_pairs}
use Rattle.ferry_compare.proofs.SameLemmas.{items_from, pairs_from}
use Rattle.ferry_compare.proofs.same.+same.Given as goal

abbrev pub invariant-tests_items-loop-place : goal.invariant-tests_items-loop-place
invariant-tests_items-loop-place l = items_from l.first.items l.second.items l.place ≡ same_items (items_view l.first.items) (items_view l.second.items)

abbrev pub invariant-tests_pairs-loop-place : goal.invariant-tests_pairs-loop-place
invariant-tests_pairs-loop-place l = pairs_from l.first.items l.second.items l.place ≡ same_pairs (pairs_view l.first.items) (pairs_view l.second.items)
