use Rattle.std.proofs.Common.{◌≡◌, false}
use Rattle.ferry_tree.specs.Index.{known_in}
use Rattle.ferry_tree.specs.Planning.{has_bad_front}
use Rattle.ferry_tree.proofs.planning.has_bad_front.Given as goal

-- only folders are at the fronts so far
abbrev pub invariant-loop-place : goal.invariant-loop-place
invariant-loop-place l = has_bad_front (known_in l.known) l.path l.place ≡ false
