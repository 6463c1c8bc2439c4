use Rattle.std.proofs.Common.{◌≡◌, ◌-◌, length, take}
use Rattle.ferry_tree.specs.Memory.{placed_in}
use Rattle.ferry_tree.specs.Nodes.{node_at}
use Rattle.ferry_tree.proofs.memory.find.Given as goal

-- the node is among those that weren't looked at
abbrev pub invariant-loop-back : goal.invariant-loop-back
invariant-loop-back l = node_at l.path (placed_in l.nodes) ≡ node_at l.path (placed_in (take (length l.nodes - l.back) l.nodes))
