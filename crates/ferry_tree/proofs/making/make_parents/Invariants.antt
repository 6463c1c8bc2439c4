use Rattle.std.proofs.Common.{◌≡◌}
use Rattle.ferry_tree.specs.Growth.{Holds, with_parents}
use Rattle.ferry_tree.specs.Nodes.{Planted}
use Rattle.ferry_tree.proofs.making.make_parents.Given as goal

-- the folders at the fronts so far are made
abbrev pub invariant-loop-place : goal.invariant-loop-place
invariant-loop-place g l = record {
  holds : (before : Planted) → Holds (g.T.Tree.told l.fn.tree) l.fn.known before
      → Holds (g.T.Tree.told l.tree) l.known (with_parents l.path l.place before);
  faults : g.T.Tree.faults l.tree ≡ g.T.Tree.faults l.fn.tree;
}
