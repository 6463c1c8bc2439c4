use Rattle.std.proofs.Common.{◌≡◌, ◌-◌, length}
use Rattle.ferry_tree.proofs.ContentLemmas.{Writing}
use Rattle.ferry_tree.proofs.making.write_content.Given as goal

abbrev pub invariant-loop-from : goal.invariant-loop-from
invariant-loop-from g l = record {
  writes : Writing l.content l.from (g.T.Tree.told l.fn.tree) (g.T.Tree.told l.tree);
  faults : g.T.Tree.faults l.tree ≡ g.T.Tree.faults l.fn.tree;
}

abbrev pub decreases-loop-from : goal.decreases-loop-from
decreases-loop-from g l = length l.content - l.from
