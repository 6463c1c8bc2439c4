use Rattle.std.proofs.Common.{◌≡◌, ℕ, IfSome, length}
use Rattle.ferry_tree.specs.Growth.{with_parents}
use Rattle.ferry_tree.proofs.MemoryLemmas.{always_err}
use Rattle.ferry_tree.proofs.placing.make_item.Goals as goal

pub returns-in_err-make_node-clause-err : goal.returns-in_err-make_node-clause-err
returns-in_err-make_node-clause-err g c before holds =
    let path = c.args.path.now in
    always_err c.from_residual-in_err-make_node.result
    ((n : ℕ) × IfSome (g.T.Tree.told c.make_node.new.tree) (λ t. t ≡ with_parents path n before))
    (length path, c.in_err-make_node.ensures.err (with_parents path (length path) before) (c.in_ok-make_parents.ensures.made before holds))
