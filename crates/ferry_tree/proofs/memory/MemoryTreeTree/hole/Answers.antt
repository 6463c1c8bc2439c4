use Rattle.std.proofs.Common.{◌≡◌, Some}
use Rattle.ferry_tree.specs.Memory.{state_of}
use Rattle.ferry_tree.specs.Nodes.{LeavesHole}
use Rattle.ferry_tree.proofs.MemoryLemmas.{on_err, leaves_none}
use Rattle.ferry_tree.proofs.memory.MemoryTreeTree.hole.Goals as goal

pub returns-clause-err : goal.returns-clause-err
returns-clause-err c =
    let before = state_of c.args.self.now in
    let after = state_of c.append_hole.new.self in
    on_err c.append_hole.result (after ≡ before) (LeavesHole c.args.zeros (Some before) (Some after))
    (λ same. leaves_none c.args.zeros before after same) c.append_hole.ensures.err
