use Rattle.std.proofs.Common.{◌≡◌, Some}
use Rattle.ferry_tree.specs.Memory.{state_of}
use Rattle.ferry_tree.specs.Nodes.{Appends}
use Rattle.ferry_tree.proofs.MemoryLemmas.{on_err, appends_none}
use Rattle.ferry_tree.proofs.memory.MemoryTreeTree.write.Goals as goal

pub returns-clause-err : goal.returns-clause-err
returns-clause-err c =
    let before = state_of c.args.self.now in
    let after = state_of c.append.new.self in
    on_err c.append.result (after ≡ before) (Appends c.args.bytes.now (Some before) (Some after))
    (λ same. appends_none c.args.bytes.now before after same) c.append.ensures.err
