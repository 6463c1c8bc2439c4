use Rattle.ferry_tree.proofs.ArchiveLemmas.{bare_stands}
use Rattle.ferry_tree.proofs.archive.restore_walk.Goals as goal

pub restore_items-requires-clause-bare : goal.restore_items-requires-clause-bare
restore_items-requires-clause-bare g c = bare_stands (g.T.Tree.told c.args.tree.now) c.new-known.result c.requires.empty c.new-known.ensures.none
