use Rattle.ferry_tree.specs.Growth.{bare}
use Rattle.ferry_tree.proofs.LawLemmas.{one_tree, whole_archive, never_both}
use Rattle.ferry_tree.proofs.WholeLemmas.{reads_whole}
use Rattle.ferry_tree.proofs.laws.restore_laws.Goals as goal

pub returns : goal.returns
returns c = record { whole = whole_archive; reads = reads_whole; one = one_tree bare; apart = never_both }
