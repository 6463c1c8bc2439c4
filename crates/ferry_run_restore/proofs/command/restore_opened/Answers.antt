use Rattle.std.proofs.Common.{sym, subst}
use Rattle.ferry_disk.specs.Device.{KeptWhere, RoseWhere, heard}
use Rattle.ferry_repo.specs.Opening.{repo_view}
use Rattle.ferry_run_restore.proofs.StatusLemmas.{refused_so, status_source, status_tree}
use Rattle.ferry_run_restore.proofs.command.restore_opened.Goals as goal

pub returns-in-Err-clause-refused : goal.returns-in-Err-clause-refused
returns-in-Err-clause-refused g c =
    refused_so (g.S.Shelf.told c.args.source.now) (repo_view c.args.repo.now) c.args.name.now (g.T.Tree.told c.args.tree.now) c.in-Err.fault
    c.of_restore.result c.of_restore.ensures.status c.in-Err.ensures.refused

pub returns-in-Err-clause-same : goal.returns-in-Err-clause-same
returns-in-Err-clause-same g c =
    subst (λ failed. KeptWhere failed (heard (g.S.Shelf.told c.args.source.now)) (g.S.Shelf.told c.restore.new.shelf))
    (sym (status_source c.in-Err.fault c.args.name.now c.of_restore.result c.of_restore.ensures.status)) c.in-Err.ensures.same

pub returns-in-Err-clause-cause : goal.returns-in-Err-clause-cause
returns-in-Err-clause-cause g c =
    subst (λ failed. RoseWhere failed (g.S.Shelf.faults c.args.source.now) (g.S.Shelf.faults c.restore.new.shelf))
    (sym (status_source c.in-Err.fault c.args.name.now c.of_restore.result c.of_restore.ensures.status)) c.in-Err.ensures.source

pub returns-in-Err-clause-tree_cause : goal.returns-in-Err-clause-tree_cause
returns-in-Err-clause-tree_cause g c =
    subst (λ failed. RoseWhere failed (g.T.Tree.faults c.args.tree.now) (g.T.Tree.faults c.restore.new.tree))
    (sym (status_tree c.in-Err.fault c.args.name.now c.of_restore.result c.of_restore.ensures.status)) c.in-Err.ensures.cause
