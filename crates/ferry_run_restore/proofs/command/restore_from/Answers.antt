use Rattle.std.proofs.Common.{sym}
use Rattle.ferry_repo.specs.Opening.{repo_view}
use Rattle.ferry_run_restore.proofs.OverLemmas.{leaves_over, opened_fits, refused_over, restored_over}
use Rattle.ferry_run_restore.proofs.command.restore_from.Goals as goal

pub restore_opened-requires : goal.restore_opened-requires
restore_opened-requires g c = record {
  fits = opened_fits (g.S.Shelf.told c.args.source.now) (g.S.Shelf.told c.open.new.shelf) c.in-Ok.repo c.args.secret.now c.in-Ok.ensures.repository
      c.in-Ok.ensures.same c.in-Ok.ensures.cached;
}

pub returns-clause-restored : goal.returns-clause-restored
returns-clause-restored g c =
    restored_over (g.S.Shelf.told c.open.new.shelf) (g.S.Shelf.told c.args.source.now) (sym c.in-Ok.ensures.same) (repo_view c.in-Ok.repo) c.args.secret.now
    c.in-Ok.ensures.repository c.args.name.now (g.T.Tree.told c.args.tree.now) (g.T.Tree.told c.restore_opened.new.tree) c.restore_opened.result
    c.restore_opened.ensures.restored

pub returns-clause-leaves : goal.returns-clause-leaves
returns-clause-leaves g c =
    leaves_over (g.S.Shelf.told c.open.new.shelf) (g.S.Shelf.told c.args.source.now) (sym c.in-Ok.ensures.same) (repo_view c.in-Ok.repo) c.args.secret.now
    c.in-Ok.ensures.repository c.args.name.now (g.T.Tree.told c.args.tree.now) (g.T.Tree.told c.restore_opened.new.tree) c.restore_opened.result
    c.restore_opened.ensures.leaves

pub returns-clause-refused : goal.returns-clause-refused
returns-clause-refused g c =
    refused_over (g.S.Shelf.told c.open.new.shelf) (g.S.Shelf.told c.args.source.now) (sym c.in-Ok.ensures.same) (repo_view c.in-Ok.repo) c.args.secret.now
    c.in-Ok.ensures.repository c.args.name.now (g.T.Tree.told c.args.tree.now) (g.T.Tree.told c.restore_opened.new.tree) c.restore_opened.result
    c.restore_opened.ensures.refused
