use Rattle.ferry_tree_tests.proofs.OpeningLemmas.{opened_fits}
use Rattle.ferry_tree_tests.proofs.restoring.restored_on.Goals as goal

pub restore-requires : goal.restore-requires
restore-requires g c = record {
  fits = opened_fits (g.S.Shelf.told c.args.shelf.now) (g.S.Shelf.told c.open.new.shelf) c.in-Ok.repo c.args.secret.now c.in-Ok.ensures.repository
      c.in-Ok.ensures.same c.in-Ok.ensures.cached;
}
