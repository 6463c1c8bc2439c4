use Rattle.ferry_store.proofs.UseLemmas.{fits_begun}
use Rattle.ferry_store_tests.proofs.putting.name_made.Goals as goal
use Rattle.ferry_store.specs.Store.{InitEach}

pub name_one-named-requires-clause-fits : goal.name_one-named-requires-clause-fits
name_one-named-requires-clause-fits g c =
    fits_begun (InitEach c.args.given.now.secret) c.in_ok-store.store (g.D.Shelf.told c.args.depot.now) (g.D.Shelf.told c.init.new.depot)
    (g.D.Shelf.faults c.args.depot.now) (g.D.Shelf.faults c.init.new.depot) c.requires.begun c.in_ok-store.ensures.did
