use Rattle.ferry_store.proofs.UseLemmas.{fits_added}
use Rattle.ferry_store_tests.proofs.putting.add_twice.Goals as goal

pub add-requires-2-clause-fits : goal.add-requires-2-clause-fits
add-requires-2-clause-fits g c =
    fits_added c.args.store.now c.add.new.self _ c.in_ok-first.first (g.D.Shelf.told c.args.depot.now) (g.D.Shelf.told c.add.new.depot)
    (g.D.Shelf.faults c.args.depot.now) (g.D.Shelf.faults c.add.new.depot) c.requires.fits c.in_ok-first.ensures.did
