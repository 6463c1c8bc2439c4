use Rattle.ferry_store.proofs.UseLemmas.{fits_added}
use Rattle.ferry_store_tests.proofs.piece.add_buffers.Goals as goal

pub add_each-requires-clause-fits : goal.add_each-requires-clause-fits
add_each-requires-clause-fits g c =
    fits_added c.args.store.now c.add.new.self _ c.in_ok-add.field-0 (g.D.Shelf.told c.args.depot.now) (g.D.Shelf.told c.add.new.depot)
    (g.D.Shelf.faults c.args.depot.now) (g.D.Shelf.faults c.add.new.depot) c.requires.fits c.in_ok-add.ensures.did
