use Rattle.ferry_store.proofs.UseLemmas.{fits_opened}
use Rattle.ferry_store_tests.proofs.piece.add_opened.Goals as goal
use Rattle.ferry_store.specs.Store.{OpenEach}

pub add_batch-answer-requires-clause-fits : goal.add_batch-answer-requires-clause-fits
add_batch-answer-requires-clause-fits g c =
    fits_opened OpenEach c.in_ok-store.store (g.D.Shelf.told c.args.depot.now) (g.D.Shelf.told c.open.new.depot) (g.D.Shelf.faults c.args.depot.now)
    (g.D.Shelf.faults c.open.new.depot) c.requires.begun c.in_ok-store.ensures.did
