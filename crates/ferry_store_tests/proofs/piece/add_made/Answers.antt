use Rattle.ferry_store.proofs.UseLemmas.{fits_begun}
use Rattle.ferry_store_tests.proofs.piece.add_made.Goals as goal
use Rattle.ferry_store.specs.Store.{InitEach}

pub add_batch-answer-requires-clause-fits : goal.add_batch-answer-requires-clause-fits
add_batch-answer-requires-clause-fits g c =
    fits_begun (InitEach c.args.secret.now) c.in_ok-store.store (g.D.Shelf.told c.args.depot.now) (g.D.Shelf.told c.init.new.depot)
    (g.D.Shelf.faults c.args.depot.now) (g.D.Shelf.faults c.init.new.depot) c.requires.begun c.in_ok-store.ensures.did
