use Rattle.ferry_store.proofs.UseLemmas.{bare_writing}
use Rattle.ferry_store_tests.proofs.putting.renew.Goals as goal
use Rattle.ferry_store.specs.Store.{OpenEach}

pub commit_on-committed-requires-clause-fits : goal.commit_on-committed-requires-clause-fits
commit_on-committed-requires-clause-fits g c =
    bare_writing OpenEach c.in_ok-store.store c.in_ok-store.fault (g.D.Shelf.told c.args.depot.now) (g.D.Shelf.told c.open_bare.new.depot)
    (g.D.Shelf.faults c.args.depot.now) (g.D.Shelf.faults c.open_bare.new.depot) c.requires.begun c.in_ok-store.ensures.did
