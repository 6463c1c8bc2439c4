use Rattle.ferry_store.proofs.UseLemmas.{fits_added, fits_named}
use Rattle.ferry_store.proofs.WritingLemmas.{told_writing}
use Rattle.ferry_store_tests.proofs.putting.name_one.Goals as goal

pub commit-requires-clause-fits : goal.commit-requires-clause-fits
commit-requires-clause-fits g c =
    let b = g.D.Shelf.told c.add.new.depot in
    let middle = c.add.new.self in
    let named = c.name_archive.new.self in
    told_writing named b
    (fits_named middle named b c.name_archive.ensures.rest
    (fits_added c.args.store.now middle _ c.in_ok-add.field-0 (g.D.Shelf.told c.args.depot.now) b (g.D.Shelf.faults c.args.depot.now)
    (g.D.Shelf.faults c.add.new.depot) c.requires.fits c.in_ok-add.ensures.did))
