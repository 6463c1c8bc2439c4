use Rattle.std.proofs.Common.{false, [], ◌∷◌}
use Rattle.ferry_store.proofs.UseLemmas.{fits_dropped, fits_first, fits_named}
use Rattle.ferry_store.proofs.WritingLemmas.{told_without}
use Rattle.ferry_store_tests.proofs.putting.drop_both.Goals as goal

pub commit-requires-clause-fits : goal.commit-requires-clause-fits
commit-requires-clause-fits g c =
    let a = g.D.Shelf.told c.args.depot.now in
    let b = g.D.Shelf.told c.drop_chunk.new.depot in
    let named = c.drop_name.new.self in
    let now = c.drop_chunk.new.self in
    let id = c.id_of-id.result in
    told_without false (id ∷ []) now b
    (fits_dropped false named now [] id a b (g.D.Shelf.faults c.args.depot.now) (g.D.Shelf.faults c.drop_chunk.new.depot) c.in_ok-drop_chunk.field-0
    (fits_first false named a (fits_named c.args.store.now named a c.drop_name.ensures.rest c.requires.fits)) c.in_ok-drop_chunk.ensures.did)
