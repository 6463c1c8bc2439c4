use Rattle.std.proofs.Common.{refl}
use Rattle.ferry_nonce.proofs.FileLemmas.{opened_told, fits_told, text_ok_told, text_err_told}
use Rattle.ferry_nonce.proofs.counter.Counter.open.Goals as goal
use Rattle.ferry_nonce.specs.Fault.{nonce_failed}
use Rattle.ferry_stops.proofs.TellLemmas.{told_kept}

pub returns-in-Ok-clause-opened : goal.returns-in-Ok-clause-opened
returns-in-Ok-clause-opened g c = opened_told c.args.committed (g.D.Shelf.told c.args.depot.now) c.in-Ok.free c.in-Ok.ensures.number

pub returns-in-Ok-clause-counts : goal.returns-in-Ok-clause-counts
returns-in-Ok-clause-counts g c = fits_told c.args.committed (g.D.Shelf.told c.args.depot.now) _ refl c.in-Ok.ensures.number

pub returns-in-Ok-clause-text : goal.returns-in-Ok-clause-text
returns-in-Ok-clause-text g c = text_ok_told c.args.committed (g.D.Shelf.told c.args.depot.now) c.in-Ok.free _ c.in-Ok.ensures.number

pub returns-in-Err-clause-text : goal.returns-in-Err-clause-text
returns-in-Err-clause-text g c = text_err_told c.args.committed (g.D.Shelf.told c.args.depot.now) c.in-Err.fault c.in-Err.ensures.number

pub returns-in-Ok-clause-untold : goal.returns-in-Ok-clause-untold
returns-in-Ok-clause-untold g c =
    told_kept nonce_failed (g.D.Shelf.told c.args.depot.now) (g.D.Shelf.told c.number_in_file.new.depot) c.number_in_file.result
    c.number_in_file.ensures.same

pub returns-in-Err-clause-untold : goal.returns-in-Err-clause-untold
returns-in-Err-clause-untold g c =
    told_kept nonce_failed (g.D.Shelf.told c.args.depot.now) (g.D.Shelf.told c.number_in_file.new.depot) c.number_in_file.result
    c.number_in_file.ensures.same
