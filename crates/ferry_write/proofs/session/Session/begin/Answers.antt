use Rattle.std.proofs.Common.{None, false, Result, Ok, Err, refl}
use Rattle.ferry_write.proofs.TellLemmas.{begin_untold}
use Rattle.ferry_write.specs.Room.{behind}
use Rattle.ferry_write.specs.Session.{ClearsAbove}
use Rattle.ferry_write.specs.declared.fault.WriteFault.{WriteFault}
use Rattle.ferry_write.specs.declared.session.Session.{Session}
use Rattle.ferry_write.proofs.CallLemmas.{begin_keeps, begin_fits}
use Rattle.ferry_write.proofs.BeginGainLemmas.{begin_acts, begin_first, begin_brings, begin_rows}
use Rattle.ferry_write.proofs.FrontLemmas.{begin_removes}
use Rattle.ferry_write.proofs.PlainLemmas.{begin_plain}
use Rattle.ferry_write.proofs.ScriptLemmas.{err_is}
use Rattle.ferry_write.proofs.session.Session.begin.Goals as goal

pub returns-in_err-clear-clause-moments : goal.returns-in_err-clear-clause-moments
returns-in_err-clear-clause-moments g c =
    begin_keeps c.args.after (g.D.Shelf.told c.args.depot.now) (g.D.Shelf.told c.clear.new.depot) (g.D.Shelf.faults c.args.depot.now)
    (g.D.Shelf.faults c.clear.new.depot)
    c.clear.result c.clear.ensures.clears

pub returns-in_err-clear-clause-first : goal.returns-in_err-clear-clause-first
returns-in_err-clear-clause-first g c =
    begin_first c.args.after (g.D.Shelf.told c.args.depot.now) (g.D.Shelf.told c.clear.new.depot) (g.D.Shelf.faults c.args.depot.now)
    (g.D.Shelf.faults c.clear.new.depot)
    c.clear.result c.clear.ensures.clears

pub returns-in_err-clear-clause-gains : goal.returns-in_err-clear-clause-gains
returns-in_err-clear-clause-gains g c =
    begin_brings c.args.after (g.D.Shelf.told c.args.depot.now) (g.D.Shelf.told c.clear.new.depot) (g.D.Shelf.faults c.args.depot.now)
    (g.D.Shelf.faults c.clear.new.depot)
    c.clear.result c.clear.ensures.clears

pub returns-in_err-clear-clause-beside : goal.returns-in_err-clear-clause-beside
returns-in_err-clear-clause-beside g c =
    begin_plain (behind c.args.after) (g.D.Shelf.told c.args.depot.now) (g.D.Shelf.told c.clear.new.depot) (g.D.Shelf.faults c.args.depot.now)
    (g.D.Shelf.faults c.clear.new.depot)
    c.clear.result c.clear.ensures.clears

pub returns-clause-moments : goal.returns-clause-moments
returns-clause-moments g c =
    begin_keeps c.args.after (g.D.Shelf.told c.args.depot.now) (g.D.Shelf.told c.clear.new.depot) (g.D.Shelf.faults c.args.depot.now)
    (g.D.Shelf.faults c.clear.new.depot)
    c.clear.result c.clear.ensures.clears

pub returns-clause-first : goal.returns-clause-first
returns-clause-first g c =
    begin_first c.args.after (g.D.Shelf.told c.args.depot.now) (g.D.Shelf.told c.clear.new.depot) (g.D.Shelf.faults c.args.depot.now)
    (g.D.Shelf.faults c.clear.new.depot)
    c.clear.result c.clear.ensures.clears

pub returns-clause-gains : goal.returns-clause-gains
returns-clause-gains g c =
    begin_brings c.args.after (g.D.Shelf.told c.args.depot.now) (g.D.Shelf.told c.clear.new.depot) (g.D.Shelf.faults c.args.depot.now)
    (g.D.Shelf.faults c.clear.new.depot)
    c.clear.result c.clear.ensures.clears

pub returns-clause-beside : goal.returns-clause-beside
returns-clause-beside g c =
    begin_plain (behind c.args.after) (g.D.Shelf.told c.args.depot.now) (g.D.Shelf.told c.clear.new.depot) (g.D.Shelf.faults c.args.depot.now)
    (g.D.Shelf.faults c.clear.new.depot)
    c.clear.result c.clear.ensures.clears

pub returns-clause-acts : goal.returns-clause-acts
returns-clause-acts g c =
    begin_acts c.args.after (g.D.Shelf.told c.args.depot.now) (g.D.Shelf.told c.clear.new.depot) (g.D.Shelf.faults c.args.depot.now)
    (g.D.Shelf.faults c.clear.new.depot)
    (Ok c.in_ok-clear.field-0) c.in_ok-clear.ensures.clears

pub returns-clause-begun : goal.returns-clause-begun
returns-clause-begun g c =
    begin_fits c.args.after (record { limit = c.args.limit; after = c.args.after; last = c.args.after; size = None; spent = false })
    (g.D.Shelf.told c.args.depot.now) (g.D.Shelf.told c.clear.new.depot) (g.D.Shelf.faults c.args.depot.now)
    (g.D.Shelf.faults c.clear.new.depot) c.in_ok-clear.field-0 refl refl refl c.in_ok-clear.ensures.clears

pub returns-clause-rows : goal.returns-clause-rows
returns-clause-rows g c =
    begin_rows c.args.after (record { limit = c.args.limit; after = c.args.after; last = c.args.after; size = None; spent = false })
    (g.D.Shelf.told c.args.depot.now) (g.D.Shelf.told c.clear.new.depot) (g.D.Shelf.faults c.args.depot.now)
    (g.D.Shelf.faults c.clear.new.depot) c.in_ok-clear.field-0 refl refl c.in_ok-clear.ensures.clears

pub returns-in_err-clear-clause-acts : goal.returns-in_err-clear-clause-acts
returns-in_err-clear-clause-acts g c =
    let a = g.D.Shelf.told c.args.depot.now in
    let b = g.D.Shelf.told c.clear.new.depot in
    let fault = c.in_err-clear.field-0.0 in
    err_is c.from_residual.result fault (λ (r : Result Session WriteFault). ClearsAbove c.args.after a b r) c.from_residual.ensures.1
    (begin_acts {T = Unit {0}} c.args.after a b (g.D.Shelf.faults c.args.depot.now) (g.D.Shelf.faults c.clear.new.depot) (Err fault)
    c.in_err-clear.ensures.clears)

pub returns-in_err-clear-clause-untold : goal.returns-in_err-clear-clause-untold
returns-in_err-clear-clause-untold g c =
    begin_untold (behind c.args.after) (g.D.Shelf.told c.args.depot.now) (g.D.Shelf.told c.clear.new.depot) (g.D.Shelf.faults c.args.depot.now)
    (g.D.Shelf.faults c.clear.new.depot)
    c.clear.result c.clear.ensures.clears

pub returns-clause-untold : goal.returns-clause-untold
returns-clause-untold g c =
    begin_untold (behind c.args.after) (g.D.Shelf.told c.args.depot.now) (g.D.Shelf.told c.clear.new.depot) (g.D.Shelf.faults c.args.depot.now)
    (g.D.Shelf.faults c.clear.new.depot)
    c.clear.result c.clear.ensures.clears

pub returns-in_err-clear-clause-removes : goal.returns-in_err-clear-clause-removes
returns-in_err-clear-clause-removes g c =
    begin_removes (behind c.args.after) (g.D.Shelf.told c.args.depot.now) (g.D.Shelf.told c.clear.new.depot) (g.D.Shelf.faults c.args.depot.now)
    (g.D.Shelf.faults c.clear.new.depot)
    c.clear.result c.clear.ensures.clears

pub returns-clause-removes : goal.returns-clause-removes
returns-clause-removes g c =
    begin_removes (behind c.args.after) (g.D.Shelf.told c.args.depot.now) (g.D.Shelf.told c.clear.new.depot) (g.D.Shelf.faults c.args.depot.now)
    (g.D.Shelf.faults c.clear.new.depot)
    c.clear.result c.clear.ensures.clears
