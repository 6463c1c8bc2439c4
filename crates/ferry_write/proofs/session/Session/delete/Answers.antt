use Rattle.std.proofs.Common.{Ok, Err, arith}
use Rattle.ferry_write.proofs.CallLemmas.{delete_fit, delete_keeps, delete_takes}
use Rattle.ferry_write.proofs.CallLemmas.{delete_size}
use Rattle.ferry_write.proofs.GainLemmas.{delete_brings, delete_takes_rows}
use Rattle.ferry_write.proofs.PlainLemmas.{delete_plain}
use Rattle.ferry_write.proofs.RoomLemmas.{takes_entry}
use Rattle.ferry_write.proofs.ScriptLemmas.{ran_done}
use Rattle.ferry_write.proofs.StayLemmas.{delete_stays}
use Rattle.ferry_write.proofs.TellLemmas.{delete_untold}
use Rattle.ferry_write.proofs.session.Session.delete.Goals as goal

pub returns-in-Ok-clause-moments : goal.returns-in-Ok-clause-moments
returns-in-Ok-clause-moments g c =
    let entry = c.delete_entry-entry.result in
    delete_keeps c.args.self.now entry c.args.key.now (g.D.Shelf.told c.args.depot.now) (g.D.Shelf.told c.write_delete.new.depot)
    (g.D.Shelf.faults c.args.depot.now) (g.D.Shelf.faults c.write_delete.new.depot) (Ok c.in-Ok.room) c.delete_entry-entry.ensures
    (delete_fit c.args.key.now entry c.delete_entry-entry.ensures (omega arith)) c.in-Ok.ensures.ran

pub returns-in-Ok-clause-put : goal.returns-in-Ok-clause-put
returns-in-Ok-clause-put g c =
    delete_takes c.args.self.now c.take_entry.new.self c.delete_entry-entry.result c.args.key.now c.in-Ok.room _
    (g.D.Shelf.told c.args.depot.now) (g.D.Shelf.told c.write_delete.new.depot)
    (g.D.Shelf.faults c.args.depot.now) (g.D.Shelf.faults c.write_delete.new.depot) c.in-Ok.room c.delete_entry-entry.ensures (omega arith)
    c.take_entry.ensures (omega arith) c.in-Ok.ensures.room c.in-Ok.ensures.ran

pub returns-in-Err-clause-moments : goal.returns-in-Err-clause-moments
returns-in-Err-clause-moments g c =
    let entry = c.delete_entry-entry.result in
    delete_keeps c.args.self.now entry c.args.key.now (g.D.Shelf.told c.args.depot.now) (g.D.Shelf.told c.write_delete.new.depot)
    (g.D.Shelf.faults c.args.depot.now) (g.D.Shelf.faults c.write_delete.new.depot) (Err c.in-Err.fault) c.delete_entry-entry.ensures
    (delete_fit c.args.key.now entry c.delete_entry-entry.ensures (omega arith)) c.in-Err.ensures.ran

pub returns-in-Ok-clause-gains : goal.returns-in-Ok-clause-gains
returns-in-Ok-clause-gains g c =
    let entry = c.delete_entry-entry.result in
    delete_brings c.args.self.now entry c.args.key.now (g.D.Shelf.told c.args.depot.now) (g.D.Shelf.told c.write_delete.new.depot)
    (g.D.Shelf.faults c.args.depot.now) (g.D.Shelf.faults c.write_delete.new.depot) (Ok c.in-Ok.room) c.delete_entry-entry.ensures
    (delete_fit c.args.key.now entry c.delete_entry-entry.ensures (omega arith)) c.in-Ok.ensures.ran

pub returns-in-Err-clause-gains : goal.returns-in-Err-clause-gains
returns-in-Err-clause-gains g c =
    let entry = c.delete_entry-entry.result in
    delete_brings c.args.self.now entry c.args.key.now (g.D.Shelf.told c.args.depot.now) (g.D.Shelf.told c.write_delete.new.depot)
    (g.D.Shelf.faults c.args.depot.now) (g.D.Shelf.faults c.write_delete.new.depot) (Err c.in-Err.fault) c.delete_entry-entry.ensures
    (delete_fit c.args.key.now entry c.delete_entry-entry.ensures (omega arith)) c.in-Err.ensures.ran

pub returns-in-Ok-clause-rows : goal.returns-in-Ok-clause-rows
returns-in-Ok-clause-rows g c =
    let entry = c.delete_entry-entry.result in
    delete_takes_rows c.args.self.now c.take_entry.new.self entry c.args.key.now c.in-Ok.room _
    (g.D.Shelf.told c.args.depot.now) (g.D.Shelf.told c.write_delete.new.depot)
    (g.D.Shelf.faults c.args.depot.now) (g.D.Shelf.faults c.write_delete.new.depot) c.in-Ok.room c.delete_entry-entry.ensures
    (delete_fit c.args.key.now entry c.delete_entry-entry.ensures (omega arith))
    c.take_entry.ensures (delete_size c.args.key.now entry c.delete_entry-entry.ensures (omega arith)) c.in-Ok.ensures.room c.in-Ok.ensures.ran

pub returns-in-Ok-clause-beside : goal.returns-in-Ok-clause-beside
returns-in-Ok-clause-beside g c =
    delete_plain c.args.self.now c.delete_entry-entry.result (g.D.Shelf.told c.args.depot.now) (g.D.Shelf.told c.write_delete.new.depot)
    (g.D.Shelf.faults c.args.depot.now) (g.D.Shelf.faults c.write_delete.new.depot)
    (Ok c.in-Ok.room) c.in-Ok.ensures.ran

pub returns-in-Err-clause-beside : goal.returns-in-Err-clause-beside
returns-in-Err-clause-beside g c =
    delete_plain c.args.self.now c.delete_entry-entry.result (g.D.Shelf.told c.args.depot.now) (g.D.Shelf.told c.write_delete.new.depot)
    (g.D.Shelf.faults c.args.depot.now) (g.D.Shelf.faults c.write_delete.new.depot)
    (Err c.in-Err.fault) c.in-Err.ensures.ran

pub returns-in-Ok-clause-ok : goal.returns-in-Ok-clause-ok
returns-in-Ok-clause-ok g c =
    takes_entry c.args.self.now c.take_entry.new.self c.in-Ok.room _ _ c.take_entry.ensures c.in-Ok.ensures.room (omega arith)

pub returns-in-Ok-clause-done : goal.returns-in-Ok-clause-done
returns-in-Ok-clause-done g c =
    ran_done _ (g.D.Shelf.told c.args.depot.now) (g.D.Shelf.told c.write_delete.new.depot) (g.D.Shelf.faults c.args.depot.now)
    (g.D.Shelf.faults c.write_delete.new.depot) c.in-Ok.room c.in-Ok.ensures.ran

pub returns-in-Ok-clause-stays : goal.returns-in-Ok-clause-stays
returns-in-Ok-clause-stays g c =
    delete_stays c.args.self.now c.delete_entry-entry.result (g.D.Shelf.told c.args.depot.now) (g.D.Shelf.told c.write_delete.new.depot)
    (g.D.Shelf.faults c.args.depot.now) (g.D.Shelf.faults c.write_delete.new.depot)
    (Ok c.in-Ok.room) c.in-Ok.ensures.ran

pub returns-in-Err-clause-stays : goal.returns-in-Err-clause-stays
returns-in-Err-clause-stays g c =
    delete_stays c.args.self.now c.delete_entry-entry.result (g.D.Shelf.told c.args.depot.now) (g.D.Shelf.told c.write_delete.new.depot)
    (g.D.Shelf.faults c.args.depot.now) (g.D.Shelf.faults c.write_delete.new.depot)
    (Err c.in-Err.fault) c.in-Err.ensures.ran

pub returns-in-Ok-clause-untold : goal.returns-in-Ok-clause-untold
returns-in-Ok-clause-untold g c =
    delete_untold c.args.self.now c.delete_entry-entry.result (g.D.Shelf.told c.args.depot.now) (g.D.Shelf.told c.write_delete.new.depot)
    (g.D.Shelf.faults c.args.depot.now) (g.D.Shelf.faults c.write_delete.new.depot)
    (Ok c.in-Ok.room) c.in-Ok.ensures.ran

pub returns-in-Err-clause-untold : goal.returns-in-Err-clause-untold
returns-in-Err-clause-untold g c =
    delete_untold c.args.self.now c.delete_entry-entry.result (g.D.Shelf.told c.args.depot.now) (g.D.Shelf.told c.write_delete.new.depot)
    (g.D.Shelf.faults c.args.depot.now) (g.D.Shelf.faults c.write_delete.new.depot)
    (Err c.in-Err.fault) c.in-Err.ensures.ran
