use Rattle.std.proofs.Common.{Ok, Err, arith}
use Rattle.ferry_write.proofs.CallLemmas.{put_fit, put_keeps, put_takes, put_lies}
use Rattle.ferry_write.proofs.CallLemmas.{put_size}
use Rattle.ferry_write.proofs.FrontLemmas.{put_writes}
use Rattle.ferry_write.proofs.GainLemmas.{put_brings, put_takes_rows}
use Rattle.ferry_write.proofs.PlainLemmas.{put_plain}
use Rattle.ferry_write.proofs.RoomLemmas.{takes_entry}
use Rattle.ferry_write.proofs.ScriptLemmas.{ran_done}
use Rattle.ferry_write.proofs.StayLemmas.{put_stays}
use Rattle.ferry_write.proofs.TellLemmas.{put_untold}
use Rattle.ferry_write.proofs.session.Session.put.Goals as goal

pub returns-in-Ok-clause-moments : goal.returns-in-Ok-clause-moments
returns-in-Ok-clause-moments g c =
    let head = c.put_head-head.result in
    put_keeps c.args.self.now head c.args.key.now c.args.blob.now (g.D.Shelf.told c.args.depot.now) (g.D.Shelf.told c.write_put.new.depot)
    (g.D.Shelf.faults c.args.depot.now) (g.D.Shelf.faults c.write_put.new.depot) (Ok c.in-Ok.room) c.put_head-head.ensures
    (put_fit c.args.key.now c.args.blob.now head c.put_head-head.ensures (omega arith) c.requires.small) c.in-Ok.ensures.ran

pub returns-in-Ok-clause-put : goal.returns-in-Ok-clause-put
returns-in-Ok-clause-put g c =
    put_takes c.args.self.now c.take_entry.new.self c.put_head-head.result c.args.key.now c.args.blob.now c.in-Ok.room _
    (g.D.Shelf.told c.args.depot.now) (g.D.Shelf.told c.write_put.new.depot)
    (g.D.Shelf.faults c.args.depot.now) (g.D.Shelf.faults c.write_put.new.depot) c.in-Ok.room c.put_head-head.ensures (omega arith) c.requires.small
    c.take_entry.ensures (omega arith) c.in-Ok.ensures.room c.in-Ok.ensures.ran

pub returns-in-Ok-clause-place : goal.returns-in-Ok-clause-place
returns-in-Ok-clause-place g c =
    put_lies c.args.self.now c.put_head-head.result c.args.blob.now c.in-Ok.room (g.D.Shelf.told c.args.depot.now)
    (g.D.Shelf.told c.write_put.new.depot) (g.D.Shelf.faults c.args.depot.now) (g.D.Shelf.faults c.write_put.new.depot) c.in-Ok.room (omega arith)
    c.in-Ok.ensures.room c.in-Ok.ensures.ran

pub returns-in-Err-clause-moments : goal.returns-in-Err-clause-moments
returns-in-Err-clause-moments g c =
    let head = c.put_head-head.result in
    put_keeps c.args.self.now head c.args.key.now c.args.blob.now (g.D.Shelf.told c.args.depot.now) (g.D.Shelf.told c.write_put.new.depot)
    (g.D.Shelf.faults c.args.depot.now) (g.D.Shelf.faults c.write_put.new.depot) (Err c.in-Err.fault) c.put_head-head.ensures
    (put_fit c.args.key.now c.args.blob.now head c.put_head-head.ensures (omega arith) c.requires.small) c.in-Err.ensures.ran

pub returns-in-Ok-clause-gains : goal.returns-in-Ok-clause-gains
returns-in-Ok-clause-gains g c =
    let head = c.put_head-head.result in
    put_brings c.args.self.now head c.args.key.now c.args.blob.now (g.D.Shelf.told c.args.depot.now) (g.D.Shelf.told c.write_put.new.depot)
    (g.D.Shelf.faults c.args.depot.now) (g.D.Shelf.faults c.write_put.new.depot) (Ok c.in-Ok.room) c.put_head-head.ensures
    (put_fit c.args.key.now c.args.blob.now head c.put_head-head.ensures (omega arith) c.requires.small) c.in-Ok.ensures.ran

pub returns-in-Err-clause-gains : goal.returns-in-Err-clause-gains
returns-in-Err-clause-gains g c =
    let head = c.put_head-head.result in
    put_brings c.args.self.now head c.args.key.now c.args.blob.now (g.D.Shelf.told c.args.depot.now) (g.D.Shelf.told c.write_put.new.depot)
    (g.D.Shelf.faults c.args.depot.now) (g.D.Shelf.faults c.write_put.new.depot) (Err c.in-Err.fault) c.put_head-head.ensures
    (put_fit c.args.key.now c.args.blob.now head c.put_head-head.ensures (omega arith) c.requires.small) c.in-Err.ensures.ran

pub returns-in-Ok-clause-rows : goal.returns-in-Ok-clause-rows
returns-in-Ok-clause-rows g c =
    let head = c.put_head-head.result in
    put_takes_rows c.args.self.now c.take_entry.new.self head c.args.key.now c.args.blob.now c.in-Ok.room _
    (g.D.Shelf.told c.args.depot.now) (g.D.Shelf.told c.write_put.new.depot)
    (g.D.Shelf.faults c.args.depot.now) (g.D.Shelf.faults c.write_put.new.depot) c.in-Ok.room c.put_head-head.ensures
    (put_fit c.args.key.now c.args.blob.now head c.put_head-head.ensures (omega arith) c.requires.small)
    c.take_entry.ensures (put_size c.args.key.now c.args.blob.now head c.put_head-head.ensures (omega arith)) c.in-Ok.ensures.room c.in-Ok.ensures.ran

pub returns-in-Ok-clause-beside : goal.returns-in-Ok-clause-beside
returns-in-Ok-clause-beside g c =
    put_plain c.args.self.now c.put_head-head.result c.args.blob.now (g.D.Shelf.told c.args.depot.now) (g.D.Shelf.told c.write_put.new.depot)
    (g.D.Shelf.faults c.args.depot.now) (g.D.Shelf.faults c.write_put.new.depot)
    (Ok c.in-Ok.room) c.in-Ok.ensures.ran

pub returns-in-Err-clause-beside : goal.returns-in-Err-clause-beside
returns-in-Err-clause-beside g c =
    put_plain c.args.self.now c.put_head-head.result c.args.blob.now (g.D.Shelf.told c.args.depot.now) (g.D.Shelf.told c.write_put.new.depot)
    (g.D.Shelf.faults c.args.depot.now) (g.D.Shelf.faults c.write_put.new.depot)
    (Err c.in-Err.fault) c.in-Err.ensures.ran

pub returns-in-Ok-clause-ok : goal.returns-in-Ok-clause-ok
returns-in-Ok-clause-ok g c =
    takes_entry c.args.self.now c.take_entry.new.self c.in-Ok.room _ _ c.take_entry.ensures c.in-Ok.ensures.room (omega arith)

pub returns-in-Ok-clause-done : goal.returns-in-Ok-clause-done
returns-in-Ok-clause-done g c =
    ran_done _ (g.D.Shelf.told c.args.depot.now) (g.D.Shelf.told c.write_put.new.depot) (g.D.Shelf.faults c.args.depot.now)
    (g.D.Shelf.faults c.write_put.new.depot) c.in-Ok.room c.in-Ok.ensures.ran

pub returns-in-Ok-clause-stays : goal.returns-in-Ok-clause-stays
returns-in-Ok-clause-stays g c =
    put_stays c.args.self.now c.put_head-head.result c.args.blob.now (g.D.Shelf.told c.args.depot.now) (g.D.Shelf.told c.write_put.new.depot)
    (g.D.Shelf.faults c.args.depot.now) (g.D.Shelf.faults c.write_put.new.depot)
    (Ok c.in-Ok.room) c.in-Ok.ensures.ran

pub returns-in-Err-clause-stays : goal.returns-in-Err-clause-stays
returns-in-Err-clause-stays g c =
    put_stays c.args.self.now c.put_head-head.result c.args.blob.now (g.D.Shelf.told c.args.depot.now) (g.D.Shelf.told c.write_put.new.depot)
    (g.D.Shelf.faults c.args.depot.now) (g.D.Shelf.faults c.write_put.new.depot)
    (Err c.in-Err.fault) c.in-Err.ensures.ran

pub returns-in-Ok-clause-untold : goal.returns-in-Ok-clause-untold
returns-in-Ok-clause-untold g c =
    put_untold c.args.self.now c.put_head-head.result c.args.blob.now (g.D.Shelf.told c.args.depot.now) (g.D.Shelf.told c.write_put.new.depot)
    (g.D.Shelf.faults c.args.depot.now) (g.D.Shelf.faults c.write_put.new.depot)
    (Ok c.in-Ok.room) c.in-Ok.ensures.ran

pub returns-in-Err-clause-untold : goal.returns-in-Err-clause-untold
returns-in-Err-clause-untold g c =
    put_untold c.args.self.now c.put_head-head.result c.args.blob.now (g.D.Shelf.told c.args.depot.now) (g.D.Shelf.told c.write_put.new.depot)
    (g.D.Shelf.faults c.args.depot.now) (g.D.Shelf.faults c.write_put.new.depot)
    (Err c.in-Err.fault) c.in-Err.ensures.ran

pub returns-in-Ok-clause-writes : goal.returns-in-Ok-clause-writes
returns-in-Ok-clause-writes g c =
    let head = c.put_head-head.result in
    put_writes c.args.self.now head c.args.key.now c.args.blob.now (g.D.Shelf.told c.args.depot.now) (g.D.Shelf.told c.write_put.new.depot)
    (g.D.Shelf.faults c.args.depot.now) (g.D.Shelf.faults c.write_put.new.depot) (Ok c.in-Ok.room) c.put_head-head.ensures
    (put_fit c.args.key.now c.args.blob.now head c.put_head-head.ensures (omega arith) c.requires.small) c.in-Ok.ensures.ran

pub returns-in-Err-clause-writes : goal.returns-in-Err-clause-writes
returns-in-Err-clause-writes g c =
    let head = c.put_head-head.result in
    put_writes c.args.self.now head c.args.key.now c.args.blob.now (g.D.Shelf.told c.args.depot.now) (g.D.Shelf.told c.write_put.new.depot)
    (g.D.Shelf.faults c.args.depot.now) (g.D.Shelf.faults c.write_put.new.depot) (Err c.in-Err.fault) c.put_head-head.ensures
    (put_fit c.args.key.now c.args.blob.now head c.put_head-head.ensures (omega arith) c.requires.small) c.in-Err.ensures.ran
