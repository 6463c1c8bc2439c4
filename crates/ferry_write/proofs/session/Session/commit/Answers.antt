use Rattle.std.proofs.Common.{Some, None, Ok, Err, refl, ap}
use Rattle.ferry_write.proofs.CallLemmas.{commit_keeps, commit_fits}
use Rattle.ferry_write.proofs.CommitGainLemmas.{commit_brings, commit_rows}
use Rattle.ferry_write.proofs.FrontLemmas.{commit_writes}
use Rattle.ferry_write.proofs.PlainLemmas.{commit_plain}
use Rattle.ferry_write.proofs.ScriptLemmas.{ran_done}
use Rattle.ferry_write.proofs.StayLemmas.{commit_stays}
use Rattle.ferry_write.proofs.TellLemmas.{commit_untold}
use Rattle.ferry_write.proofs.session.Session.commit.Goals as goal

pub returns-in-Ok-clause-moments : goal.returns-in-Ok-clause-moments
returns-in-Ok-clause-moments g c =
    commit_keeps c.args.self.now (g.D.Shelf.told c.args.depot.now) (g.D.Shelf.told c.write_commit.new.depot) (g.D.Shelf.faults c.args.depot.now)
    (g.D.Shelf.faults c.write_commit.new.depot) (Ok c.in-Ok.number) c.in-Ok.ensures.ran

pub returns-in-Ok-clause-committed : goal.returns-in-Ok-clause-committed
returns-in-Ok-clause-committed g c =
    commit_fits c.args.self.now (record c.args.self.now { after = Some c.in-Ok.number; last = Some c.in-Ok.number; size = None })
    (g.D.Shelf.told c.args.depot.now) (g.D.Shelf.told c.write_commit.new.depot) (g.D.Shelf.faults c.args.depot.now)
    (g.D.Shelf.faults c.write_commit.new.depot) c.in-Ok.number (ap Some c.in-Ok.ensures.number) (ap Some c.in-Ok.ensures.number) refl c.in-Ok.ensures.ran

pub returns-in-Err-clause-moments : goal.returns-in-Err-clause-moments
returns-in-Err-clause-moments g c =
    commit_keeps c.args.self.now (g.D.Shelf.told c.args.depot.now) (g.D.Shelf.told c.write_commit.new.depot) (g.D.Shelf.faults c.args.depot.now)
    (g.D.Shelf.faults c.write_commit.new.depot) (Err c.in-Err.fault) c.in-Err.ensures.ran

pub returns-in-Ok-clause-gains : goal.returns-in-Ok-clause-gains
returns-in-Ok-clause-gains g c =
    commit_brings c.args.self.now (g.D.Shelf.told c.args.depot.now) (g.D.Shelf.told c.write_commit.new.depot) (g.D.Shelf.faults c.args.depot.now)
    (g.D.Shelf.faults c.write_commit.new.depot) (Ok c.in-Ok.number) c.in-Ok.ensures.ran

pub returns-in-Ok-clause-beside : goal.returns-in-Ok-clause-beside
returns-in-Ok-clause-beside g c =
    commit_plain c.args.self.now (g.D.Shelf.told c.args.depot.now) (g.D.Shelf.told c.write_commit.new.depot) (g.D.Shelf.faults c.args.depot.now)
    (g.D.Shelf.faults c.write_commit.new.depot) (Ok c.in-Ok.number) c.in-Ok.ensures.ran

pub returns-in-Err-clause-gains : goal.returns-in-Err-clause-gains
returns-in-Err-clause-gains g c =
    commit_brings c.args.self.now (g.D.Shelf.told c.args.depot.now) (g.D.Shelf.told c.write_commit.new.depot) (g.D.Shelf.faults c.args.depot.now)
    (g.D.Shelf.faults c.write_commit.new.depot) (Err c.in-Err.fault) c.in-Err.ensures.ran

pub returns-in-Err-clause-beside : goal.returns-in-Err-clause-beside
returns-in-Err-clause-beside g c =
    commit_plain c.args.self.now (g.D.Shelf.told c.args.depot.now) (g.D.Shelf.told c.write_commit.new.depot) (g.D.Shelf.faults c.args.depot.now)
    (g.D.Shelf.faults c.write_commit.new.depot) (Err c.in-Err.fault) c.in-Err.ensures.ran

pub returns-in-Ok-clause-rows : goal.returns-in-Ok-clause-rows
returns-in-Ok-clause-rows g c =
    commit_rows c.args.self.now (record c.args.self.now { after = Some c.in-Ok.number; last = Some c.in-Ok.number; size = None })
    (g.D.Shelf.told c.args.depot.now) (g.D.Shelf.told c.write_commit.new.depot) (g.D.Shelf.faults c.args.depot.now)
    (g.D.Shelf.faults c.write_commit.new.depot) c.in-Ok.number
    (ap Some c.in-Ok.ensures.number) refl c.in-Ok.ensures.ran

pub returns-in-Ok-clause-done : goal.returns-in-Ok-clause-done
returns-in-Ok-clause-done g c =
    ran_done _ (g.D.Shelf.told c.args.depot.now) (g.D.Shelf.told c.write_commit.new.depot) (g.D.Shelf.faults c.args.depot.now)
    (g.D.Shelf.faults c.write_commit.new.depot) c.in-Ok.number c.in-Ok.ensures.ran

pub returns-in-Ok-clause-stays : goal.returns-in-Ok-clause-stays
returns-in-Ok-clause-stays g c =
    commit_stays c.args.self.now (g.D.Shelf.told c.args.depot.now) (g.D.Shelf.told c.write_commit.new.depot)
    (g.D.Shelf.faults c.args.depot.now) (g.D.Shelf.faults c.write_commit.new.depot)
    (Ok c.in-Ok.number) c.in-Ok.ensures.ran

pub returns-in-Err-clause-stays : goal.returns-in-Err-clause-stays
returns-in-Err-clause-stays g c =
    commit_stays c.args.self.now (g.D.Shelf.told c.args.depot.now) (g.D.Shelf.told c.write_commit.new.depot)
    (g.D.Shelf.faults c.args.depot.now) (g.D.Shelf.faults c.write_commit.new.depot)
    (Err c.in-Err.fault) c.in-Err.ensures.ran

pub returns-in-Ok-clause-untold : goal.returns-in-Ok-clause-untold
returns-in-Ok-clause-untold g c =
    commit_untold c.args.self.now (g.D.Shelf.told c.args.depot.now) (g.D.Shelf.told c.write_commit.new.depot) (g.D.Shelf.faults c.args.depot.now)
    (g.D.Shelf.faults c.write_commit.new.depot) (Ok c.in-Ok.number) c.in-Ok.ensures.ran

pub returns-in-Err-clause-untold : goal.returns-in-Err-clause-untold
returns-in-Err-clause-untold g c =
    commit_untold c.args.self.now (g.D.Shelf.told c.args.depot.now) (g.D.Shelf.told c.write_commit.new.depot) (g.D.Shelf.faults c.args.depot.now)
    (g.D.Shelf.faults c.write_commit.new.depot) (Err c.in-Err.fault) c.in-Err.ensures.ran

pub returns-in-Ok-clause-writes : goal.returns-in-Ok-clause-writes
returns-in-Ok-clause-writes g c =
    commit_writes c.args.self.now (g.D.Shelf.told c.args.depot.now) (g.D.Shelf.told c.write_commit.new.depot) (g.D.Shelf.faults c.args.depot.now)
    (g.D.Shelf.faults c.write_commit.new.depot) (Ok c.in-Ok.number) c.in-Ok.ensures.ran

pub returns-in-Err-clause-writes : goal.returns-in-Err-clause-writes
returns-in-Err-clause-writes g c =
    commit_writes c.args.self.now (g.D.Shelf.told c.args.depot.now) (g.D.Shelf.told c.write_commit.new.depot) (g.D.Shelf.faults c.args.depot.now)
    (g.D.Shelf.faults c.write_commit.new.depot) (Err c.in-Err.fault) c.in-Err.ensures.ran
