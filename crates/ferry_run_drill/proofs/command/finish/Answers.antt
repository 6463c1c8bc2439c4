use Rattle.std.proofs.Common.{MatchOption, subst, sym}
use Rattle.ferry_check.specs.Verify.{FilesVerify}
use Rattle.ferry_disk.specs.Act.{History, files_now}
use Rattle.ferry_status.specs.Devices.{written}
use Rattle.ferry_store.proofs.StepLemmas.{same_told}
use Rattle.ferry_store.specs.Fault.{depot_failed}
use Rattle.ferry_run_drill.proofs.PrintLemmas.{printed}
use Rattle.ferry_run_drill.proofs.WorkLemmas.{history_kept}
use Rattle.ferry_run_drill.specs.Drill.{HasBad, HasCopied, target_secret}
use Rattle.ferry_status.specs.Status.{store_status}
use Rattle.ferry_run_drill.proofs.CheckLemmas.{printed_ends, unread_ends}
use Rattle.ferry_run_drill.specs.Complete.{EndsChecked}
use Rattle.ferry_run_drill.proofs.command.finish.Goals as goal

pub returns-in-Ok-clause-prints : goal.returns-in-Ok-clause-prints
returns-in-Ok-clause-prints g c =
    let a = g.D.Shelf.told c.args.target.now in
    let b = g.D.Shelf.told c.verify.new.target in
    let bad = c.in-Ok.bad in
    printed c.args.count c.args.carried.now bad b (written (g.K.Sink.written c.args.out.now) (g.K.Sink.faults c.args.out.now)) c.print.result
    (written (g.K.Sink.written c.print.new.out) (g.K.Sink.faults c.print.new.out))
    (history_kept a b (HasCopied c.args.count c.args.carried.now) c.in-Ok.ensures.same c.requires.copied)
    (history_kept a b (λ (h : History). MatchOption bad (FilesVerify (files_now h) target_secret) (HasBad (files_now h))) c.in-Ok.ensures.same
    c.in-Ok.ensures.checked) c.print.ensures.sent

pub returns-in-Ok-clause-read : goal.returns-in-Ok-clause-read
returns-in-Ok-clause-read g c =
    same_told depot_failed (g.D.Shelf.told c.args.target.now) (g.D.Shelf.told c.verify.new.target) c.verify.result c.verify.ensures.same

pub returns-in-Err-clause-read : goal.returns-in-Err-clause-read
returns-in-Err-clause-read g c =
    same_told depot_failed (g.D.Shelf.told c.args.target.now) (g.D.Shelf.told c.verify.new.target) c.verify.result c.verify.ensures.same

pub returns-in-Ok-clause-completes : goal.returns-in-Ok-clause-completes
returns-in-Ok-clause-completes g c =
    printed_ends c.args.count c.args.carried.now (g.D.Shelf.told c.args.target.now) (g.D.Shelf.told c.verify.new.target) c.in-Ok.bad
    (written (g.K.Sink.written c.args.out.now) (g.K.Sink.faults c.args.out.now)) (written (g.K.Sink.written c.print.new.out) (g.K.Sink.faults c.print.new.out))
    c.print.result c.in-Ok.ensures.same c.in-Ok.ensures.checked c.print.ensures.sent

pub returns-in-Err-clause-completes : goal.returns-in-Err-clause-completes
returns-in-Err-clause-completes g c =
    let a = g.D.Shelf.told c.args.target.now in
    let d = g.D.Shelf.told c.verify.new.target in
    subst (EndsChecked c.args.count c.args.carried.now d) (sym c.of_store.ensures)
    (unread_ends c.args.count c.args.carried.now a d (depot_failed c.in-Err.refusal) (store_status c.in-Err.refusal) c.in-Err.ensures.same
    c.in-Err.ensures.finished)
