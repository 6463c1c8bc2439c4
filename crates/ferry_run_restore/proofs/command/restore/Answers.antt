use Rattle.ferry_run_restore.proofs.StatusLemmas.{sent_cause}
use Rattle.ferry_run_restore.proofs.command.restore.Goals as goal
use Rattle.ferry_status.specs.Devices.{written}

pub returns-clause-output_cause : goal.returns-clause-output_cause
returns-clause-output_cause g c =
    sent_cause c.answer-ended.result (g.K.Sink.faults c.args.out.now)
    (written (g.K.Sink.written c.answer-ended.new.out) (g.K.Sink.faults c.answer-ended.new.out))
    (written (g.K.Sink.written c.report.new.out) (g.K.Sink.faults c.report.new.out)) c.answer-ended.ensures.output_cause c.report.ensures
