use Rattle.ferry_run_restore.proofs.StatusLemmas.{sends_cause}
use Rattle.ferry_run_restore.proofs.command.restore_named.Goals as goal
use Rattle.ferry_run_restore.specs.Restored.{counts_line}
use Rattle.ferry_status.specs.Devices.{written}

pub returns-in-Ok-clause-output_cause : goal.returns-in-Ok-clause-output_cause
returns-in-Ok-clause-output_cause g c =
    sends_cause (counts_line c.in-Ok.counts) (written (g.K.Sink.written c.args.out.now) (g.K.Sink.faults c.args.out.now)) c.print.result
    (written (g.K.Sink.written c.print.new.out) (g.K.Sink.faults c.print.new.out)) c.print.ensures.sent
