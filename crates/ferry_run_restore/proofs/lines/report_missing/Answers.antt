use Rattle.ferry_status.specs.Devices.{written}
use Rattle.ferry_status.specs.Status.{missing_line}
use Rattle.ferry_run_restore.proofs.StatusLemmas.{unsent}
use Rattle.ferry_run_restore.proofs.lines.report_missing.Goals as goal

pub returns-in-Err : goal.returns-in-Err
returns-in-Err g c = unsent (missing_line c.args.name.now) (written (g.K.Sink.written c.args.out.now) (g.K.Sink.faults c.args.out.now))
