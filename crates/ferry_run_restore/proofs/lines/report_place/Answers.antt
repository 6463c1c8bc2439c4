use Rattle.ferry_status.specs.Devices.{written}
use Rattle.ferry_run_restore.specs.Restored.{place_line}
use Rattle.ferry_run_restore.proofs.StatusLemmas.{unsent}
use Rattle.ferry_run_restore.proofs.lines.report_place.Goals as goal

pub returns-in-Err : goal.returns-in-Err
returns-in-Err g c = unsent (place_line c.args.path.now c.args.fault) (written (g.K.Sink.written c.args.out.now) (g.K.Sink.faults c.args.out.now))
