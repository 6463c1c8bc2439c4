use Rattle.std.proofs.Common.{refl}
use Rattle.ferry_disk.specs.Disk.{disk_told}
use Rattle.ferry_run_drill.proofs.fill.own_source.Goals as goal

pub make_source-requires-clause-empty : goal.make_source-requires-clause-empty
make_source-requires-clause-empty c = (disk_told c.in-Ok.source, (refl, c.in-Ok.ensures.empty))
