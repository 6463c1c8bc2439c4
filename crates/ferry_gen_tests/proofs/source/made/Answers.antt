use Rattle.std.proofs.Common.{refl}
use Rattle.ferry_disk.specs.Disk.{disk_told}
use Rattle.ferry_gen_tests.proofs.source.made.Goals as goal

pub make_source-requires-clause-empty : goal.make_source-requires-clause-empty
make_source-requires-clause-empty c = (disk_told c.in_ok-depot.depot, (refl, c.in_ok-depot.ensures.empty))
