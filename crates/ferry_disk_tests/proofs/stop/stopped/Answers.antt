use Rattle.ferry_disk_tests.proofs.stop.stopped.Goals as goal

pub crash-requires : goal.crash-requires
crash-requires c = c.allows.ensures.0 c.if-allows.true
