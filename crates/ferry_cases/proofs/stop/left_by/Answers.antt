use Rattle.ferry_cases.proofs.stop.left_by.Goals as goal

pub crash-requires : goal.crash-requires
crash-requires c = c.allows.ensures.0 c.if-allows.true
