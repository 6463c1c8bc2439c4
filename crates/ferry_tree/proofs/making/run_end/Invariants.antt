use Rattle.std.proofs.Common.{◌-◌, length}
use Rattle.ferry_tree.specs.Runs.{IsRun}
use Rattle.ferry_tree.proofs.making.run_end.Given as goal

abbrev pub invariant-loop-end : goal.invariant-loop-end
invariant-loop-end l = record {
  run : IsRun l.is_hole l.content l.from l.end;
}

abbrev pub decreases-loop-end : goal.decreases-loop-end
decreases-loop-end l = length l.content - l.end
