use Rattle.std.proofs.Common.{take}
use Rattle.ferry_refs.specs.Refs.{count_in}
use Rattle.ferry_refs.specs.Steps.{Adds}
use Rattle.ferry_refs.proofs.counts.Counts.add_all.Given as goal

-- the ids so far are counted
abbrev pub invariant-loop-place : goal.invariant-loop-place
invariant-loop-place l = record { adds : Adds (take l.place l.ids) (count_in l.fn.self) (count_in l.self) }
