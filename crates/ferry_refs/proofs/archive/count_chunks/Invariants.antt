use Rattle.std.proofs.Common.{take}
use Rattle.ferry_check.specs.Report.{ids_in}
use Rattle.ferry_refs.specs.Refs.{count_in}
use Rattle.ferry_refs.specs.Steps.{Adds}
use Rattle.ferry_refs.proofs.archive.count_chunks.Given as goal

-- the chunks so far are counted
abbrev pub invariant-loop-place : goal.invariant-loop-place
invariant-loop-place l = record { adds : Adds (ids_in (take l.place l.chunks)) (count_in l.fn.counts) (count_in l.counts) }
