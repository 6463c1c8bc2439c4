use Rattle.std.proofs.Common.{take}
use Rattle.ferry_refs.specs.Refs.{count_in}
use Rattle.ferry_refs.specs.Steps.{Adds, no_tally}
use Rattle.ferry_refs.specs.TagSteps.{record_ids}
use Rattle.ferry_refs.proofs.untagged.count_records.Given as goal

-- the records so far are counted
abbrev pub invariant-loop-place : goal.invariant-loop-place
invariant-loop-place l = record { adds : Adds (record_ids (take l.place l.untagged)) no_tally (count_in l.counts) }
