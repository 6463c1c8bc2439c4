use Rattle.std.proofs.Common.{take}
use Rattle.std.specs.BTreeMap.{get}
use Rattle.ferry_log.specs.Live.{key_cmp}
use Rattle.ferry_check.specs.Steps.{Marks}
use Rattle.ferry_check.proofs.marks.mark_all.Given as goal

-- the chunks of the ids so far are marked
abbrev pub invariant-loop-place : goal.invariant-loop-place
invariant-loop-place l = record { marks : Marks (take l.place l.ids) (get key_cmp l.fn.chunks) (get key_cmp l.chunks) }
