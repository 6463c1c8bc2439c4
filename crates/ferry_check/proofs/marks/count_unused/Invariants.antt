use Rattle.std.proofs.Common.{◌≡◌, ◌≤◌, length, take}
use Rattle.std.specs.BTreeMap.{get}
use Rattle.ferry_log.specs.Live.{key_cmp}
use Rattle.ferry_check.specs.Steps.{unused}
use Rattle.ferry_check.proofs.marks.count_unused.Given as goal

-- those so far that aren't marked are counted
abbrev pub invariant-loop-place : goal.invariant-loop-place
invariant-loop-place l = record { count : l.count ≡ length (unused (get key_cmp l.fn.chunks) (take l.place l.ids)); small : l.count ≤ l.place }
