use Rattle.std.proofs.Common.{take}
use Rattle.std.specs.BTreeMap.{get}
use Rattle.ferry_log.specs.Live.{key_cmp}
use Rattle.ferry_check.specs.Report.{ids_in}
use Rattle.ferry_check.specs.Steps.{Marks, AreRight}
use Rattle.ferry_check.proofs.marks.use_chunks.Given as goal

-- the chunks so far are right and are marked
abbrev pub invariant-loop-place : goal.invariant-loop-place
invariant-loop-place l = record {
  right : AreRight (get key_cmp l.fn.chunks) (take l.place l.refs);
  marks : Marks (ids_in (take l.place l.refs)) (get key_cmp l.fn.chunks) (get key_cmp l.chunks);
}
