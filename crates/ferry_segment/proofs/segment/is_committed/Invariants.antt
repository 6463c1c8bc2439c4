use Rattle.std.proofs.Common.{length, ◌-◌}
use Rattle.ferry_segment.proofs.SegmentLemmas.{Scanned}
use Rattle.ferry_segment.proofs.segment.is_committed.Given as goal

-- the entries so far read, and end a transaction or don't
abbrev pub invariant-loop-at : goal.invariant-loop-at
invariant-loop-at l = Scanned l.bytes l.at l.closed

abbrev pub decreases-loop-at : goal.decreases-loop-at
decreases-loop-at l = length l.bytes - l.at
