use Rattle.std.proofs.Common.{length}
use Rattle.ferry_text.proofs.AppendLemmas.{Appends}
use Rattle.ferry_text.proofs.escape.append_text.Given as goal

-- the text of what is left completes what is there
abbrev pub invariant-loop-byte : goal.invariant-loop-byte
invariant-loop-byte l = Appends l.fn.into.items l.into.items l.rest l.fn.bytes

abbrev pub decreases-loop-byte : goal.decreases-loop-byte
decreases-loop-byte l = length l.rest
