use Rattle.std.proofs.Common.{◌≤◌}
use Rattle.ferry_repo.proofs.shared.common.Given as goal

-- those that are counted were looked at
abbrev pub invariant-loop-place : goal.invariant-loop-place
invariant-loop-place l = l.count ≤ l.place
