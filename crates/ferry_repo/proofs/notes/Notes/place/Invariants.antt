use Rattle.std.proofs.Common.{◌≡◌}
use Rattle.ferry_repo.proofs.notes.Notes.place.Given as goal

-- nothing changes of what is seen
abbrev pub invariant-loop-place : goal.invariant-loop-place
invariant-loop-place l = l.self ≡ l.fn.self
