use Rattle.std.proofs.Common.{◌≡◌}
use Rattle.ferry_gen.proofs.content.file_content.Given as goal
use Rattle.ferry_gen.specs.Content.{file_front}

-- the bytes so far
abbrev pub invariant-loop-place : goal.invariant-loop-place
invariant-loop-place l = l.content.items ≡ file_front l.archive l.file l.place
