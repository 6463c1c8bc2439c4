use Rattle.std.proofs.Common.{◌≡◌, ◌-◌, length, take}
use Rattle.ferry_config.specs.Line.{trimmed_end}
use Rattle.ferry_config.proofs.line.trimmed_end.Given as goal

abbrev pub invariant-loop-dropped : goal.invariant-loop-dropped
invariant-loop-dropped l = trimmed_end l.text ≡ trimmed_end (take (length l.text - l.dropped) l.text)
