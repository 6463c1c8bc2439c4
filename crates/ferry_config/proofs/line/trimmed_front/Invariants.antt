use Rattle.std.proofs.Common.{◌≡◌, drop}
use Rattle.ferry_config.specs.Line.{trimmed_front}
use Rattle.ferry_config.proofs.line.trimmed_front.Given as goal

abbrev pub invariant-loop-start : goal.invariant-loop-start
invariant-loop-start l = trimmed_front l.text ≡ trimmed_front (drop l.start l.text)
