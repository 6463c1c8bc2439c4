use Rattle.std.proofs.Common.{◌≡◌, ◌++◌, length, map}
use Rattle.std.specs.Str.Lines.{lines}
use Rattle.ferry_config.specs.Line.{line_of}
use Rattle.ferry_config.specs.View.{line_view}
use Rattle.ferry_config.proofs.lines.lines_of.Given as goal

abbrev pub invariant-loop-rest : goal.invariant-loop-rest
invariant-loop-rest l = map line_view l.all.items ++ map line_of (lines l.rest) ≡ map line_of (lines l.fn.text)

abbrev pub decreases-loop-rest : goal.decreases-loop-rest
decreases-loop-rest l = length l.rest
