use Rattle.std.proofs.Common.{◌≡◌, ◌++◌, drop, map}
use Rattle.ferry_config.specs.Section.{continuation}
use Rattle.ferry_config.specs.View.{line_view}
use Rattle.ferry_config.proofs.section.append_pieces.Given as goal

abbrev pub invariant-loop-place : goal.invariant-loop-place
invariant-loop-place l = l.fn.value.items ++ continuation (map line_view l.lines) ≡ l.value.items ++ continuation (map line_view (drop l.place l.lines))
