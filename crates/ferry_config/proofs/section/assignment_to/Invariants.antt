use Rattle.std.proofs.Common.{◌≡◌, drop, map}
use Rattle.ferry_config.specs.Section.{assignments, values_to}
use Rattle.ferry_config.specs.View.{line_view}
use Rattle.ferry_config.proofs.section.assignment_to.Given as goal

abbrev pub invariant-loop-place : goal.invariant-loop-place
invariant-loop-place l = values_to l.name (assignments (map line_view l.lines)) ≡ values_to l.name (assignments (map line_view (drop l.place l.lines)))
