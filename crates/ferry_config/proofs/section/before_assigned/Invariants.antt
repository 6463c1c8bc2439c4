use Rattle.std.proofs.Common.{◌≡◌, ◌++◌, drop, map, take}
use Rattle.std.specs.List.{before_first}
use Rattle.ferry_config.specs.Section.{is_assigned}
use Rattle.ferry_config.specs.View.{line_view}
use Rattle.ferry_config.proofs.section.before_assigned.Given as goal

abbrev pub invariant-loop-place : goal.invariant-loop-place
invariant-loop-place l =
    before_first is_assigned (map line_view l.lines) ≡ map line_view (take l.place l.lines) ++ before_first is_assigned
    (map line_view (drop l.place l.lines))
