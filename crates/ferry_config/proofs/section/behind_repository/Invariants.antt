use Rattle.std.proofs.Common.{◌≡◌, drop, map}
use Rattle.ferry_config.specs.Section.{repository_sections}
use Rattle.ferry_config.specs.View.{line_view}
use Rattle.ferry_config.proofs.section.behind_repository.Given as goal

abbrev pub invariant-loop-place : goal.invariant-loop-place
invariant-loop-place l = repository_sections (map line_view l.lines) ≡ repository_sections (map line_view (drop l.place l.lines))
