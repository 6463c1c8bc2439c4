use Rattle.std.proofs.Common.{◌≡◌, drop, map}
use Rattle.std.specs.List.{list_any}
use Rattle.ferry_config.specs.Section.{is_continued}
use Rattle.ferry_config.specs.View.{line_view}
use Rattle.ferry_config.proofs.section.has_continued.Given as goal

abbrev pub invariant-loop-place : goal.invariant-loop-place
invariant-loop-place l = list_any is_continued (map line_view l.lines) ≡ list_any is_continued (map line_view (drop l.place l.lines))
