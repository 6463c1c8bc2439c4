use Rattle.std.proofs.Common.{arith, ◌∙◌}
use Rattle.ferry_config.specs.Section.{is_header}
use Rattle.ferry_config.proofs.SectionLemmas.{before_first-drop, is_header-line_view}
use Rattle.ferry_config.proofs.section.before_header.Goals as goal

pub loop-place-preserved : goal.loop-place-preserved
loop-place-preserved c =
    c.loop-place.invariant ∙ before_first-drop is_header c.args.lines.now c.loop-place.place (omega arith) (is_header-line_view _ c.in_default.not-Header)
