use Rattle.std.proofs.Common.{arith, ◌∙◌}
use Rattle.ferry_config.specs.Section.{is_assigned}
use Rattle.ferry_config.proofs.SectionLemmas.{before_first-drop, is_assigned-line_view}
use Rattle.ferry_config.proofs.section.before_assigned.Goals as goal

pub loop-place-preserved : goal.loop-place-preserved
loop-place-preserved c =
    c.loop-place.invariant
    ∙ before_first-drop is_assigned c.args.lines.now c.loop-place.place (omega arith) (is_assigned-line_view _ c.in_default.not-Assigned)
