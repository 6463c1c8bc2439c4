use Rattle.std.proofs.Common.{arith, ◌≡◌, ◌+◌, true, false, ◌∷◌, map, drop, get_or, ap, sym, ◌∙◌}
use Rattle.std.proofs.lemmas.List.{take_rest, drop_all}
use Rattle.std.specs.Str.{bytes_eq}
use Rattle.ferry_config.specs.Line as spec
use Rattle.ferry_config.specs.Section.{assignments, values_to}
use Rattle.ferry_config.specs.View.{line_view}
use Rattle.ferry_config.proofs.SectionLemmas.{line_view-drop, is_assigned-line_view, assignments-other, values_to-named, values_to-nil, values_to-unnamed}
use Rattle.ferry_config.proofs.section.assignment_to.Goals.{in-Assigned+else-eq, in_default}
use Rattle.ferry_config.proofs.section.assignment_to.Goals as goal

pub returns-then-eq-clause-found : goal.returns-then-eq-clause-found
returns-then-eq-clause-found c =
    let lines = c.args.lines.now in
    let name = c.args.name.now in
    let place = c.loop-place.place in
    let found = c.in-Assigned.found.now in
    let value = c.in-Assigned.value.now in
    let rest = map line_view (drop (place + 1) lines) in
    let same : bytes_eq found name ≡ true = sym c.eq.ensures ∙ c.if-eq.true in
    let here : map line_view (drop place lines) ≡ spec.assigned found value ∷ rest = rw c.in-Assigned.is at (line_view-drop lines place (omega arith)) in
    let behind = take_rest lines (place + 1) in
    rw behind (c.loop-place.invariant ∙ ap (λ all. values_to name (assignments all)) here ∙ values_to-named name found value rest same)

pub loop-place-preserved : goal.loop-place-preserved
loop-place-preserved c =
    let lines = c.args.lines.now in
    let name = c.args.name.now in
    let place = c.loop-place.place in
    let rest = map line_view (drop (place + 1) lines) in
    elim c.match-lines-place.branch [
      | in-Assigned+else-eq w ↦
          let found = w.in-Assigned.found.now in
          let value = w.in-Assigned.value.now in
          let other : bytes_eq found name ≡ false = sym w.eq.ensures ∙ w.if-eq.false in
          let here : map line_view (drop place lines) ≡ spec.assigned found value ∷ rest =
          rw w.in-Assigned.is at (line_view-drop lines place (omega arith)) in
          c.loop-place.invariant ∙ ap (λ all. values_to name (assignments all)) here ∙ values_to-unnamed name found value rest other
      | in_default w ↦
          c.loop-place.invariant ∙ ap (λ all. values_to name (assignments all)) (line_view-drop lines place (omega arith))
          ∙ ap (values_to name) (assignments-other (line_view (get_or lines place _)) rest (is_assigned-line_view _ w.in_default.not-Assigned))
    ]

pub returns-clause-none : goal.returns-clause-none
returns-clause-none c =
    let name = c.args.name.now in
    c.loop-place.invariant
    ∙ ap (λ rest. values_to name (assignments (map line_view rest))) (drop_all c.loop-place.place c.args.lines.now (omega arith)) ∙ values_to-nil name
