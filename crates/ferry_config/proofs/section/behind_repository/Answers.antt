use Rattle.std.proofs.Common.{arith, ◌≡◌, ◌+◌, true, false, ◌∷◌, map, drop, codes, get_or, ap, sym, ◌∙◌}
use Rattle.std.proofs.lemmas.List.{take_rest, drop_all}
use Rattle.std.specs.Str.{bytes_eq}
use Rattle.ferry_config.specs.Line as spec
use Rattle.ferry_config.specs.Section.{repository_sections}
use Rattle.ferry_config.specs.View.{line_view}
use Rattle.ferry_config.proofs.SectionLemmas.{line_view-drop, is_header-line_view, repository_sections-nil, repository_sections-other}
use Rattle.ferry_config.proofs.SectionLemmas.{repository_sections-named, repository_sections-unnamed}
use Rattle.ferry_config.proofs.section.behind_repository.Goals.{in-Header+else-eq, in_default}
use Rattle.ferry_config.proofs.section.behind_repository.Goals as goal

pub returns-then-eq-clause-found : goal.returns-then-eq-clause-found
returns-then-eq-clause-found c =
    let lines = c.args.lines.now in
    let place = c.loop-place.place in
    let name = c.in-Header.name.now in
    let same : bytes_eq name (codes "repository") ≡ true = rw c.as_slice.ensures at (sym c.eq.ensures ∙ c.if-eq.true) in
    let here : map line_view (drop place lines) ≡ spec.header name ∷ map line_view (drop (place + 1) lines) =
    rw c.in-Header.is at (line_view-drop lines place (omega arith)) in
    let behind = take_rest lines (place + 1) in
    rw behind (c.loop-place.invariant ∙ ap repository_sections here ∙ repository_sections-named name (map line_view (drop (place + 1) lines)) same)

pub loop-place-preserved : goal.loop-place-preserved
loop-place-preserved c =
    let lines = c.args.lines.now in
    let place = c.loop-place.place in
    let rest = map line_view (drop (place + 1) lines) in
    elim c.match-lines-place.branch [
      | in-Header+else-eq w ↦
          let name = w.in-Header.name.now in
          let other : bytes_eq name (codes "repository") ≡ false = rw w.as_slice.ensures at (sym w.eq.ensures ∙ w.if-eq.false) in
          let here : map line_view (drop place lines) ≡ spec.header name ∷ rest = rw w.in-Header.is at (line_view-drop lines place (omega arith)) in
          c.loop-place.invariant ∙ ap repository_sections here ∙ repository_sections-unnamed name rest other
      | in_default w ↦
          c.loop-place.invariant ∙ ap repository_sections (line_view-drop lines place (omega arith))
          ∙ repository_sections-other (line_view (get_or lines place _)) rest (is_header-line_view _ w.in_default.not-Header)
    ]

pub returns-clause-none : goal.returns-clause-none
returns-clause-none c =
    c.loop-place.invariant
    ∙ ap (λ rest. repository_sections (map line_view rest)) (drop_all c.loop-place.place c.args.lines.now (omega arith)) ∙ repository_sections-nil
