use Rattle.std.proofs.Common.{arith, ℕ, Vec, Global, ◌≡◌, ◌+◌, ◌++◌, ◌∷◌, map, drop, get_or, refl, ap, sym, ◌∙◌, append-nil, append_assoc}
use Rattle.std.proofs.lemmas.List.{drop_all}
use Rattle.ferry_config.specs.Line as spec
use Rattle.ferry_config.specs.Section.{continuation}
use Rattle.ferry_config.specs.View.{line_view}
use Rattle.ferry_config.specs.declared.line.Line.TheVariants.{Passed}
use Rattle.ferry_config.proofs.SectionLemmas.{line_view-drop, continuation-assigned, continuation-other, continuation-nil, is_assigned-line_view}
use Rattle.ferry_config.proofs.SectionLemmas.{piece_of-line_view}
use Rattle.ferry_config.proofs.section.append_pieces.Goals.{in-Continued+in_ok-extend_from_slice-in-Continued, in_default}
use Rattle.ferry_config.proofs.section.append_pieces.Goals as goal

pub returns-in-Assigned : goal.returns-in-Assigned
returns-in-Assigned c =
    let lines = c.args.lines.now in
    let place = c.loop-place.place in
    let value = c.loop-place.value.items in
    let rest = map line_view (drop (place + 1) lines) in
    let name = c.in-Assigned.field-0.now in
    let begun = c.in-Assigned.field-1.now in
    let here : map line_view (drop place lines) ≡ spec.assigned name begun ∷ rest = rw c.in-Assigned.is at (line_view-drop lines place (omega arith)) in
    record {
      ok = sym (c.loop-place.invariant ∙ ap (λ all. value ++ continuation all) here
          ∙ ap (λ all. value ++ all) (continuation-assigned name begun rest) ∙ append-nil value);
    }

pub loop-place-preserved : goal.loop-place-preserved
loop-place-preserved c =
    let lines = c.args.lines.now in
    let place = c.loop-place.place in
    let value = c.loop-place.value.items in
    let rest = map line_view (drop (place + 1) lines) in
    elim c.match-lines-place.branch [
      | in-Continued+in_ok-extend_from_slice-in-Continued w ↦
          let piece = w.in-Continued.piece.now in
          let here : map line_view (drop place lines) ≡ spec.continued piece ∷ rest = rw w.in-Continued.is at (line_view-drop lines place (omega arith)) in
          let grown : w.extend_from_slice.new.self.items ≡ value ++ piece = w.in_ok-extend_from_slice-in-Continued.ensures.items in
          c.loop-place.invariant ∙ ap (λ all. value ++ continuation all) here
          ∙ ap (λ all. value ++ all) (continuation-other (spec.continued piece) rest refl)
          ∙ sym (append_assoc value piece (continuation rest)) ∙ ap (λ front. front ++ continuation rest) (sym grown)
          ∙ ap (λ (v : Vec ℕ Global). v.items ++ continuation rest) (sym w.value-is)
      | in_default w ↦
          let line = get_or lines place Passed in
          let skipped : continuation (map line_view (drop place lines)) ≡ continuation rest =
          ap continuation (line_view-drop lines place (omega arith))
          ∙ continuation-other (line_view line) rest (is_assigned-line_view line w.in_default.not-Assigned)
          ∙ ap (λ piece. piece ++ continuation rest) (piece_of-line_view line w.in_default.not-Continued) in
          c.loop-place.invariant ∙ ap (λ all. value ++ all) skipped ∙ ap (λ (v : Vec ℕ Global). v.items ++ continuation rest) (sym w.value-is)
    ]

pub returns : goal.returns
returns c =
    let value = c.loop-place.value.items in
    record {
      ok = sym (c.loop-place.invariant
          ∙ ap (λ rest. value ++ continuation (map line_view rest)) (drop_all c.loop-place.place c.args.lines.now (omega arith))
          ∙ ap (λ all. value ++ all) continuation-nil ∙ append-nil value);
    }
