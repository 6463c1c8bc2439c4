use Rattle.std.proofs.Common.{◌≡◌, false, true, length, get_or, drop, sym, ◌∙◌, ap, arith}
use Rattle.std.proofs.lemmas.List.{take_rest, drop_all}
use Rattle.ferry_config.specs.Line.{is_space, trimmed_front}
use Rattle.ferry_config.proofs.LineLemmas.{trimmed_front-drop, trimmed_front-drop_same, trimmed_front-nil}
use Rattle.ferry_config.proofs.line.trimmed_front.Goals as goal

pub returns-then-not-is_space : goal.returns-then-not-is_space
returns-then-not-is_space c =
    let text = c.args.text.now in
    let start = c.loop-start.start in
    let other : is_space (get_or text start 0) ≡ false = cc in
    record { trimmed = take_rest text start ∙ sym (c.loop-start.invariant ∙ trimmed_front-drop_same text start other) }

pub loop-start-preserved : goal.loop-start-preserved
loop-start-preserved c =
    let text = c.args.text.now in
    let start = c.loop-start.start in
    let space : is_space (get_or text start 0) ≡ true = cc in
    c.loop-start.invariant ∙ trimmed_front-drop text start (omega arith) space

pub returns : goal.returns
returns c =
    let text = c.args.text.now in
    let all : c.loop-start.start ≡ length text = omega arith in
    let whole : trimmed_front text ≡ trimmed_front (drop (length text) text) = rw all at c.loop-start.invariant in
    record {
      trimmed = take_rest text (length text) ∙ drop_all (length text) text (omega arith)
          ∙ sym (whole ∙ ap trimmed_front (drop_all (length text) text (omega arith)) ∙ trimmed_front-nil);
    }
