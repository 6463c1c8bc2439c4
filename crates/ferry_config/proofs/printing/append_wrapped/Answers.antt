use Rattle.std.proofs.Common.{◌+◌, ◌++◌, ap, sym, ◌∙◌, append_assoc}
use Rattle.std.specs.List.{flat_map}
use Rattle.ferry_config.specs.Text.{ended, piece}
use Rattle.ferry_config.proofs.TextLemmas.{wrapped_to, wrapped_to-zero, wrapped_to-next}
use Rattle.ferry_config.proofs.printing.append_wrapped.Goals as goal

pub loop-number-init : goal.loop-number-init
loop-number-init c =
    let text = c.args.text.now.items in
    let front = c.args.front.now in
    let line = c.args.line.now in
    c.in_ok-append_line.ensures.ok ∙ ap (λ first. text ++ ended (front ++ first)) c.piece.ensures.piece
    ∙ ap (λ lines. text ++ lines) (sym (wrapped_to-zero front c.args.before.now line))

pub loop-number-preserved : goal.loop-number-preserved
loop-number-preserved c =
    let text = c.args.text.now.items in
    let front = c.args.front.now in
    let before = c.args.before.now in
    let line = c.args.line.now in
    let number = c.loop-number.number in
    let lines = flat_map ended (wrapped_to front before line number) in
    c.in_ok-append_line-2.ensures.ok
    ∙ ap (λ whole. whole ++ ended (before ++ c.piece-in-loop-number.result.now)) c.loop-number.invariant
    ∙ ap (λ next. (text ++ lines) ++ ended (before ++ next)) c.piece-in-loop-number.ensures.piece
    ∙ append_assoc text lines (ended (before ++ piece line (number + 1)))
    ∙ ap (λ all. text ++ all) (sym (wrapped_to-next front before line number))
