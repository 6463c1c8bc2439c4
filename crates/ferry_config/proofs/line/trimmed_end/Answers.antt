use Rattle.std.proofs.Common.{◌≡◌, ◌+◌, ◌-◌, false, true, length, get_or, take, sym, ◌∙◌, ap, arith}
use Rattle.ferry_config.specs.Line.{is_space, trimmed_end}
use Rattle.ferry_config.proofs.LineLemmas.{trimmed_end-take, trimmed_end-take_same, trimmed_end-nil}
use Rattle.ferry_config.proofs.line.trimmed_end.Goals as goal

pub returns-then-not-is_space : goal.returns-then-not-is_space
returns-then-not-is_space c =
    let text = c.args.text.now in
    let last = length text - 1 - c.loop-dropped.dropped in
    let other : is_space (get_or text last 0) ≡ false = cc in
    let left : length text - c.loop-dropped.dropped ≡ last + 1 = omega arith in
    let whole : trimmed_end text ≡ trimmed_end (take (last + 1) text) = rw left at c.loop-dropped.invariant in
    record { trimmed = sym (whole ∙ trimmed_end-take_same text last (omega arith) other) }

pub loop-dropped-preserved : goal.loop-dropped-preserved
loop-dropped-preserved c =
    let text = c.args.text.now in
    let last = length text - 1 - c.loop-dropped.dropped in
    let space : is_space (get_or text last 0) ≡ true = cc in
    let left : length text - c.loop-dropped.dropped ≡ last + 1 = omega arith in
    let less : length text - (c.loop-dropped.dropped + 1) ≡ last = omega arith in
    let whole : trimmed_end text ≡ trimmed_end (take (last + 1) text) = rw left at c.loop-dropped.invariant in
    whole ∙ trimmed_end-take text last (omega arith) space ∙ ap (λ n. trimmed_end (take n text)) (sym less)

pub returns : goal.returns
returns c =
    let text = c.args.text.now in
    let none : length text - c.loop-dropped.dropped ≡ 0 = omega arith in
    let whole : trimmed_end text ≡ trimmed_end (take 0 text) = rw none at c.loop-dropped.invariant in
    record { trimmed = sym (whole ∙ trimmed_end-nil) }
