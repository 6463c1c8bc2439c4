use Rattle.std.proofs.Common.{◌≡◌, ◌+◌, ◌*◌, true, [], drop, get_or, sym, ◌∙◌, ap, arith}
use Rattle.std.proofs.lemmas.List.{drop_all}
use Rattle.std.specs.Char.{is_ascii_digit}
use Rattle.std.specs.Str.{all_ascii_digits}
use Rattle.ferry_config.specs.Value.{number_from}
use Rattle.ferry_config.proofs.ValueLemmas.{digits-drop, number_from-drop, number_from-nil, spelled-end, spelled-over}
use Rattle.ferry_config.proofs.values.spelled.Goals as goal

pub returns-then-number-gt-GREATEST : goal.returns-then-number-gt-GREATEST
returns-then-number-gt-GREATEST c =
    let text = c.args.text.now in
    let place = c.loop-digit.digit-index in
    let number : number_from 0 text ≡ number_from (10 * c.loop-digit.number + c.from.result) (drop (place + 1) text) =
    rw c.from.ensures (c.loop-digit.invariant.number ∙ number_from-drop c.loop-digit.number text place (omega arith)) in
    record { number = spelled-over text (10 * c.loop-digit.number + c.from.result) (drop (place + 1) text) number (omega arith) }

pub loop-digit-preserved : goal.loop-digit-preserved
loop-digit-preserved c =
    let text = c.args.text.now in
    let place = c.loop-digit.digit-index in
    let digit : is_ascii_digit (get_or text place 0) ≡ true = sym c.is_ascii_digit.ensures.value ∙ c.if-not-is_ascii_digit.false in
    record {
      small = omega arith;
      digits = c.loop-digit.invariant.digits ∙ digits-drop text place (omega arith) digit;
      number = rw c.from.ensures (c.loop-digit.invariant.number ∙ number_from-drop c.loop-digit.number text place (omega arith));
    }

pub returns : goal.returns
returns c =
    let text = c.args.text.now in
    let place = c.loop-digit.digit-index in
    let behind : drop place text ≡ [] = drop_all place text (omega arith) in
    let digits : all_ascii_digits text ≡ true = c.loop-digit.invariant.digits ∙ ap all_ascii_digits behind in
    let number : number_from 0 text ≡ c.loop-digit.number =
    c.loop-digit.invariant.number ∙ ap (number_from c.loop-digit.number) behind ∙ number_from-nil c.loop-digit.number in
    record { number = spelled-end text c.loop-digit.number digits number c.loop-digit.invariant.small }
