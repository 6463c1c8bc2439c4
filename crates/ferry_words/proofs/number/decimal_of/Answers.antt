use Rattle.std.proofs.Common.{◌≡◌, ◌^◌, ◌<◌, true, get_or, subst, sym}
use Rattle.std.specs.Option.{SomeIff}
use Rattle.std.specs.Str.Parse.{digits_value}
use Rattle.ferry_words.specs.Words as spec
use Rattle.ferry_words.proofs.NumberLemmas.{decimal_parsed}
use Rattle.ferry_words.proofs.number.decimal_of.Goals as goal

pub returns-in-len1-up : goal.returns-in-len1-up
returns-in-len1-up c = record {
  decimal =
      subst (λ number. SomeIff number ((spec.is_decimal c.args.word.now ≡ true) × (digits_value 10 c.args.word.now < 2 ^ 32)) (digits_value 10 c.args.word.now))
      (sym c.ok.ensures.value) (decimal_parsed c.args.word.now c.parse.result c.parse.ensures.value.0
      (subst (λ text. 48 < get_or text 0 0) c.as_bytes.ensures.value c.if-first-gt48.true));
}
