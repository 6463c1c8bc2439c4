use Rattle.std.proofs.Common.{◌≡◌, ◌<◌, length, ◌∙◌, arith}
use Rattle.std.proofs.lemmas.Bool.Decides.{nat_tests}
use Rattle.ferry_config.proofs.ValueLemmas.{number_of-empty, number_of-spelled}
use Rattle.ferry_config.proofs.values.read_number.Goals as goal

pub returns-then-is_empty : goal.returns-then-is_empty
returns-then-is_empty c =
    let empty : length c.args.text.now ≡ 0 = grind (arith, nat_tests) in
    record { number = number_of-empty c.args.text.now empty }

pub returns : goal.returns
returns c =
    let some : 0 < length c.args.text.now = grind (arith, nat_tests) in
    record { number = c.spelled.ensures.number ∙ number_of-spelled c.args.text.now some c.if-text-eq48.false }
