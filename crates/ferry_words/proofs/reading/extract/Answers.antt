use Rattle.std.proofs.Common.{refl, arith, map, string_bytes}
use Rattle.std.proofs.lemmas.List.{length-map}
use Rattle.ferry_words.specs.Words as spec
use Rattle.ferry_words.proofs.OperandLemmas.{few_meant, many_meant}
use Rattle.ferry_words.proofs.reading.extract.Goals as goal

pub returns-in-len1 : goal.returns-in-len1
returns-in-len1 c = record {
  answer =
      few_meant spec.extract_form 2 (map string_bytes c.args.behind.now) _ _ refl c.in_ok-parts.ensures.parts
      (omega (arith, c.in-len1.len_at_least, c.in-len1.len_below, length-map c.in_ok-parts.parts.operands.now string_bytes))
      (omega (arith, c.in-len1.len_at_least, c.in-len1.len_below, length-map c.in_ok-parts.parts.operands.now string_bytes))
      (omega (arith, c.in-len1.len_at_least, c.in-len1.len_below, length-map c.in_ok-parts.parts.operands.now string_bytes));
}

pub returns-in-len3-up : goal.returns-in-len3-up
returns-in-len3-up c = record {
  answer =
      many_meant spec.extract_form 2 (map string_bytes c.args.behind.now) _ _ refl c.in_ok-parts.ensures.parts
      (omega (arith, c.in-len3-up.len_at_least, length-map c.in_ok-parts.parts.operands.now string_bytes)) (omega arith);
}
