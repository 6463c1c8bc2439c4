use Rattle.std.proofs.Common.{refl, arith, map, string_bytes}
use Rattle.std.proofs.lemmas.List.{length-map}
use Rattle.ferry_words.specs.Words as spec
use Rattle.ferry_words.proofs.OperandLemmas.{many_meant}
use Rattle.ferry_words.proofs.reading.delete.Goals as goal

pub returns-in_default : goal.returns-in_default
returns-in_default c = record {
  answer =
      many_meant spec.delete_form 1 (map string_bytes c.args.behind.now) _ _ refl c.in_ok-parts.ensures.parts
      (omega (arith, c.in_default.len_at_least, length-map c.in_ok-parts.parts.operands.now string_bytes)) (omega arith);
}
