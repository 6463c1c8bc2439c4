use Rattle.std.proofs.Common.{refl, arith, map, string_bytes}
use Rattle.std.proofs.lemmas.List.{length-map}
use Rattle.ferry_words.specs.Words as spec
use Rattle.ferry_words.proofs.OperandLemmas.{many_meant}
use Rattle.ferry_words.proofs.reading.tag_archives.Goals as goal

pub returns-in-len1-up : goal.returns-in-len1-up
returns-in-len1-up c = record {
  answer =
      many_meant spec.tag_archives_form 0 (map string_bytes c.args.behind.now) _ _ refl c.in_ok-parts.ensures.parts
      (omega (arith, c.in-len1-up.len_at_least, length-map c.in_ok-parts.parts.operands.now string_bytes)) (omega arith);
}
