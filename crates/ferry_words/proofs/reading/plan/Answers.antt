use Rattle.std.proofs.Common.{map, string_bytes}
use Rattle.ferry_words.proofs.OperandLemmas.{plan_meant}
use Rattle.ferry_words.proofs.reading.plan.Goals as goal

pub returns : goal.returns
returns c = record {
  answer =
      plan_meant (map string_bytes c.args.behind.now) _ _ _ c.in_ok-parts.ensures.parts c.block_of.ensures.block c.in_ok-names.ensures.names;
}
