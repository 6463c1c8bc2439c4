use Rattle.std.proofs.Common.{string_bytes, ◌∙◌, sym}
use Rattle.ferry_words.proofs.PlaceLemmas.{value_behind}
use Rattle.ferry_words.proofs.options.value_of.Goals as goal

pub loop-rest-preserved : goal.loop-rest-preserved
loop-rest-preserved c = record {
  left =
      value_behind string_bytes c.loop-rest.rest.now c.first-item.result c.as_str.result.now c.args.name.now c.in-len2-up.len_at_least
      c.first-item.is c.as_str.ensures.value (sym c.if-eq.ensures)
      ∙ c.loop-rest.invariant.left;
}
