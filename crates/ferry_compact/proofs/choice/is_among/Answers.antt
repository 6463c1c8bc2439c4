use Rattle.std.proofs.Common.{◌∙◌}
use Rattle.ferry_compact.proofs.ListLemmas.{searched_among}
use Rattle.ferry_compact.proofs.choice.is_among.Goals as goal

pub returns : goal.returns
returns c up = c.is_ok.ensures.value ∙ searched_among c.args.numbers.now c.args.segment c.binary_search.result c.binary_search.ensures.position up
