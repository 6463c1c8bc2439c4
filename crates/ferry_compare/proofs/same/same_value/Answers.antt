use Rattle.std.proofs.Common.{sym, ◌∙◌}
use Rattle.ferry_msgpack.specs.View.{value_view}
use Rattle.ferry_compare.proofs.SameLemmas.{tree_says, tree_passes}
use Rattle.ferry_compare.proofs.same.same_value.Goals as goal

pub returns : goal.returns
returns c =
    let a = value_view c.args.first.now in
    let b = value_view c.args.second.now in
    record { same = (λ t. tree_says a b (sym c.tests_same.ensures ∙ t), λ e. c.tests_same.ensures ∙ tree_passes a b e) }
