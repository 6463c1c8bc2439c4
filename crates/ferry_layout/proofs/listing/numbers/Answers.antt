use Rattle.std.proofs.Common.{sym, subst}
use Rattle.std.specs.List.Sorted.{IsStrictlyIncreasing}
use Rattle.std.proofs.lemmas.Map.Keys.{IsStrictlyIncreasing-from_sorted}
use Rattle.std.proofs.lemmas.Result.{IfOk-weaker}
use Rattle.ferry_layout.proofs.listing.numbers.Goals as goal

pub returns-clause-increasing : goal.returns-clause-increasing
returns-clause-increasing c =
    IfOk-weaker c.keys_of.result _ _
    (λ numbers e. subst IsStrictlyIncreasing (sym e) (IsStrictlyIncreasing-from_sorted _ c.keys_of.ensures.ordered))
    c.keys_of.ensures.keys
