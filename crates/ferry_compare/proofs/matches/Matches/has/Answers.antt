use Rattle.std.proofs.Common.{sym, subst}
use Rattle.ferry_compare.specs.Matched.{AreMatched, IsMatched}
use Rattle.ferry_compare.specs.declared.matches.Pair.{Pair}
use Rattle.ferry_compare.proofs.MatchedLemmas.{all_found}
use Rattle.ferry_compare.proofs.matches.Matches.has.Goals as goal

pub returns-in-Some-get : goal.returns-in-Some-get
returns-in-Some-get c = record {
  matched = λ same told source heard target all.
      subst (λ (pair : Pair). IsMatched told source heard target pair) (c.is_of.ensures same)
      (all_found (IsMatched told source heard target) _ c.self.inside.pairs.entries c.in-Some-get.pair.now
      (subst (AreMatched told source heard target) (sym c.self.view_is) all) (sym c.in-Some-get.ensures.value));
}
