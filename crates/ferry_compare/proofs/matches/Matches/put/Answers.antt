use Rattle.std.proofs.Common.{sym, subst}
use Rattle.ferry_compare.specs.Matched.{AreMatched, IsMatched}
use Rattle.ferry_compare.proofs.MatchedLemmas.{all_inserted}
use Rattle.ferry_compare.proofs.matches.Matches.put.Goals as goal

pub returns : goal.returns
returns c = record {
  kept = λ told source heard target all is.
      subst (AreMatched told source heard target) (sym c.in-Ok.ensures.entries)
      (all_inserted (IsMatched told source heard target) _ c.self.inside.pairs.entries c.in-Some.first c.args.pair
      (subst (AreMatched told source heard target) (sym c.self.view_is) all) is);
}
