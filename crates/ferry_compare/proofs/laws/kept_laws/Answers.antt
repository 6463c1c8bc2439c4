use Rattle.ferry_compare.proofs.KeptLemmas.{beside_kept}
use Rattle.ferry_compare.proofs.MatchedLemmas.{matched_kept}
use Rattle.ferry_compare.proofs.laws.kept_laws.Goals as goal

pub returns : goal.returns
returns c = record {
  target = λ told source target before after log manifest met state keeps same fits. record {
    front = fits.front;
    read = fits.read;
    beside = beside_kept before after target log manifest met state.name state.other fits.front keeps same fits.beside;
    matched = matched_kept told source target before after log manifest keeps state.matched fits.matched;
  };
}
