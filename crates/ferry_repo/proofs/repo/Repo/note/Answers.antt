use Rattle.std.proofs.Common.{sym, subst}
use Rattle.std.specs.List.{AllByRecursion}
use Rattle.ferry_repo.specs.Cached.{Noted}
use Rattle.ferry_repo.specs.Noted.{IsNoted}
use Rattle.ferry_repo.proofs.repo.Repo.note.Goals as goal

pub returns-in-Ok-clause-fits : goal.returns-in-Ok-clause-fits
returns-in-Ok-clause-fits c = λ files fits noted.
    let self = c.args.self.now in
    record {
      log = fits.log;
      cached = fits.cached;
      noted = c.put.ensures.kept files self.log self.keys
          (subst (λ (notes : Noted). AllByRecursion (λ n. IsNoted files self.log self.keys n.1) notes) (sym c.place.ensures.same) fits.noted)
          (subst (IsNoted files self.log self.keys) (sym c.in-Ok.ensures.note) noted);
    }
