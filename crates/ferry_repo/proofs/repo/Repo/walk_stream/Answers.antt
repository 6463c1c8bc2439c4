use Rattle.std.proofs.Common.{sym, subst}
use Rattle.ferry_repo.specs.Opening.{repo_view}
use Rattle.ferry_repo.specs.Walk.{WalkState, FitsWalk}
use Rattle.ferry_repo.proofs.WalkLemmas.{fits_begin}
use Rattle.ferry_repo.proofs.repo.Repo.walk_stream.Goals as goal

pub returns-clause-fits : goal.returns-clause-fits
returns-clause-fits c files =
    let repo = repo_view c.args.self.now in
    subst (λ (w : WalkState). FitsWalk files repo.log repo.keys w) (sym c.new-2.ensures.walk)
    (fits_begin files repo.log repo.keys _ _)
