use Rattle.ferry_repo.specs.Opening.{cached_in, repo_view}
use Rattle.ferry_repo.proofs.SharedLemmas.{all_shared}
use Rattle.ferry_repo.proofs.repo.Repo.shared.Goals as goal

pub returns-in-Ok : goal.returns-in-Ok
returns-in-Ok c =
    let self = c.args.self.now in
    let note = c.in-Some.note.now in
    let repo = repo_view self in
    record {
      shared = all_shared repo (cached_in self) note c.args.chunks.now c.args.keys.now.id_key c.args.block c.in-Ok.shared.items c.in-Some.ensures.like.0
          c.in-Some.ensures.like.1 c.in-Some.ensures.cut (λ files fits. c.in-Some.ensures.noted files repo.log repo.keys fits.noted) c.in-Ok.ensures.shared;
    }
