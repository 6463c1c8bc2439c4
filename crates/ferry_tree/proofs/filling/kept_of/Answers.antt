use Rattle.std.proofs.Common.{sym}
use Rattle.ferry_repo.proofs.CacheLemmas.{kept_holds}
use Rattle.ferry_repo.specs.Opening.{cached_in, repo_view}
use Rattle.ferry_tree.proofs.filling.kept_of.Goals as goal

pub returns-then-content-chunk : goal.returns-then-content-chunk
returns-then-content-chunk c = record {
  content = λ files fits.
      let repo = repo_view c.args.repo.now in
      record {
        holds = kept_holds files repo.log repo.keys c.args.chunk.now.id c.in_ok-content.content.now (cached_in c.args.repo.now).opened fits.cached
            (sym c.in_ok-content.ensures.content);
        size = c.if-content-chunk.true;
      };
}
