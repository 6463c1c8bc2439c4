use Rattle.ferry_repo.specs.Opening.{repo_view, cached_in}
use Rattle.ferry_repo.proofs.CacheLemmas.{kept_fits}
use Rattle.ferry_repo.proofs.repo.Repo.content.Goals as goal

pub returns-clause-fits : goal.returns-clause-fits
returns-clause-fits g c =
    let self = c.args.self.now in
    kept_fits (g.S.Shelf.told c.args.shelf.now) (g.S.Shelf.told c.fetch.new.shelf) (repo_view self) (cached_in self) c.keep.new.self c.args.chunk.now.id
    c.in_ok-content.content.items c.deref.result.now c.in_ok-content.ensures.same c.deref.ensures.value c.in_ok-keep.ensures.ok c.requires.fits
    c.in_ok-content.ensures.content
