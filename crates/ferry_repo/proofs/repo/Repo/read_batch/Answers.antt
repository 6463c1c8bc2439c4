use Rattle.ferry_repo.specs.Opening.{repo_view, cached_in}
use Rattle.ferry_repo.proofs.BatchLemmas.{ahead_fits}
use Rattle.ferry_repo.proofs.repo.Repo.read_batch.Goals as goal

pub returns-in_err-keep-clause-fits : goal.returns-in_err-keep-clause-fits
returns-in_err-keep-clause-fits g c =
    let self = c.args.self.now in
    let batch = c.in_ok-batch.batch in
    ahead_fits (g.S.Shelf.told c.args.shelf.now) (g.S.Shelf.told c.read.new.shelf) (repo_view self) batch.ids.items batch.blobs.items (cached_in self)
    c.keep.new.cache c.in_ok-batch.ensures.same c.keep.ensures.holds c.requires.fits c.in_ok-batch.ensures.blobs

pub returns-clause-fits : goal.returns-clause-fits
returns-clause-fits g c =
    let self = c.args.self.now in
    let batch = c.in_ok-batch.batch in
    ahead_fits (g.S.Shelf.told c.args.shelf.now) (g.S.Shelf.told c.read.new.shelf) (repo_view self) batch.ids.items batch.blobs.items (cached_in self)
    c.keep.new.cache c.in_ok-batch.ensures.same c.keep.ensures.holds c.requires.fits c.in_ok-batch.ensures.blobs
