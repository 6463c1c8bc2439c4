use Rattle.ferry_repo.specs.Opening.{repo_view, cached_in}
use Rattle.ferry_repo.proofs.BatchLemmas.{room_fits}
use Rattle.ferry_repo.proofs.repo.Repo.make_room.Goals as goal

pub returns-clause-fits : goal.returns-clause-fits
returns-clause-fits g c =
    let self = c.args.self.now in
    room_fits (g.S.Shelf.told c.args.shelf.now) (repo_view self) (cached_in self) c.shorten.new.self c.shorten.ensures.holds c.requires.fits
