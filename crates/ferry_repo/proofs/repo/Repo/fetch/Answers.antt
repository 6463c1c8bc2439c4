use Rattle.std.proofs.Common.{Some, sym, ◌∙◌, ap}
use Rattle.ferry_disk.proofs.DeviceLemmas.{told_then}
use Rattle.ferry_repo.specs.Objects.{HoldsChunk}
use Rattle.ferry_repo.specs.Opening.{repo_view, cached_in, FitsRepo}
use Rattle.ferry_repo.proofs.CacheLemmas.{kept_holds}
use Rattle.ferry_repo.proofs.repo.Repo.fetch.Goals as goal

pub returns-in-Some-clause-content : goal.returns-in-Some-clause-content
returns-in-Some-clause-content g c =
    let self = c.args.self.now in
    let id = c.args.id.now in
    let content = c.in_ok-from_slice.field-0.items in
    told_then (g.S.Shelf.told c.args.shelf.now) (λ f. FitsRepo f (repo_view self) (cached_in self)) (λ f. HoldsChunk f self.log self.keys id content)
    (λ f fits. kept_holds f self.log self.keys id content (cached_in self).opened fits.cached
    (sym c.in-Some.ensures.content ∙ ap Some (sym c.in_ok-from_slice.ensures.items))) c.requires.fits
