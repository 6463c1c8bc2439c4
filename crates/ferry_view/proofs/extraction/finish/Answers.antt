use Rattle.std.proofs.Common.{◌∷◌, [], IfSome, ◌∙◌, subst}
use Rattle.ferry_disk.specs.Device.{told_files}
use Rattle.ferry_item.specs.Item.{item_view}
use Rattle.ferry_repo.specs.Opening.{repo_view}
use Rattle.ferry_repo.specs.Walk.{LeadsOn, walk_view}
use Rattle.ferry_view.proofs.SoFarLemmas.{goes_next}
use Rattle.ferry_view.proofs.extraction.finish.Goals as goal

pub loop-preserved : goal.loop-preserved
loop-preserved g c =
    let told = g.S.Shelf.told c.args.shelf.now in
    let later = g.S.Shelf.told c.loop.shelf in
    let repo = repo_view c.args.repo.now in
    let now_repo = repo_view c.loop.repo in
    let from = walk_view c.args.walk.now in
    let now = walk_view c.loop.walk in
    let after = walk_view c.step.new.self in
    let leads = subst (λ o. IfSome o (λ i. IfSome later (λ t. LeadsOn (told_files t) now_repo.log now_repo.keys now (item_view i ∷ []) after)))
    c.in-Some.is c.in_ok-item.ensures.item in
    record {
      goes = goes_next told later repo now_repo from now after (item_view c.in-Some.item) c.loop.invariant.same c.loop.invariant.repo
          c.loop.invariant.goes leads c.in_ok-item.ensures.walk_fits;
      fits = c.in_ok-item.ensures.fits;
      repo = c.in_ok-item.ensures.kept ∙ c.loop.invariant.repo;
      same = c.in_ok-item.ensures.same ∙ c.loop.invariant.same;
      faults = c.in_ok-item.ensures.cause ∙ c.loop.invariant.faults;
    }
