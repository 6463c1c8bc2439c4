use Rattle.std.proofs.Common.{◌∷◌, [], IfSome, sym, ◌∙◌}
use Rattle.ferry_disk.specs.Device.{told_files}
use Rattle.ferry_item.specs.Item.{item_view}
use Rattle.ferry_repo.specs.Opening.{repo_view}
use Rattle.ferry_repo.specs.Walk.{walk_view, LeadsOn}
use Rattle.ferry_compare.proofs.FaultLemmas.{refused_files}
use Rattle.ferry_compare.proofs.StepLemmas.{log_fits, goes_past, refused_past, some_holds}
use Rattle.ferry_compare.proofs.items.ends_at.Goals as goal

pub returns-in-Ok-Some-clause-ends : goal.returns-in-Ok-Some-clause-ends
returns-in-Ok-Some-clause-ends g c =
    let told = g.T.Shelf.told c.args.other.now in
    let repo = repo_view c.args.target.now in
    let from = walk_view c.args.walk.now in
    let now = walk_view c.step.new.self in
    let leads = some_holds c.in-Ok-Some.field-0 c.in-Ok-Some._item
    (λ i. IfSome told (λ t. LeadsOn (told_files t) repo.log repo.keys from (item_view i ∷ []) now)) c.in-Ok-Some.field-0-is c.in-Ok-Some.ensures.item in
    goes_past told repo from now (item_view c.in-Ok-Some._item) (log_fits told repo _ c.requires.fits) c.requires.walk_fits leads
    c.in-Ok-Some.ensures.walk_fits c.in-Ok-Some.ensures.archive

pub returns-in-None-clause-ends : goal.returns-in-None-clause-ends
returns-in-None-clause-ends g c =
    refused_past (g.T.Shelf.told c.args.other.now) (repo_view c.args.target.now) (walk_view c.args.walk.now) c.in-Err.fault c.requires.walk_fits
    (c.in-Err.ensures.refused (refused_files c.in-Err.fault (sym c.of_target.ensures.fault ∙ c.in-None.is)))
