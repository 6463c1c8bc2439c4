use Rattle.std.proofs.Common.{sym, ◌∙◌}
use Rattle.ferry_base.specs.Limits.{zero_id}
use Rattle.ferry_repo.proofs.BatchLemmas.{read_more, unlike}
use Rattle.ferry_repo.proofs.batch.Batch.add.Goals as goal

pub returns-in_ok-put-in-Ok-clause-blobs : goal.returns-in_ok-put-in-Ok-clause-blobs
returns-in_ok-put-in-Ok-clause-blobs g c =
    let batch = c.args.self.now in
    let id = c.args.id.now in
    let after = c.put.new.self in
    let blob = c.in-Ok.blob in
    let chunk = unlike id zero_id c.eq.result c.eq.ensures c.if-eq.false in
    read_more (g.S.Shelf.told c.args.shelf.now) c.args.log.now batch.ids.items after.ids.items batch.blobs.items after.blobs.items id blob c.in-Some.place
    c.requires.batch c.in_ok-put-in-Ok.ensures.ids c.in_ok-put-in-Ok.ensures.blobs chunk (sym c.find.ensures ∙ c.in-Some.is)
    c.requires.fits c.requires.blobs c.in-Ok.ensures.blob
