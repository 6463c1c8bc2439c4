use Rattle.ferry_disk.proofs.DeviceLemmas.{told_same}
use Rattle.std.proofs.Common.{◌∙◌, sym}
use Rattle.ferry_log.specs.State.{FitsFiles}
use Rattle.ferry_repo.specs.Batch.{HasBlobs}
use Rattle.ferry_repo.proofs.batch.Batch.read.Goals as goal

pub loop-place-preserved : goal.loop-place-preserved
loop-place-preserved g c =
    let told = g.S.Shelf.told in
    let log = c.args.log.now in
    let before = told c.loop-place.shelf in
    let after = told c.add.new.shelf in
    let batch = c.add.new.self in
    record {
      batch = c.in_ok-add.ensures.batch;
      blobs = told_same before after (λ f. HasBlobs f log batch.ids.items batch.blobs.items) c.in_ok-add.ensures.same c.in_ok-add.ensures.blobs;
      fits = told_same before after (λ f. FitsFiles f log) c.in_ok-add.ensures.same c.loop-place.invariant.fits;
      same = c.in_ok-add.ensures.same ∙ c.loop-place.invariant.same;
      faults = c.in_ok-add.ensures.cause ∙ c.loop-place.invariant.faults;
    }

pub returns-clause-blobs : goal.returns-clause-blobs
returns-clause-blobs g c =
    let told = g.S.Shelf.told in
    let batch = c.loop-place.batch in
    told_same (told c.loop-place.shelf) (told c.args.shelf.now) (λ f. HasBlobs f c.args.log.now batch.ids.items batch.blobs.items)
    (sym c.loop-place.invariant.same) c.loop-place.invariant.blobs
