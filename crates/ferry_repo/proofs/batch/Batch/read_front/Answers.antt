use Rattle.std.proofs.Common.{◌≡◌, ◌<◌, ◌++◌, ◌∷◌, [], ℕ, List, IfSome, get_or, length, sym, ◌∙◌, ap, subst, arith}
use Rattle.std.proofs.lemmas.List.{get_or_default, take_more}
use Rattle.std.proofs.lemmas.Result.{IfOk-weaker, IfErr-weaker}
use Rattle.ferry_base.specs.Limits.{zero_id}
use Rattle.ferry_blob.specs.Batch.{id_at}
use Rattle.ferry_disk.specs.Device.{told_files}
use Rattle.ferry_disk.proofs.DeviceLemmas.{told_same}
use Rattle.ferry_log.specs.State.{FitsFiles}
use Rattle.ferry_mac.specs.declared.keys.Keys.{Keys}
use Rattle.ferry_repo.specs.Batch.{HasBlobs}
use Rattle.ferry_repo.specs.Objects.{RefusesChunk}
use Rattle.ferry_repo.specs.declared.batch.Batch.{Batch}
use Rattle.ferry_repo.specs.declared.fault.RepoFault.{RepoFault}
use Rattle.ferry_repo.proofs.BatchLemmas.{batch_more, front_more, put_count}
use Rattle.ferry_repo.proofs.batch.Batch.read_front.Goals as goal

pub returns-in-Err-clause-blobs : goal.returns-in-Err-clause-blobs
returns-in-Err-clause-blobs g c =
    let told = g.S.Shelf.told c.args.shelf.now in
    let log = c.args.log.now in
    let batch = c.loop-place.batch in
    IfOk-weaker c.ended.result _ _
    (λ b h.
    subst (λ (x : Batch). IfSome told (λ t. HasBlobs (told_files t) log x.ids.items x.blobs.items)) (sym h.0)
    (told_same (g.S.Shelf.told c.loop-place.shelf) told (λ f. HasBlobs f log batch.ids.items batch.blobs.items)
    (sym c.loop-place.invariant.same) c.loop-place.invariant.blobs))
    c.ended.ensures.batch

pub returns-in-Err-clause-refused : goal.returns-in-Err-clause-refused
returns-in-Err-clause-refused g c =
    let told = g.S.Shelf.told c.args.shelf.now in
    let later = g.S.Shelf.told c.loop-place.shelf in
    let log = c.args.log.now in
    let ids = c.args.ids.now in
    let place = c.loop-place.place in
    let fault = c.in-Err.fault in
    let lt : place < length ids = omega (arith, c.places-place-end.ensures.within) in
    IfErr-weaker c.ended.result _ _
    (λ answer h of_files.
    let none : place ≡ 0 = sym c.loop-place.invariant.count ∙ h.1 of_files in
    let named = get_or_default ids place [] zero_id lt ∙ ap (id_at ids) none in
    subst (λ (f : RepoFault). IfSome told (λ t. (keys : Keys) → RefusesChunk (told_files t) log keys (id_at ids 0) f)) (sym h.0)
    (told_same later told (λ f. (keys : Keys) → RefusesChunk f log keys (id_at ids 0) fault) (sym c.loop-place.invariant.same)
    (subst (λ (i : List ℕ). IfSome later (λ t. (keys : Keys) → RefusesChunk (told_files t) log keys i fault)) named c.in-Err.ensures.refused)))
    c.ended.ensures.fault

pub returns-then-batch-eq0-clause-blobs : goal.returns-then-batch-eq0-clause-blobs
returns-then-batch-eq0-clause-blobs g c =
    let before = g.S.Shelf.told c.loop-place.shelf in
    let after = g.S.Shelf.told c.chunk_blob.new.shelf in
    let log = c.args.log.now in
    let batch = c.loop-place.batch in
    let more = c.put.new.self in
    told_same after (g.S.Shelf.told c.args.shelf.now) (λ f. HasBlobs f log more.ids.items more.blobs.items)
    (sym (c.in-Ok.ensures.same ∙ c.loop-place.invariant.same))
    (front_more before after log batch.ids.items more.ids.items batch.blobs.items more.blobs.items _ c.in-Ok.blob c.loop-place.invariant.batch
    c.in-Ok.ensures.same c.in_ok-put-in-Ok.ensures.ids c.in_ok-put-in-Ok.ensures.blobs c.loop-place.invariant.blobs c.in-Ok.ensures.blob)

pub loop-place-preserved : goal.loop-place-preserved
loop-place-preserved g c =
    let before = g.S.Shelf.told c.loop-place.shelf in
    let after = g.S.Shelf.told c.chunk_blob.new.shelf in
    let log = c.args.log.now in
    let ids = c.args.ids.now in
    let place = c.loop-place.place in
    let batch = c.loop-place.batch in
    let more = c.put.new.self in
    let lt : place < length ids = omega (arith, c.places-place-end.ensures.within) in
    let few : length batch.blobs.items < 64 = omega (arith, c.places-place-end.ensures.few, c.loop-place.invariant.count) in
    record {
      batch = batch_more batch.ids.items more.ids.items batch.blobs.items more.blobs.items _ c.in-Ok.blob c.loop-place.invariant.batch
          c.in_ok-put-in-Ok.ensures.ids c.in_ok-put-in-Ok.ensures.blobs few;
      count = put_count batch.blobs.items more.blobs.items c.in-Ok.blob place c.in_ok-put-in-Ok.ensures.blobs c.loop-place.invariant.count;
      front = c.in_ok-put-in-Ok.ensures.ids
          ∙ (ap (λ (l : List (List ℕ)). l ++ get_or ids place [] ∷ []) c.loop-place.invariant.front ∙ sym (take_more ids place [] lt));
      blobs = front_more before after log batch.ids.items more.ids.items batch.blobs.items more.blobs.items _ c.in-Ok.blob
          c.loop-place.invariant.batch c.in-Ok.ensures.same c.in_ok-put-in-Ok.ensures.ids c.in_ok-put-in-Ok.ensures.blobs
          c.loop-place.invariant.blobs c.in-Ok.ensures.blob;
      fits = told_same before after (λ f. FitsFiles f log) c.in-Ok.ensures.same c.loop-place.invariant.fits;
      same = c.in-Ok.ensures.same ∙ c.loop-place.invariant.same;
      faults = c.in-Ok.ensures.cause ∙ c.loop-place.invariant.faults;
    }

pub returns-clause-blobs : goal.returns-clause-blobs
returns-clause-blobs g c =
    let log = c.args.log.now in
    let batch = c.loop-place.batch in
    told_same (g.S.Shelf.told c.loop-place.shelf) (g.S.Shelf.told c.args.shelf.now) (λ f. HasBlobs f log batch.ids.items batch.blobs.items)
    (sym c.loop-place.invariant.same) c.loop-place.invariant.blobs
