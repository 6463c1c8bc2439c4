use Rattle.std.proofs.Common.{◌≡◌, take, drop, sym, ◌∙◌, refl}
use Rattle.std.proofs.lemmas.Result.{IfOk-weaker, IfErr-weaker}
use Rattle.ferry_base.specs.Limits.{zero_id}
use Rattle.ferry_disk.specs.Files.{segment_bytes}
use Rattle.ferry_disk.proofs.DeviceLemmas.{told_with}
use Rattle.ferry_log.specs.State.{FitsFiles}
use Rattle.ferry_mac.specs.declared.keys.Keys.{Keys}
use Rattle.ferry_repo.specs.Batch.{HasChunkBlob}
use Rattle.ferry_repo.specs.Objects.{RefusesChunk, LosesBlob}
use Rattle.ferry_repo.proofs.BatchLemmas.{unlike}
use Rattle.ferry_repo.proofs.LengthsLemmas.{chunk_lost}
use Rattle.ferry_repo.proofs.ObjectLemmas.{has_blob}
use Rattle.ferry_repo.proofs.lengths.chunk_blob.Goals as goal

pub returns-clause-blob : goal.returns-clause-blob
returns-clause-blob g c =
    let id = c.args.id.now in
    let log = c.args.log.now in
    let place = c.in-Some.place in
    let told = g.S.Shelf.told c.args.shelf.now in
    let chunk = unlike id zero_id c.eq.result c.eq.ensures c.if-eq.false in
    IfOk-weaker c.blob_at.result _ _ (λ blob read.
    told_with told told (λ f. FitsFiles f log) (λ f. blob.items ≡ take place.size (drop place.at (segment_bytes f place.segment)))
    (λ f. HasChunkBlob f log id blob.items) refl
    (λ f fits at. record { chunk = chunk; has = has_blob f log id blob.items place fits (sym c.find.ensures ∙ c.in-Some.is) at })
    c.requires.fits read) c.blob_at.ensures.blob

pub returns-clause-refused : goal.returns-clause-refused
returns-clause-refused g c =
    let id = c.args.id.now in
    let log = c.args.log.now in
    let place = c.in-Some.place in
    let told = g.S.Shelf.told c.args.shelf.now in
    IfErr-weaker c.blob_at.result _ _ (λ fault lost.
    told_with told told (λ f. FitsFiles f log) (λ f. LosesBlob (segment_bytes f place.segment) place fault)
    (λ f. (keys : Keys) → RefusesChunk f log keys id fault) refl
    (λ f fits h keys. chunk_lost f log keys id place fault fits (sym c.find.ensures ∙ c.in-Some.is) h)
    c.requires.fits lost) c.blob_at.ensures.refused
