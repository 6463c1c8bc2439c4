use Rattle.std.proofs.Common.{◌≡◌, IfSome, take, drop, sym, ◌∙◌, refl, subst}
use Rattle.std.proofs.lemmas.Result.{IfOk-weaker, IfErr-weaker}
use Rattle.ferry_repo.specs.declared.fault.RepoFault.{RepoFault}
use Rattle.ferry_repo.proofs.FaultLemmas.{gives_err}
use Rattle.ferry_disk.specs.Device.{told_files}
use Rattle.ferry_disk.specs.Files.{segment_bytes}
use Rattle.ferry_disk.proofs.DeviceLemmas.{told_with}
use Rattle.ferry_log.specs.State.{FitsFiles}
use Rattle.ferry_repo.specs.Objects.{HoldsObject, RefusesObject, LosesBlob}
use Rattle.ferry_repo.proofs.ObjectLemmas.{has_blob, not_lost, breaks_object}
use Rattle.ferry_repo.proofs.object.object.Goals as goal

pub returns-in_err-blob-clause-refused : goal.returns-in_err-blob-clause-refused
returns-in_err-blob-clause-refused g c =
    let id = c.args.id.now in
    let place = c.in-Some.place in
    let told = g.S.Shelf.told c.args.shelf.now in
    let lost = c.in_err-blob.field-0.0 in
    gives_err c.from_residual.result _ _ c.from_residual.ensures.1 (λ fault is.
    subst (λ (f : RepoFault). IfSome told (λ t. RefusesObject (told_files t) c.args.log.now c.args.keys.now id f)) (sym is)
    (told_with told told (λ f. FitsFiles f c.args.log.now) (λ f. LosesBlob (segment_bytes f place.segment) place lost)
    (λ f. RefusesObject f c.args.log.now c.args.keys.now id lost) refl
    (λ f fits h. not_lost f c.args.log.now id place c.args.keys.now lost fits (sym c.find.ensures ∙ c.in-Some.is) h) c.requires.fits
    c.in_err-blob.ensures.refused))

pub returns-clause-content : goal.returns-clause-content
returns-clause-content g c =
    let id = c.args.id.now in
    let place = c.in-Some.place in
    let told = g.S.Shelf.told c.args.shelf.now in
    let blob = c.in_ok-blob.blob.items in
    IfOk-weaker c.content_of.result _ _ (λ content opens.
    told_with told told (λ f. FitsFiles f c.args.log.now) (λ f. blob ≡ take place.size (drop place.at (segment_bytes f place.segment)))
    (λ f. HoldsObject f c.args.log.now c.args.keys.now id content.items) refl
    (λ f fits read. record { blob = blob; has = has_blob f c.args.log.now id blob place fits (sym c.find.ensures ∙ c.in-Some.is) read; opens = opens })
    c.requires.fits c.in_ok-blob.ensures.blob) c.content_of.ensures.content

pub returns-clause-refused : goal.returns-clause-refused
returns-clause-refused g c =
    let id = c.args.id.now in
    let place = c.in-Some.place in
    let told = g.S.Shelf.told c.args.shelf.now in
    let blob = c.in_ok-blob.blob.items in
    IfErr-weaker c.content_of.result _ _ (λ fault broken.
    told_with told told (λ f. FitsFiles f c.args.log.now) (λ f. blob ≡ take place.size (drop place.at (segment_bytes f place.segment)))
    (λ f. RefusesObject f c.args.log.now c.args.keys.now id fault) refl
    (λ f fits read. breaks_object f c.args.log.now c.args.keys.now id blob fault
    (has_blob f c.args.log.now id blob place fits (sym c.find.ensures ∙ c.in-Some.is) read) broken)
    c.requires.fits c.in_ok-blob.ensures.blob) c.content_of.ensures.refused
