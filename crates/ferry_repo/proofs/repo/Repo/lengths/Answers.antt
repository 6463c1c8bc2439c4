use Rattle.std.proofs.Common.{IfSome, length, sym, subst}
use Rattle.std.proofs.lemmas.Result.{IfErr-weaker}
use Rattle.ferry_blob.specs.Batch.{id_at}
use Rattle.ferry_disk.specs.Device.{told_files}
use Rattle.ferry_disk.proofs.DeviceLemmas.{told_then}
use Rattle.ferry_mac.specs.declared.keys.Keys.{Keys}
use Rattle.ferry_repo.specs.Batch.{HasBlobs}
use Rattle.ferry_repo.specs.Fault.{IsOfFiles}
use Rattle.ferry_repo.specs.Lengths.{HaveLengths, RefusesOne}
use Rattle.ferry_repo.specs.Objects.{RefusesChunk}
use Rattle.ferry_repo.specs.declared.fault.RepoFault.{RepoFault}
use Rattle.ferry_repo.proofs.FaultLemmas.{gives_err}
use Rattle.ferry_repo.proofs.LengthsLemmas.{both_ok, first_refused, front_lengths, front_refused}
use Rattle.ferry_repo.proofs.repo.Repo.lengths.Goals as goal

pub returns-in_err-batch-clause-refused : goal.returns-in_err-batch-clause-refused
returns-in_err-batch-clause-refused g c =
    let told = g.S.Shelf.told c.args.shelf.now in
    let log = c.args.self.now.log in
    let keys = c.args.self.now.keys in
    let ids = c.args.ids.now in
    let fault = c.in_err-batch.field-0.0 in
    gives_err c.from_residual.result _ _ c.from_residual.ensures.1 (λ y is of_files.
    subst (λ (f : RepoFault). IfSome told (λ t. RefusesOne (told_files t) log keys ids f)) (sym is)
    (told_then told (λ f. (ks : Keys) → RefusesChunk f log ks (id_at ids 0) fault) (λ f. RefusesOne f log keys ids fault)
    (λ f refused. first_refused f log keys ids fault c.requires.some (refused keys))
    (c.in_err-batch.ensures.refused (subst (λ (f : RepoFault). IsOfFiles f) is of_files))))

pub returns-clause-lengths : goal.returns-clause-lengths
returns-clause-lengths g c =
    let told = g.S.Shelf.told c.args.shelf.now in
    let log = c.args.self.now.log in
    let keys = c.args.self.now.keys in
    let ids = c.args.ids.now in
    let batch = c.in_ok-batch.batch in
    both_ok c.lengths.result _ _ _
    (λ sizes have count.
    told_then told (λ f. HasBlobs f log batch.ids.items batch.blobs.items) (λ f. HaveLengths f log keys ids sizes.items)
    (λ f has. front_lengths f log keys ids batch.ids.items (length batch.blobs.items) sizes.items c.in_ok-batch.ensures.front count (have f log has))
    c.in_ok-batch.ensures.blobs)
    c.lengths.ensures.lengths c.lengths.ensures.count

pub returns-clause-refused : goal.returns-clause-refused
returns-clause-refused g c =
    let told = g.S.Shelf.told c.args.shelf.now in
    let log = c.args.self.now.log in
    let keys = c.args.self.now.keys in
    let ids = c.args.ids.now in
    let batch = c.in_ok-batch.batch in
    IfErr-weaker c.lengths.result _ _
    (λ fault refused of_files.
    told_then told (λ f. HasBlobs f log batch.ids.items batch.blobs.items) (λ f. RefusesOne f log keys ids fault)
    (λ f has. front_refused f log keys ids batch.ids.items (length batch.blobs.items) fault c.in_ok-batch.ensures.front (refused of_files f log has))
    c.in_ok-batch.ensures.blobs)
    c.lengths.ensures.refused
