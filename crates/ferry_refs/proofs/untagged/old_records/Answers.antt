use Rattle.std.proofs.Common.{◌≡◌, IfSome, filter, sym, ◌∙◌, ap, subst, List}
use Rattle.std.specs.BTreeMap.{keys}
use Rattle.std.specs.List.{AllByRecursion}
use Rattle.ferry_check.specs.Verify.{IsChunk, IsNamed}
use Rattle.ferry_disk.specs.Device.{told_files}
use Rattle.ferry_log.specs.State.{LogState}
use Rattle.ferry_repo.specs.Fault.{IsOfFiles}
use Rattle.ferry_repo.specs.Opening.{RepoState, repo_view}
use Rattle.ferry_repo.specs.declared.fault.RepoFault.{RepoFault}
use Rattle.ferry_repo.proofs.FaultLemmas.{gives_err}
use Rattle.ferry_refs.specs.Refs.{RefusesRefs, count_in}
use Rattle.ferry_refs.specs.Steps.{Adds, goes_by, no_tally}
use Rattle.ferry_refs.specs.TagSteps.{olds_view, record_ids}
use Rattle.ferry_refs.specs.Tagging.{AreOld}
use Rattle.ferry_refs.specs.declared.untagged.Untagged.{Untagged}
use Rattle.ferry_refs.proofs.GoingLemmas.{all_chunks, told_refused}
use Rattle.ferry_refs.proofs.OldLemmas.{told_back, told_freed}
use Rattle.ferry_refs.proofs.untagged.old_records.Goals as goal

pub returns-in_err-untagged-clause-refused : goal.returns-in_err-untagged-clause-refused
returns-in_err-untagged-clause-refused g c =
    let told = g.S.Shelf.told c.args.shelf.now in
    let repo = repo_view c.args.repo.now in
    let after = repo_view c.of.new.repo in
    gives_err c.from_residual-in_err-untagged.result _ _ c.from_residual-in_err-untagged.ensures.1 (λ y is of_files.
    let some = c.in_err-untagged.ensures.refused (subst (λ (f : RepoFault). IsOfFiles f) is of_files) in
    subst (λ (f : RepoFault). IfSome told (λ t. RefusesRefs (told_files t) repo f)) (sym is)
    (told_refused told (g.S.Shelf.told c.of.new.shelf) repo after some.0 c.in_ok-all.all c.in_err-untagged.field-0.0
    c.in_ok-all.ensures.same c.in_ok-all.ensures.kept (subst (λ (r : RepoState). IsNamed r some.0) c.in_ok-all.ensures.kept some.1.0)
    c.requires.packable.archives c.in_ok-all.ensures.counts some.1.1))

pub returns-clause-old : goal.returns-clause-old
returns-clause-old g c =
    let after = repo_view c.of.new.repo in
    let untagged = c.in_ok-untagged.untagged.items in
    subst (λ (r : RepoState). IfSome (g.S.Shelf.told c.args.shelf.now) (λ t. AreOld (told_files t) r r.manifest.archives (olds_view untagged)))
    c.in_ok-all.ensures.kept
    (told_back (g.S.Shelf.told c.args.shelf.now) (g.S.Shelf.told c.of.new.shelf) (λ f. AreOld f after after.manifest.archives (olds_view untagged))
    c.in_ok-all.ensures.same c.in_ok-untagged.ensures.old)

pub returns-clause-freed : goal.returns-clause-freed
returns-clause-freed g c =
    let told = g.S.Shelf.told c.args.shelf.now in
    let repo = repo_view c.args.repo.now in
    let after = repo_view c.of.new.repo in
    let all = c.in_ok-all.all in
    let own = c.in_ok-own.own in
    let untagged = c.in_ok-untagged.untagged.items in
    let log : c.log.result.now ≡ after.log = c.log.ensures.log ∙ ap (λ (r : RepoState). r.log) c.in_ok-untagged.ensures.kept in
    told_freed told (g.S.Shelf.told c.of.new.shelf) repo after all own untagged c.in_ok-freed.freed.items c.in_ok-all.ensures.same
    c.in_ok-all.ensures.kept c.in_ok-all.ensures.counts c.in_ok-untagged.ensures.old
    (subst (λ (us : List Untagged). Adds (record_ids us) no_tally (count_in own)) c.deref.ensures.value c.in_ok-own.ensures.counted)
    c.in_ok-freed.ensures.ordered
    (c.in_ok-freed.ensures.ids ∙ ap (λ (l : LogState). filter (goes_by l (count_in all) (count_in own)) (keys own.counts)) log)

pub returns-clause-chunks : goal.returns-clause-chunks
returns-clause-chunks g c =
    let own = c.in_ok-own.own in
    let log : c.log.result.now ≡ (repo_view c.args.repo.now).log =
    c.log.ensures.log ∙ ap (λ (r : RepoState). r.log) (c.in_ok-untagged.ensures.kept ∙ c.in_ok-all.ensures.kept) in
    subst (λ (l : LogState). AllByRecursion (IsChunk l) c.in_ok-freed.freed.items) log
    (all_chunks c.log.result.now (count_in c.in_ok-all.all) (count_in own) (keys own.counts) c.in_ok-freed.freed.items c.in_ok-freed.ensures.ids)
