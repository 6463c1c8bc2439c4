use Rattle.std.proofs.Common.{◌≡◌, IfSome, filter, sym, ◌∙◌, ap, subst}
use Rattle.std.specs.BTreeMap.{keys}
use Rattle.std.specs.List.{AllByRecursion}
use Rattle.std.proofs.lemmas.Result.{IfOk-weaker}
use Rattle.ferry_check.specs.Verify.{IsChunk}
use Rattle.ferry_disk.specs.Device.{told_files}
use Rattle.ferry_log.specs.State.{LogState}
use Rattle.ferry_repo.specs.Fault.{IsOfFiles}
use Rattle.ferry_repo.specs.Opening.{RepoState, repo_view}
use Rattle.ferry_repo.specs.declared.fault.RepoFault.{RepoFault}
use Rattle.ferry_repo.proofs.FaultLemmas.{gives_err}
use Rattle.ferry_refs.specs.Refs.{RefusesRefs, count_in}
use Rattle.ferry_refs.specs.Steps.{goes_by}
use Rattle.ferry_refs.proofs.GoingLemmas.{all_chunks, told_going, told_refused}
use Rattle.ferry_refs.proofs.going.going_ids.Goals as goal

pub returns-in_err-own-clause-refused : goal.returns-in_err-own-clause-refused
returns-in_err-own-clause-refused g c =
    let told = g.S.Shelf.told c.args.shelf.now in
    let repo = repo_view c.args.repo.now in
    gives_err c.from_residual-in_err-own.result _ _ c.from_residual-in_err-own.ensures.1 (λ y is of_files.
    subst (λ (f : RepoFault). IfSome told (λ t. RefusesRefs (told_files t) repo f)) (sym is)
    (told_refused told (g.S.Shelf.told c.of.new.shelf) repo (repo_view c.of.new.repo) c.args.name.now c.in_ok-all.all c.in_err-own.field-0.0
    c.in_ok-all.ensures.same c.in_ok-all.ensures.kept c.requires.named c.requires.packable.archives c.in_ok-all.ensures.counts
    (c.in_err-own.ensures.refused (subst (λ (f : RepoFault). IsOfFiles f) is of_files))))

pub returns-clause-going : goal.returns-clause-going
returns-clause-going g c =
    let told = g.S.Shelf.told c.args.shelf.now in
    let repo = repo_view c.args.repo.now in
    let after = repo_view c.of.new.repo in
    let own = c.in_ok-own.own in
    let log : c.log.result.now ≡ after.log = c.log.ensures.log ∙ ap (λ (r : RepoState). r.log) c.in_ok-own.ensures.kept in
    IfOk-weaker c.ids_alone.result _ _
    (λ ids is. told_going told (g.S.Shelf.told c.of.new.shelf) repo after c.args.name.now c.in_ok-all.all own ids.items c.in_ok-all.ensures.same
    c.in_ok-all.ensures.kept c.requires.packable.archives c.in_ok-all.ensures.counts c.in_ok-own.ensures.archive c.ids_alone.ensures.ordered
    (is ∙ ap (λ (l : LogState). filter (goes_by l (count_in c.in_ok-all.all) (count_in own)) (keys own.counts)) log))
    c.ids_alone.ensures.ids

pub returns-clause-chunks : goal.returns-clause-chunks
returns-clause-chunks g c =
    let own = c.in_ok-own.own in
    let log : c.log.result.now ≡ (repo_view c.args.repo.now).log =
    c.log.ensures.log ∙ ap (λ (r : RepoState). r.log) (c.in_ok-own.ensures.kept ∙ c.in_ok-all.ensures.kept) in
    IfOk-weaker c.ids_alone.result _ _
    (λ ids is. subst (λ (l : LogState). AllByRecursion (IsChunk l) ids.items) log
    (all_chunks c.log.result.now (count_in c.in_ok-all.all) (count_in own) (keys own.counts) ids.items is))
    c.ids_alone.ensures.ids
