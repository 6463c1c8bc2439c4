use Rattle.std.proofs.Common.{◌<◌, length, IsSome, IfSome, refl, sym, ◌∙◌, ap, subst, take, get_or, unwrap_or, arith}
use Rattle.std.proofs.lemmas.List.{take_all}
use Rattle.std.specs.BTreeMap.{is_at}
use Rattle.std.specs.Map.{lookup}
use Rattle.ferry_check.proofs.ArchiveLemmas.{named_there}
use Rattle.ferry_check.proofs.ArchivesLemmas.{no_archive}
use Rattle.ferry_disk.specs.Device.{told_files}
use Rattle.ferry_log.specs.Live.{key_cmp}
use Rattle.ferry_repo.specs.Archives.{archive_named}
use Rattle.ferry_repo.specs.Fault.{IsOfFiles}
use Rattle.ferry_repo.specs.Opening.{RepoState, repo_view}
use Rattle.ferry_repo.specs.declared.fault.RepoFault.{RepoFault}
use Rattle.ferry_repo.proofs.FaultLemmas.{gives_err}
use Rattle.ferry_refs.specs.Refs.{RefusesRead, RefusesRefs, count_in}
use Rattle.ferry_refs.specs.Steps.{CountsArchive, no_tally}
use Rattle.ferry_refs.proofs.ArchiveLemmas.{archives_begin, archives_next, archives_refused, archives_all}
use Rattle.ferry_refs.proofs.counts.Counts.of.Goals as goal

pub loop-place-init : goal.loop-place-init
loop-place-init g c = record {
  counts = archives_begin (g.S.Shelf.told c.args.shelf.now) (repo_view c.args.repo.now) _
      (λ id. ap (λ entries. unwrap_or (lookup (is_at (key_cmp id)) entries) 0) c.new.ensures.empty);
  fits = c.requires.fits;
  repo = refl;
  same = refl;
  faults = refl;
}

pub count_archive-requires-clause-named : goal.count_archive-requires-clause-named
count_archive-requires-clause-named g c =
    let archives = (repo_view c.loop-place.repo).manifest.archives in
    let place = c.loop-place.place in
    let first : place < length (repo_view c.args.repo.now).manifest.archives = omega (arith, c.archive_count-place-end.ensures.count) in
    let lt : place < length archives = subst (λ (r : RepoState). place < length r.manifest.archives) (sym c.loop-place.invariant.repo) first in
    subst (λ n. IsSome (archive_named n archives)) (sym (c.deref.ensures.value ∙ c.in_ok-name.ensures.name no_archive))
    (named_there archives place no_archive lt)

pub loop-place-preserved : goal.loop-place-preserved
loop-place-preserved g c =
    let told = g.S.Shelf.told c.args.shelf.now in
    let later = g.S.Shelf.told c.loop-place.shelf in
    let repo = repo_view c.args.repo.now in
    let now_repo = repo_view c.loop-place.repo in
    let archives = repo.manifest.archives in
    let place = c.loop-place.place in
    let tally = count_in c.loop-place.counts in
    let next = count_in c.count_archive.new.counts in
    let lt : place < length archives = omega (arith, c.archive_count-place-end.ensures.count) in
    let name_is = c.deref.ensures.value
    ∙ (c.in_ok-name.ensures.name no_archive ∙ ap (λ (r : RepoState). (get_or r.manifest.archives place no_archive).name) c.loop-place.invariant.repo) in
    record {
      counts = archives_next told later repo now_repo archives place no_archive no_tally tally next c.loop-place.invariant.same
          c.loop-place.invariant.repo lt c.loop-place.invariant.counts
          (subst (λ n. CountsArchive later now_repo n tally next) name_is c.in_ok-count_archive.ensures.archive);
      fits = c.in_ok-count_archive.ensures.fits;
      repo = c.in_ok-count_archive.ensures.kept ∙ c.loop-place.invariant.repo;
      same = c.in_ok-count_archive.ensures.same ∙ c.loop-place.invariant.same;
      faults = c.in_ok-count_archive.ensures.cause ∙ c.loop-place.invariant.faults;
    }

pub returns-in_err-count_archive-clause-refused : goal.returns-in_err-count_archive-clause-refused
returns-in_err-count_archive-clause-refused g c =
    let told = g.S.Shelf.told c.args.shelf.now in
    let later = g.S.Shelf.told c.loop-place.shelf in
    let repo = repo_view c.args.repo.now in
    let now_repo = repo_view c.loop-place.repo in
    let archives = repo.manifest.archives in
    let place = c.loop-place.place in
    let fault = c.in_err-count_archive.field-0.0 in
    let lt : place < length archives = omega (arith, c.archive_count-place-end.ensures.count) in
    let name_is = c.deref.ensures.value
    ∙ (c.in_ok-name.ensures.name no_archive ∙ ap (λ (r : RepoState). (get_or r.manifest.archives place no_archive).name) c.loop-place.invariant.repo) in
    gives_err c.from_residual-in_err-count_archive.result _ _ c.from_residual-in_err-count_archive.ensures.1 (λ y is of_files.
    subst (λ (f : RepoFault). IfSome told (λ t. RefusesRefs (told_files t) repo f)) (sym is)
    (archives_refused told later repo now_repo archives place no_archive no_tally (count_in c.loop-place.counts) fault c.loop-place.invariant.same
    c.loop-place.invariant.repo refl lt c.loop-place.invariant.counts
    (subst (λ n. IfSome later (λ t. RefusesRead (told_files t) now_repo n fault)) name_is
    (c.in_err-count_archive.ensures.refused (subst (λ (f : RepoFault). IsOfFiles f) is of_files)))))

pub returns-clause-counts : goal.returns-clause-counts
returns-clause-counts g c =
    let archives = (repo_view c.args.repo.now).manifest.archives in
    archives_all (g.S.Shelf.told c.args.shelf.now) (repo_view c.args.repo.now) (take c.loop-place.place archives) (count_in c.loop-place.counts)
    (take_all c.loop-place.place archives (omega (arith, c.archive_count-place-end.ensures.count))) c.loop-place.invariant.counts
