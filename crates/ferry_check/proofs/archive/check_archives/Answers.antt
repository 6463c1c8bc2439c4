use Rattle.std.proofs.Common.{◌+◌, ◌<◌, length, IsSome, IfSome, refl, sym, ◌∙◌, ap, subst, take, get_or, arith}
use Rattle.std.proofs.lemmas.List.{take_all}
use Rattle.std.specs.BTreeMap.{get}
use Rattle.ferry_disk.specs.Device.{told_files}
use Rattle.ferry_log.specs.Live.{key_cmp}
use Rattle.ferry_repo.specs.Archives.{archive_named}
use Rattle.ferry_repo.specs.Fault.{IsOfFiles}
use Rattle.ferry_repo.specs.Opening.{RepoState, repo_view}
use Rattle.ferry_repo.specs.Whole.{RefusesWhole}
use Rattle.ferry_repo.specs.declared.fault.RepoFault.{RepoFault}
use Rattle.ferry_repo.proofs.FaultLemmas.{gives_err}
use Rattle.ferry_check.specs.Steps.{ChecksArchive, ChecksArchives}
use Rattle.ferry_check.specs.Verify.{BadArchive}
use Rattle.ferry_check.proofs.ArchiveLemmas.{named_there}
use Rattle.ferry_check.proofs.ArchivesLemmas.{no_archive, archives_begin, archives_next, archives_refused, archives_all, sizes_now}
use Rattle.ferry_check.proofs.archive.check_archives.Goals as goal

pub loop-place-init : goal.loop-place-init
loop-place-init g c = record {
  checks = archives_begin (g.S.Shelf.told c.args.shelf.now) (repo_view c.args.repo.now) (get key_cmp c.args.chunks.now);
  small = omega arith;
  fits = c.requires.fits;
  repo = refl;
  same = refl;
  faults = refl;
}

pub check_archive-tagged-requires-clause-sizes : goal.check_archive-tagged-requires-clause-sizes
check_archive-tagged-requires-clause-sizes g c =
    sizes_now (g.S.Shelf.told c.args.shelf.now) (g.S.Shelf.told c.loop-place.shelf) (repo_view c.args.repo.now) (repo_view c.loop-place.repo)
    (take c.loop-place.place (repo_view c.args.repo.now).manifest.archives) (get key_cmp c.args.chunks.now) (get key_cmp c.loop-place.chunks)
    c.loop-place.untagged c.loop-place.invariant.same c.loop-place.invariant.repo c.loop-place.invariant.checks c.requires.sizes

pub check_archive-tagged-requires-clause-named : goal.check_archive-tagged-requires-clause-named
check_archive-tagged-requires-clause-named g c =
    let archives = (repo_view c.loop-place.repo).manifest.archives in
    let place = c.loop-place.place in
    let first : place < length (repo_view c.args.repo.now).manifest.archives = omega (arith, c.archive_count-place-end.ensures.count) in
    let lt : place < length archives = subst (λ (r : RepoState). place < length r.manifest.archives) (sym c.loop-place.invariant.repo) first in
    subst (λ n. IsSome (archive_named n archives)) (sym (c.deref.ensures.value ∙ c.in_ok-name.ensures.name no_archive))
    (named_there archives place no_archive lt)

pub loop-place-preserved : goal.loop-place-preserved
loop-place-preserved g c =
    let told = g.S.Shelf.told c.args.shelf.now in
    let later = g.S.Shelf.told c.loop-place.shelf in
    let repo = repo_view c.args.repo.now in
    let now_repo = repo_view c.loop-place.repo in
    let archives = repo.manifest.archives in
    let place = c.loop-place.place in
    let old = get key_cmp c.args.chunks.now in
    let known = get key_cmp c.loop-place.chunks in
    let next = get key_cmp c.check_archive-tagged.new.chunks in
    let tagged = c.in_ok-tagged.field-0 in
    let lt : place < length archives = omega (arith, c.archive_count-place-end.ensures.count) in
    let name_is = c.deref.ensures.value
    ∙ (c.in_ok-name.ensures.name no_archive ∙ ap (λ (r : RepoState). (get_or r.manifest.archives place no_archive).name) c.loop-place.invariant.repo) in
    let one = subst (λ n. ChecksArchive later now_repo n known next tagged) name_is c.in_ok-tagged.ensures.archive in
    record {
      checks = subst (λ n. ChecksArchives told repo (take (place + 1) archives) old next (c.loop-place.untagged + n))
          (sym c.one_untagged.ensures.count)
          (archives_next told later repo now_repo archives place no_archive old known next c.loop-place.untagged tagged c.loop-place.invariant.same
          c.loop-place.invariant.repo lt c.loop-place.invariant.checks one);
      small = omega (arith, c.one_untagged.ensures.small);
      fits = c.in_ok-tagged.ensures.fits;
      repo = c.in_ok-tagged.ensures.kept ∙ c.loop-place.invariant.repo;
      same = c.in_ok-tagged.ensures.same ∙ c.loop-place.invariant.same;
      faults = c.in_ok-tagged.ensures.cause ∙ c.loop-place.invariant.faults;
    }

pub returns-in_err-tagged-clause-refused : goal.returns-in_err-tagged-clause-refused
returns-in_err-tagged-clause-refused g c =
    let told = g.S.Shelf.told c.args.shelf.now in
    let later = g.S.Shelf.told c.loop-place.shelf in
    let repo = repo_view c.args.repo.now in
    let now_repo = repo_view c.loop-place.repo in
    let archives = repo.manifest.archives in
    let place = c.loop-place.place in
    let fault = c.in_err-tagged.field-0.0 in
    let lt : place < length archives = omega (arith, c.archive_count-place-end.ensures.count) in
    let name_is = c.deref.ensures.value
    ∙ (c.in_ok-name.ensures.name no_archive ∙ ap (λ (r : RepoState). (get_or r.manifest.archives place no_archive).name) c.loop-place.invariant.repo) in
    gives_err c.from_residual-in_err-tagged.result _ _ c.from_residual-in_err-tagged.ensures.1 (λ y is of_files.
    subst (λ (f : RepoFault). IfSome told (λ t. BadArchive (told_files t) repo f)) (sym is)
    (archives_refused told later repo now_repo archives place no_archive (get key_cmp c.args.chunks.now) (get key_cmp c.loop-place.chunks)
    c.loop-place.untagged fault c.loop-place.invariant.same c.loop-place.invariant.repo refl lt c.loop-place.invariant.checks
    (subst (λ n. IfSome later (λ t. RefusesWhole (told_files t) now_repo.log now_repo.keys now_repo.manifest.archives n fault)) name_is
    (c.in_err-tagged.ensures.refused (subst (λ (f : RepoFault). IsOfFiles f) is of_files)))))

pub returns-clause-archives : goal.returns-clause-archives
returns-clause-archives g c =
    let archives = (repo_view c.args.repo.now).manifest.archives in
    archives_all (g.S.Shelf.told c.args.shelf.now) (repo_view c.args.repo.now) archives (take c.loop-place.place archives) (get key_cmp c.args.chunks.now)
    (get key_cmp c.loop-place.chunks) c.loop-place.untagged (take_all c.loop-place.place archives (omega (arith, c.archive_count-place-end.ensures.count)))
    c.loop-place.invariant.checks
