use Rattle.std.proofs.Common.{◌≡◌, ◌<◌, [], length, IfSome, refl, sym, ◌∙◌, ap, subst, get_or, arith, List, ℕ}
use Rattle.std.proofs.lemmas.List.{take_all}
use Rattle.std.specs.List.{AllByRecursion}
use Rattle.ferry_check.proofs.ArchiveLemmas.{named_there}
use Rattle.ferry_check.proofs.ArchivesLemmas.{no_archive}
use Rattle.ferry_disk.proofs.DeviceLemmas.{told_any}
use Rattle.ferry_disk.specs.Device.{told_files}
use Rattle.ferry_manifest.specs.Record.Text.{archive_view}
use Rattle.ferry_manifest.specs.Record.Writing.{IsPackableArchive}
use Rattle.ferry_manifest.specs.declared.manifest.ArchiveRef.{ArchiveRef}
use Rattle.ferry_repo.specs.Archives.{HoldsRecord, RefusesRecord}
use Rattle.ferry_repo.specs.Opening.{RepoState, repo_view}
use Rattle.ferry_repo.specs.declared.fault.RepoFault.{RepoFault}
use Rattle.ferry_repo.proofs.FaultLemmas.{gives_err}
use Rattle.ferry_refs.specs.Refs.{RefusesRead}
use Rattle.ferry_refs.specs.TagSteps.{IsNamedIn, olds_view}
use Rattle.ferry_refs.specs.Tagging.{AreOld, none_old}
use Rattle.ferry_refs.specs.declared.untagged.Untagged.{Untagged}
use Rattle.ferry_refs.proofs.OldLemmas.{note_all, noted, old_next, record_refused}
use Rattle.ferry_refs.proofs.untagged.untagged_archives.Goals as goal

pub loop-place-init : goal.loop-place-init
loop-place-init g c = record {
  old = subst (λ (us : List Untagged). IfSome (g.S.Shelf.told c.args.shelf.now) (λ t. AreOld (told_files t) (repo_view c.args.repo.now) [] (olds_view us)))
      (sym c.new-untagged.ensures.items)
      (told_any (g.S.Shelf.told c.args.shelf.now) (λ f. AreOld f (repo_view c.args.repo.now) [] []) (λ f. none_old));
  named = subst (AllByRecursion (λ (u : Untagged). IsNamedIn (repo_view c.args.repo.now).manifest u.named)) (sym c.new-untagged.ensures.items) tt;
  packable = subst (AllByRecursion (λ (u : Untagged). IsPackableArchive (archive_view u.archive))) (sym c.new-untagged.ensures.items) tt;
  fits = c.requires.fits;
  repo = refl;
  same = refl;
  faults = refl;
}

pub loop-place-preserved : goal.loop-place-preserved
loop-place-preserved g c =
    let told = g.S.Shelf.told c.args.shelf.now in
    let later = g.S.Shelf.told c.loop-place.shelf in
    let repo = repo_view c.args.repo.now in
    let now_repo = repo_view c.loop-place.repo in
    let archives = repo.manifest.archives in
    let place = c.loop-place.place in
    let named = get_or archives place no_archive in
    let archive = c.in_ok-archive.archive in
    let some = c.loop-place.untagged.items in
    let next = c.note_old.new.untagged.items in
    let same = c.loop-place.invariant.repo in
    let behind : repo_view c.record_of.new.repo ≡ repo = c.in_ok-archive.ensures.kept ∙ same in
    let lt : place < length archives = omega (arith, c.archive_count-place-end.ensures.count) in
    let id_is : c.id_at-id.result ≡ named.id =
    c.id_at-id.ensures.id no_archive ∙ ap (λ (r : RepoState). (get_or r.manifest.archives place no_archive).id) same in
    let is : next ≡ noted named archive some =
    c.in_ok-note_old.ensures.noted no_archive
    ∙ ap (λ (r : RepoState). noted (get_or r.manifest.archives place no_archive) archive some) behind in
    record {
      old = old_next told later repo now_repo place no_archive some next archive c.loop-place.invariant.same same lt c.requires.packable.archives
          c.loop-place.invariant.old
          (subst (λ (i : List ℕ). IfSome later (λ t. HoldsRecord (told_files t) now_repo.log now_repo.keys i (archive_view archive))) id_is
          c.in_ok-archive.ensures.archive)
          is;
      named = note_all (λ (u : Untagged). IsNamedIn repo.manifest u.named) named archive some next c.loop-place.invariant.named
          (named_there archives place no_archive lt) is;
      packable = note_all (λ (u : Untagged). IsPackableArchive (archive_view u.archive)) named archive some next c.loop-place.invariant.packable
          c.in_ok-archive.ensures.packable is;
      fits = c.in_ok-archive.ensures.fits;
      repo = behind;
      same = c.in_ok-archive.ensures.same ∙ c.loop-place.invariant.same;
      faults = c.in_ok-archive.ensures.cause ∙ c.loop-place.invariant.faults;
    }

pub returns-in_err-archive-clause-refused : goal.returns-in_err-archive-clause-refused
returns-in_err-archive-clause-refused g c =
    let told = g.S.Shelf.told c.args.shelf.now in
    let later = g.S.Shelf.told c.loop-place.shelf in
    let repo = repo_view c.args.repo.now in
    let now_repo = repo_view c.loop-place.repo in
    let archives = repo.manifest.archives in
    let place = c.loop-place.place in
    let named = get_or archives place no_archive in
    let fault = c.in_err-archive.field-0.0 in
    let same = c.loop-place.invariant.repo in
    let lt : place < length archives = omega (arith, c.archive_count-place-end.ensures.count) in
    let id_is : c.id_at-id.result ≡ named.id =
    c.id_at-id.ensures.id no_archive ∙ ap (λ (r : RepoState). (get_or r.manifest.archives place no_archive).id) same in
    gives_err c.from_residual.result _ _ c.from_residual.ensures.1 (λ y is of_files. (
      named.name,
      (
        named_there archives place no_archive lt,
        subst (λ (f : RepoFault). IfSome told (λ t. RefusesRead (told_files t) repo named.name f)) (sym is)
            (record_refused told later repo now_repo place no_archive fault c.loop-place.invariant.same same lt c.requires.packable.archives
            (subst (λ (i : List ℕ). IfSome later (λ t. RefusesRecord (told_files t) now_repo.log now_repo.keys i fault)) id_is
            c.in_err-archive.ensures.refused)),
      ),
    ))

pub returns-clause-old : goal.returns-clause-old
returns-clause-old g c =
    let repo = repo_view c.args.repo.now in
    subst (λ (l : List ArchiveRef). IfSome (g.S.Shelf.told c.args.shelf.now) (λ t. AreOld (told_files t) repo l (olds_view c.loop-place.untagged.items)))
    (take_all c.loop-place.place repo.manifest.archives (omega (arith, c.archive_count-place-end.ensures.count))) c.loop-place.invariant.old
