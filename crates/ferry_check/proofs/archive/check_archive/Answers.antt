use Rattle.std.proofs.Common.{◌∷◌, [], ◌⊎◌, ℕ, List, IfSome, option_map, sym, subst}
use Rattle.std.specs.BTreeMap.{get}
use Rattle.ferry_disk.specs.Device.{told_files}
use Rattle.ferry_log.specs.Live.{key_cmp}
use Rattle.ferry_manifest.specs.Record.Text.{archive_view}
use Rattle.ferry_repo.specs.Archives.{archive_named, HoldsNamed}
use Rattle.ferry_repo.specs.Fault.{IsOfFiles}
use Rattle.ferry_repo.specs.Opening.{RepoState, repo_view}
use Rattle.ferry_repo.specs.Walk.{walk_view}
use Rattle.ferry_repo.specs.Whole.{RefusesWhole}
use Rattle.ferry_repo.specs.declared.fault.RepoFault.{RepoFault}
use Rattle.ferry_repo.proofs.FaultLemmas.{gives_err}
use Rattle.ferry_check.specs.Steps.{Marks, ChecksItems, StreamEnds, ItemEnds}
use Rattle.ferry_check.proofs.ArchivesLemmas.{archive_checked, archive_refused}
use Rattle.ferry_check.proofs.MarkLemmas.{marks_then}
use Rattle.ferry_check.proofs.archive.check_archive.Goals as goal

pub returns-clause-archive : goal.returns-clause-archive
returns-clause-archive g c =
    let told = g.S.Shelf.told c.args.shelf.now in
    let later = g.S.Shelf.told c.archive.new.shelf in
    let repo = repo_view c.args.repo.now in
    let name = c.args.name.now in
    let old = get key_cmp c.args.chunks.now in
    let one = get key_cmp c.mark.new.chunks in
    let known = get key_cmp c.mark_all.new.chunks in
    let next = get key_cmp c.check_items-checked.new.chunks in
    let archive = archive_view c.in-Some-2.archive in
    let walk = walk_view c.in_ok-walk.walk in
    let holds = subst
    (λ o. IfSome told (λ t. HoldsNamed (told_files t) repo.log repo.keys (archive_named name repo.manifest.archives) (option_map archive_view o)))
    c.in-Some-2.is c.in_ok-archive.ensures.archive in
    let pieces = subst (λ (is : List (List ℕ)). Marks is one known) c.as_slice.ensures.ids c.mark_all.ensures.marks in
    let marks = marks_then old one known (c.in-Some.id ∷ []) archive.items c.mark.ensures.marks pieces in
    let checks = subst (λ (r : RepoState). ChecksItems later r walk known next) c.in_ok-archive.ensures.kept c.in_ok-checked.ensures.items in
    archive_checked told later repo name old known next archive c.in-Some.id walk c.in_ok-archive.ensures.same holds c.in-Some.ensures.id
    c.in_ok-walk.ensures.walk c.requires.sizes marks checks

pub returns-in_err-checked-clause-refused : goal.returns-in_err-checked-clause-refused
returns-in_err-checked-clause-refused g c =
    let told = g.S.Shelf.told c.args.shelf.now in
    let later = g.S.Shelf.told c.archive.new.shelf in
    let repo = repo_view c.args.repo.now in
    let name = c.args.name.now in
    let old = get key_cmp c.args.chunks.now in
    let one = get key_cmp c.mark.new.chunks in
    let known = get key_cmp c.mark_all.new.chunks in
    let archive = archive_view c.in-Some-2.archive in
    let walk = walk_view c.in_ok-walk.walk in
    let fault = c.in_err-checked.field-0.0 in
    let holds = subst
    (λ o. IfSome told (λ t. HoldsNamed (told_files t) repo.log repo.keys (archive_named name repo.manifest.archives) (option_map archive_view o)))
    c.in-Some-2.is c.in_ok-archive.ensures.archive in
    let pieces = subst (λ (is : List (List ℕ)). Marks is one known) c.as_slice.ensures.ids c.mark_all.ensures.marks in
    let marks = marks_then old one known (c.in-Some.id ∷ []) archive.items c.mark.ensures.marks pieces in
    gives_err c.from_residual-in_err-checked.result _ _ c.from_residual-in_err-checked.ensures.1 (λ y is of_files.
    subst (λ (f : RepoFault). IfSome told (λ t. RefusesWhole (told_files t) repo.log repo.keys repo.manifest.archives name f)) (sym is)
    (archive_refused told later repo name old known archive c.in-Some.id walk fault c.in_ok-archive.ensures.same holds c.in-Some.ensures.id
    c.in_ok-walk.ensures.walk c.requires.sizes marks
    (subst (λ (r : RepoState). IfSome later (λ t. StreamEnds (told_files t) r walk known fault ⊎ ItemEnds (told_files t) r walk known fault))
    c.in_ok-archive.ensures.kept (c.in_err-checked.ensures.refused (subst (λ (f : RepoFault). IsOfFiles f) is of_files)))))
