use Rattle.std.proofs.Common.{IfSome, refl, sym, subst}
use Rattle.std.specs.BTreeMap.{get}
use Rattle.ferry_disk.specs.Device.{told_files}
use Rattle.ferry_log.specs.Live.{key_cmp}
use Rattle.ferry_repo.specs.Fault.{IsOfFiles}
use Rattle.ferry_repo.specs.Opening.{repo_view}
use Rattle.ferry_repo.specs.declared.fault.RepoFault.{RepoFault}
use Rattle.ferry_repo.proofs.FaultLemmas.{gives_err}
use Rattle.ferry_check.specs.Verify.{FirstBad}
use Rattle.ferry_check.proofs.ReportLemmas.{sizes_later, counts_rest, bad_chunk, bad_archive}
use Rattle.ferry_check.proofs.report.examine.Goals as goal

pub returns-in_err-chunks-clause-refused : goal.returns-in_err-chunks-clause-refused
returns-in_err-chunks-clause-refused g c =
    let told = g.S.Shelf.told c.args.shelf.now in
    let repo = repo_view c.args.repo.now in
    gives_err c.from_residual.result _ _ c.from_residual.ensures.1 (λ y is of_files.
    subst (λ (f : RepoFault). IfSome told (λ t. FirstBad (told_files t) repo f)) (sym is)
    (let files = subst (λ (f : RepoFault). IsOfFiles f) is of_files in
    bad_chunk told repo c.args.ids.now c.in_err-chunks.field-0.0 c.requires.all files (c.in_err-chunks.ensures.refused files)))

pub returns-in_err-untagged-clause-refused : goal.returns-in_err-untagged-clause-refused
returns-in_err-untagged-clause-refused g c =
    let told = g.S.Shelf.told c.args.shelf.now in
    let repo = repo_view c.args.repo.now in
    gives_err c.from_residual-in_err-untagged.result _ _ c.from_residual-in_err-untagged.ensures.1 (λ y is of_files.
    subst (λ (f : RepoFault). IfSome told (λ t. FirstBad (told_files t) repo f)) (sym is)
    (let files = subst (λ (f : RepoFault). IsOfFiles f) is of_files in
    bad_archive told (g.S.Shelf.told c.open_chunks.new.shelf) repo (repo_view c.open_chunks.new.repo) c.args.ids.now (get key_cmp c.in_ok-chunks.chunks)
    c.in_err-untagged.field-0.0 c.requires.all files c.in_ok-chunks.ensures.same c.in_ok-chunks.ensures.kept c.in_ok-chunks.ensures.opened
    (c.in_err-untagged.ensures.refused files)))

pub check_archives-requires-clause-sizes : goal.check_archives-requires-clause-sizes
check_archives-requires-clause-sizes g c =
    sizes_later (g.S.Shelf.told c.args.shelf.now) (g.S.Shelf.told c.open_chunks.new.shelf) (repo_view c.args.repo.now) (repo_view c.open_chunks.new.repo)
    c.args.ids.now (get key_cmp c.in_ok-chunks.chunks) c.requires.all c.in_ok-chunks.ensures.same c.in_ok-chunks.ensures.kept
    c.in_ok-chunks.ensures.opened

pub returns-clause-rest : goal.returns-clause-rest
returns-clause-rest g c =
    counts_rest (g.S.Shelf.told c.args.shelf.now) (g.S.Shelf.told c.open_chunks.new.shelf) (repo_view c.args.repo.now) (repo_view c.open_chunks.new.repo)
    c.args.ids.now (get key_cmp c.in_ok-chunks.chunks) (get key_cmp c.check_archives.new.chunks) c.in_ok-untagged.untagged _ c.requires.all
    c.in_ok-chunks.ensures.same c.in_ok-chunks.ensures.kept c.in_ok-chunks.ensures.opened c.in_ok-chunks.ensures.unused
    c.in_ok-untagged.ensures.archives c.count_unused.ensures.count refl
