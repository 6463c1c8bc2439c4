use Rattle.std.proofs.Common.{IfSome, option_map, subst}
use Rattle.std.proofs.lemmas.Result.{on_ok_weaker, IfErr-weaker}
use Rattle.ferry_disk.specs.Device.{told_files}
use Rattle.ferry_manifest.specs.Record.Text.{archive_view}
use Rattle.ferry_repo.specs.Archives.{archive_named, HoldsNamed}
use Rattle.ferry_repo.specs.Opening.{RepoState, repo_view}
use Rattle.ferry_repo.specs.Walk.{walk_view}
use Rattle.ferry_refs.specs.Refs.{count_in}
use Rattle.ferry_refs.specs.Steps.{CountsItems, StreamEnds}
use Rattle.ferry_refs.proofs.ArchiveLemmas.{archive_counted, archive_refused}
use Rattle.ferry_refs.proofs.archive.count_archive.Goals as goal

pub returns-clause-archive : goal.returns-clause-archive
returns-clause-archive g c =
    let told = g.S.Shelf.told c.args.shelf.now in
    let later = g.S.Shelf.told c.archive.new.shelf in
    let repo = repo_view c.args.repo.now in
    let name = c.args.name.now in
    let old = count_in c.args.counts.now in
    let tally = count_in c.count_record.new.counts in
    let next = count_in c.count_items.new.counts in
    let archive = archive_view c.in-Some-2.archive in
    let walk = walk_view c.in_ok-walk.walk in
    let holds = subst
    (λ o. IfSome told (λ t. HoldsNamed (told_files t) repo.log repo.keys (archive_named name repo.manifest.archives) (option_map archive_view o)))
    c.in-Some-2.is c.in_ok-archive.ensures.archive in
    on_ok_weaker c.count_items.result
    (λ counts. archive_counted told later repo name old tally next archive c.in-Some.id walk c.in_ok-archive.ensures.same holds c.in-Some.ensures.id
    c.in_ok-walk.ensures.walk c.in_ok-count_record.ensures.added
    (subst (λ (r : RepoState). CountsItems later r walk tally next) c.in_ok-archive.ensures.kept counts))
    c.count_items.ensures.items

pub returns-clause-refused : goal.returns-clause-refused
returns-clause-refused g c =
    let told = g.S.Shelf.told c.args.shelf.now in
    let later = g.S.Shelf.told c.archive.new.shelf in
    let repo = repo_view c.args.repo.now in
    let name = c.args.name.now in
    let archive = archive_view c.in-Some-2.archive in
    let walk = walk_view c.in_ok-walk.walk in
    let holds = subst
    (λ o. IfSome told (λ t. HoldsNamed (told_files t) repo.log repo.keys (archive_named name repo.manifest.archives) (option_map archive_view o)))
    c.in-Some-2.is c.in_ok-archive.ensures.archive in
    IfErr-weaker c.count_items.result _ _
    (λ fault refused of_files. archive_refused told later repo name archive c.in-Some.id walk fault c.in_ok-archive.ensures.same holds
    c.in-Some.ensures.id c.in_ok-walk.ensures.walk
    (subst (λ (r : RepoState). IfSome later (λ t. StreamEnds (told_files t) r walk fault)) c.in_ok-archive.ensures.kept (refused of_files)))
    c.count_items.ensures.refused
