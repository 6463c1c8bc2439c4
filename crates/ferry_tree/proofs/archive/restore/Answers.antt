use Rattle.std.proofs.Common.{◌≡◌, ◌⊎◌, inr, true, IfSome}
use Rattle.ferry_disk.specs.Device.{told_files}
use Rattle.ferry_repo.specs.Opening.{repo_view}
use Rattle.ferry_repo.specs.Walk.{walk_view}
use Rattle.ferry_tree.specs.Nodes.{is_bare}
use Rattle.ferry_tree.specs.Restoring.{PartOfArchive, PartOfItems, RefusesArchive, RefusesItems, RestoresArchive, RestoresItems}
use Rattle.ferry_tree.proofs.ArchiveLemmas.{empty_is, archive_restored, archive_part, archive_refused}
use Rattle.ferry_tree.proofs.MemoryLemmas.{if_ok, if_err, on_err}
use Rattle.ferry_tree.proofs.archive.restore.Goals as goal

pub returns-in-Ok-clause-restored : goal.returns-in-Ok-clause-restored
returns-in-Ok-clause-restored g c =
    let told = g.S.Shelf.told c.args.shelf.now in
    let middle = g.S.Shelf.told c.begin.new.shelf in
    let repo = repo_view c.args.repo.now in
    let mid_repo = repo_view c.begin.new.repo in
    let walk = walk_view c.in-Ok.walk in
    let before = g.T.Tree.told c.args.tree.now in
    let after = g.T.Tree.told c.restore_walk.new.tree in
    let empty : IfSome before (λ t. is_bare t ≡ true) = empty_is before c.in_ok-is_empty.field-0 c.if-not-branch.false c.in_ok-is_empty.ensures.empty in
    if_ok c.restore_walk.result (λ counts. RestoresItems middle mid_repo walk after counts)
    (λ counts. RestoresArchive told repo c.args.name.now before after counts)
    (λ counts r. archive_restored told middle repo mid_repo c.args.name.now walk before after counts c.in-Ok.ensures.same c.in-Ok.ensures.kept empty
    c.in-Ok.ensures.begins r) c.restore_walk.ensures.restored

pub returns-in-Ok-clause-err : goal.returns-in-Ok-clause-err
returns-in-Ok-clause-err g c =
    let told = g.S.Shelf.told c.args.shelf.now in
    let middle = g.S.Shelf.told c.begin.new.shelf in
    let repo = repo_view c.args.repo.now in
    let mid_repo = repo_view c.begin.new.repo in
    let walk = walk_view c.in-Ok.walk in
    let before = g.T.Tree.told c.args.tree.now in
    let after = g.T.Tree.told c.restore_walk.new.tree in
    let empty : IfSome before (λ t. is_bare t ≡ true) = empty_is before c.in_ok-is_empty.field-0 c.if-not-branch.false c.in_ok-is_empty.ensures.empty in
    on_err c.restore_walk.result (PartOfItems middle mid_repo walk after) ((after ≡ before) ⊎ PartOfArchive told repo c.args.name.now before after)
    (λ p. inr (archive_part told middle repo mid_repo c.args.name.now walk before after c.in-Ok.ensures.same c.in-Ok.ensures.kept empty
    c.in-Ok.ensures.begins p)) c.restore_walk.ensures.err

pub returns-in-Ok-clause-refused : goal.returns-in-Ok-clause-refused
returns-in-Ok-clause-refused g c =
    let told = g.S.Shelf.told c.args.shelf.now in
    let middle = g.S.Shelf.told c.begin.new.shelf in
    let repo = repo_view c.args.repo.now in
    let mid_repo = repo_view c.begin.new.repo in
    let walk = walk_view c.in-Ok.walk in
    let before = g.T.Tree.told c.args.tree.now in
    let empty : IfSome before (λ t. is_bare t ≡ true) = empty_is before c.in_ok-is_empty.field-0 c.if-not-branch.false c.in_ok-is_empty.ensures.empty in
    if_err c.restore_walk.result (λ fault. IfSome middle (λ t. RefusesItems (told_files t) mid_repo walk fault))
    (λ fault. IfSome told (λ t. RefusesArchive (told_files t) repo c.args.name.now before fault))
    (λ fault r. archive_refused told middle repo mid_repo c.args.name.now walk before fault c.in-Ok.ensures.same c.in-Ok.ensures.kept empty
    c.in-Ok.ensures.begins r) c.restore_walk.ensures.refused
