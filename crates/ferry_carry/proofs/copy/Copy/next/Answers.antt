use Rattle.std.proofs.Common.{IfSome, subst, sym}
use Rattle.ferry_carry.proofs.copy.Copy.next.Goals as goal
use Rattle.ferry_disk.specs.Act.{History, files_now}
use Rattle.ferry_disk.specs.Device.{told_files}
use Rattle.ferry_repo.specs.Fault.{repo_failed}
use Rattle.ferry_repo.specs.Opening.{RepoState, repo_view}
use Rattle.ferry_repo.specs.Walk.{FitsWalk, walk_view}
use Rattle.ferry_store.proofs.ReadLemmas.{known_read}

pub returns-clause-walk_fits : goal.returns-clause-walk_fits
returns-clause-walk_fits g c =
    let source = repo_view c.args.source.now in
    let walk = walk_view c.step.new.self in
    let b = g.S.Shelf.told c.step.new.shelf in
    subst (λ (r : RepoState). IfSome b (λ t. FitsWalk (told_files t) r.log r.keys walk)) (sym c.step.ensures.kept)
    (known_read (λ (h : History). FitsWalk (files_now h) source.log source.keys walk) repo_failed (g.S.Shelf.told c.args.shelf.now) b c.step.result
    c.step.ensures.same c.step.ensures.walk_fits)

pub returns-in_err-found-clause-walk_fits : goal.returns-in_err-found-clause-walk_fits
returns-in_err-found-clause-walk_fits g c =
    let source = repo_view c.args.source.now in
    let walk = walk_view c.step.new.self in
    let b = g.S.Shelf.told c.step.new.shelf in
    subst (λ (r : RepoState). IfSome b (λ t. FitsWalk (told_files t) r.log r.keys walk)) (sym c.step.ensures.kept)
    (known_read (λ (h : History). FitsWalk (files_now h) source.log source.keys walk) repo_failed (g.S.Shelf.told c.args.shelf.now) b c.step.result
    c.step.ensures.same c.step.ensures.walk_fits)
