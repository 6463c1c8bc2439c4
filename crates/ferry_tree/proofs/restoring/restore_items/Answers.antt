use Rattle.std.proofs.Common.{◌∷◌, [], Ok, IfSome, refl, sym, ◌∙◌, ap, subst}
use Rattle.ferry_disk.specs.Device.{told_files}
use Rattle.ferry_disk.proofs.DeviceLemmas.{told_same}
use Rattle.ferry_item.specs.Item.{item_view}
use Rattle.ferry_repo.specs.Opening.{RepoState, repo_view}
use Rattle.ferry_repo.specs.Walk.{FitsWalk, LeadsOn, walk_view}
use Rattle.ferry_repo.proofs.FaultLemmas.{gives_err}
use Rattle.ferry_view.proofs.ShownLemmas.{log_fits}
use Rattle.ferry_tree.specs.Restoring.{PartOfItems, RefusesItems}
use Rattle.ferry_tree.specs.declared.fault.RestoreFault.{RestoreFault}
use Rattle.ferry_tree.proofs.MemoryLemmas.{always_err}
use Rattle.ferry_tree.proofs.RestoringLemmas.{restoring_begin, restoring_next, restoring_end, step_refused, item_refused, part_between, part_within}
use Rattle.ferry_tree.proofs.restoring.restore_items.Goals as goal

pub loop-init : goal.loop-init
loop-init g c = record {
  restoring = restoring_begin (g.S.Shelf.told c.args.shelf.now) (repo_view c.args.repo.now) (walk_view c.args.walk.now) (g.T.Tree.told c.args.tree.now)
      c.args.known.now c.args.counts.now c.requires.walk_fits c.requires.bare;
  walk_fits = c.requires.walk_fits;
  fits = c.requires.fits;
  repo = refl;
  same = refl;
  faults = refl;
  lost = refl;
}

pub returns-in_err-item-clause-err : goal.returns-in_err-item-clause-err
returns-in_err-item-clause-err g c =
    let told = g.S.Shelf.told c.args.shelf.now in
    let repo = repo_view c.args.repo.now in
    let from = walk_view c.args.walk.now in
    let tree = g.T.Tree.told c.loop.tree in
    always_err c.from_residual.result (PartOfItems told repo from tree)
    (part_between told repo from (walk_view c.loop.walk) tree c.loop.known c.loop.counts (log_fits _ _ _ c.requires.fits) c.loop.invariant.restoring)

pub returns-in_err-item-clause-refused : goal.returns-in_err-item-clause-refused
returns-in_err-item-clause-refused g c =
    let told = g.S.Shelf.told c.args.shelf.now in
    let repo = repo_view c.args.repo.now in
    let from = walk_view c.args.walk.now in
    gives_err c.from_residual.result _ _ c.from_residual.ensures.1 (λ y is.
    subst (λ (f : RestoreFault). IfSome told (λ t. RefusesItems (told_files t) repo from f)) (sym is)
    (step_refused told (g.S.Shelf.told c.loop.shelf) repo (repo_view c.loop.repo) from (walk_view c.loop.walk) (g.T.Tree.told c.loop.tree) c.loop.known
    c.loop.counts c.in_err-item.field-0.0 c.loop.invariant.same c.loop.invariant.repo c.loop.invariant.restoring c.in_err-item.ensures.refused))

pub returns-in_err-restore_item-in-Some-clause-err : goal.returns-in_err-restore_item-in-Some-clause-err
returns-in_err-restore_item-in-Some-clause-err g c =
    let told = g.S.Shelf.told c.args.shelf.now in
    let later = g.S.Shelf.told c.loop.shelf in
    let repo = repo_view c.args.repo.now in
    let now_repo = repo_view c.loop.repo in
    let from = walk_view c.args.walk.now in
    let now = walk_view c.loop.walk in
    let after = walk_view c.step.new.self in
    let after_tree = g.T.Tree.told c.restore_item.new.tree in
    let restoring = c.loop.invariant.restoring in
    let leads = subst (λ o. IfSome o (λ i. IfSome later (λ t. LeadsOn (told_files t) now_repo.log now_repo.keys now (item_view i ∷ []) after)))
    c.in-Some.is c.in_ok-item.ensures.item in
    always_err c.from_residual-in_err-restore_item-in-Some.result (PartOfItems told repo from after_tree)
    (part_within told later repo now_repo (repo_view c.step.new.repo) (g.S.Shelf.told c.step.new.shelf) from now after (g.T.Tree.told c.loop.tree) after_tree
    c.loop.known c.loop.counts (item_view c.in-Some.item) c.loop.invariant.same c.loop.invariant.repo (c.in_ok-item.ensures.same ∙ c.loop.invariant.same)
    (c.in_ok-item.ensures.kept ∙ c.loop.invariant.repo) (log_fits _ _ _ c.requires.fits) restoring leads c.in_ok-item.ensures.walk_fits
    (c.in_err-restore_item-in-Some.ensures.err restoring.grown restoring.stands))

pub returns-in_err-restore_item-in-Some-clause-refused : goal.returns-in_err-restore_item-in-Some-clause-refused
returns-in_err-restore_item-in-Some-clause-refused g c =
    let told = g.S.Shelf.told c.args.shelf.now in
    let later = g.S.Shelf.told c.loop.shelf in
    let repo = repo_view c.args.repo.now in
    let now_repo = repo_view c.loop.repo in
    let from = walk_view c.args.walk.now in
    let now = walk_view c.loop.walk in
    let after = walk_view c.step.new.self in
    let restoring = c.loop.invariant.restoring in
    let leads = subst (λ o. IfSome o (λ i. IfSome later (λ t. LeadsOn (told_files t) now_repo.log now_repo.keys now (item_view i ∷ []) after)))
    c.in-Some.is c.in_ok-item.ensures.item in
    gives_err c.from_residual-in_err-restore_item-in-Some.result _ _ c.from_residual-in_err-restore_item-in-Some.ensures.1 (λ y is.
    subst (λ (f : RestoreFault). IfSome told (λ t. RefusesItems (told_files t) repo from f)) (sym is)
    (item_refused told later repo now_repo (repo_view c.step.new.repo) (g.S.Shelf.told c.step.new.shelf) from now after (g.T.Tree.told c.loop.tree)
    c.loop.known c.loop.counts (item_view c.in-Some.item) c.in_err-restore_item-in-Some.field-0.0 c.loop.invariant.same c.loop.invariant.repo
    (c.in_ok-item.ensures.same ∙ c.loop.invariant.same) (c.in_ok-item.ensures.kept ∙ c.loop.invariant.repo) (log_fits _ _ _ c.requires.fits) restoring leads
    c.in_ok-item.ensures.walk_fits (c.in_err-restore_item-in-Some.ensures.refused restoring.grown restoring.stands)))

pub loop-preserved : goal.loop-preserved
loop-preserved g c =
    let told = g.S.Shelf.told c.args.shelf.now in
    let later = g.S.Shelf.told c.loop.shelf in
    let repo = repo_view c.args.repo.now in
    let now_repo = repo_view c.loop.repo in
    let from = walk_view c.args.walk.now in
    let now = walk_view c.loop.walk in
    let after = walk_view c.step.new.self in
    let restoring = c.loop.invariant.restoring in
    let leads = subst (λ o. IfSome o (λ i. IfSome later (λ t. LeadsOn (told_files t) now_repo.log now_repo.keys now (item_view i ∷ []) after)))
    c.in-Some.is c.in_ok-item.ensures.item in
    record {
      restoring = restoring_next told later repo now_repo (repo_view c.step.new.repo) (g.S.Shelf.told c.step.new.shelf) from now after
          (g.T.Tree.told c.loop.tree) (g.T.Tree.told c.restore_item.new.tree) c.loop.known c.restore_item.new.known c.loop.counts c.restore_item.new.counts
          (item_view c.in-Some.item) c.loop.invariant.same c.loop.invariant.repo (c.in_ok-item.ensures.same ∙ c.loop.invariant.same)
          (c.in_ok-item.ensures.kept ∙ c.loop.invariant.repo) restoring leads c.in_ok-item.ensures.walk_fits
          (c.in_ok-restore_item-in-Some.ensures.restored restoring.grown restoring.stands);
      walk_fits = subst (λ (r : RepoState). IfSome (g.S.Shelf.told c.restore_item.new.shelf) (λ t. FitsWalk (told_files t) r.log r.keys after))
          (sym (c.in_ok-restore_item-in-Some.ensures.kept ∙ c.in_ok-item.ensures.kept))
          (told_same later (g.S.Shelf.told c.restore_item.new.shelf) (λ f. FitsWalk f now_repo.log now_repo.keys after)
          (c.in_ok-restore_item-in-Some.ensures.same ∙ c.in_ok-item.ensures.same) c.in_ok-item.ensures.walk_fits);
      fits = c.in_ok-restore_item-in-Some.ensures.fits;
      repo = c.in_ok-restore_item-in-Some.ensures.kept ∙ c.in_ok-item.ensures.kept ∙ c.loop.invariant.repo;
      same = c.in_ok-restore_item-in-Some.ensures.same ∙ c.in_ok-item.ensures.same ∙ c.loop.invariant.same;
      faults = c.in_ok-restore_item-in-Some.ensures.source ∙ c.in_ok-item.ensures.cause ∙ c.loop.invariant.faults;
      lost = c.in_ok-restore_item-in-Some.ensures.cause ∙ c.loop.invariant.lost;
    }

pub returns-in-None-clause-restored : goal.returns-in-None-clause-restored
returns-in-None-clause-restored g c =
    restoring_end (g.S.Shelf.told c.args.shelf.now) (g.S.Shelf.told c.loop.shelf) (repo_view c.args.repo.now) (repo_view c.loop.repo)
    (walk_view c.args.walk.now) (walk_view c.loop.walk) (g.T.Tree.told c.loop.tree) c.loop.known c.loop.counts c.loop.invariant.same c.loop.invariant.repo
    c.loop.invariant.restoring (c.in_ok-item.ensures.none (ap Ok c.in-None.is))

pub returns-clause-err : goal.returns-clause-err
returns-clause-err g c =
    part_between (g.S.Shelf.told c.args.shelf.now) (repo_view c.args.repo.now) (walk_view c.args.walk.now) (walk_view c.loop.walk)
    (g.T.Tree.told c.loop.tree) c.loop.known c.loop.counts (log_fits _ _ _ c.requires.fits) c.loop.invariant.restoring
