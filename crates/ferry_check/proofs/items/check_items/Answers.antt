use Rattle.std.proofs.Common.{◌⊎◌, Ok, ◌∷◌, [], IfSome, refl, sym, ◌∙◌, ap, subst}
use Rattle.std.specs.BTreeMap.{get}
use Rattle.ferry_disk.specs.Device.{told_files}
use Rattle.ferry_item.specs.Item.{item_view}
use Rattle.ferry_log.specs.Live.{key_cmp}
use Rattle.ferry_repo.specs.Fault.{IsOfFiles}
use Rattle.ferry_repo.specs.Opening.{repo_view}
use Rattle.ferry_repo.specs.Walk.{LeadsOn, walk_view}
use Rattle.ferry_repo.specs.declared.fault.RepoFault.{RepoFault}
use Rattle.ferry_repo.proofs.FaultLemmas.{gives_err}
use Rattle.ferry_check.specs.Steps.{StreamEnds, ItemEnds}
use Rattle.ferry_check.proofs.ItemLemmas.{log_fits, goes_begin, goes_next, items_checked, stream_refused, item_refused}
use Rattle.ferry_check.proofs.items.check_items.Goals as goal

pub loop-init : goal.loop-init
loop-init g c = record {
  goes = goes_begin (g.S.Shelf.told c.args.shelf.now) (repo_view c.args.repo.now) (walk_view c.args.walk.now) (get key_cmp c.args.chunks.now)
      c.requires.walk_fits;
  fits = c.requires.fits;
  repo = refl;
  same = refl;
  faults = refl;
}

pub loop-preserved : goal.loop-preserved
loop-preserved g c =
    let later = g.S.Shelf.told c.loop.shelf in
    let now_repo = repo_view c.loop.repo in
    let now = walk_view c.loop.walk in
    let after = walk_view c.step.new.self in
    let item = item_view c.in-Some.item in
    let leads = subst (λ o. IfSome o (λ i. IfSome later (λ t. LeadsOn (told_files t) now_repo.log now_repo.keys now (item_view i ∷ []) after)))
    c.in-Some.is c.in_ok-item.ensures.item in
    record {
      goes = goes_next (g.S.Shelf.told c.args.shelf.now) later (repo_view c.args.repo.now) now_repo (walk_view c.args.walk.now) now after
          (get key_cmp c.args.chunks.now) (get key_cmp c.loop.chunks) (get key_cmp c.use_item.new.chunks) item c.loop.invariant.same
          c.loop.invariant.repo c.loop.invariant.goes leads c.in_ok-item.ensures.walk_fits c.in_ok-use_item-in-Some.ensures.right
          c.in_ok-use_item-in-Some.ensures.marks;
      fits = c.in_ok-item.ensures.fits;
      repo = c.in_ok-item.ensures.kept ∙ c.loop.invariant.repo;
      same = c.in_ok-item.ensures.same ∙ c.loop.invariant.same;
      faults = c.in_ok-item.ensures.cause ∙ c.loop.invariant.faults;
    }

pub returns-in_err-item-clause-refused : goal.returns-in_err-item-clause-refused
returns-in_err-item-clause-refused g c =
    let told = g.S.Shelf.told c.args.shelf.now in
    let repo = repo_view c.args.repo.now in
    let from = walk_view c.args.walk.now in
    let old = get key_cmp c.args.chunks.now in
    gives_err c.from_residual.result _ _ c.from_residual.ensures.1 (λ y is of_files.
    subst (λ (f : RepoFault). IfSome told (λ t. StreamEnds (told_files t) repo from old f ⊎ ItemEnds (told_files t) repo from old f)) (sym is)
    (stream_refused told (g.S.Shelf.told c.loop.shelf) repo (repo_view c.loop.repo) from (walk_view c.loop.walk) old (get key_cmp c.loop.chunks)
    c.in_err-item.field-0.0 c.loop.invariant.same c.loop.invariant.repo c.loop.invariant.goes
    (c.in_err-item.ensures.refused (subst (λ (f : RepoFault). IsOfFiles f) is of_files))))

pub returns-in_err-use_item-in-Some-clause-refused : goal.returns-in_err-use_item-in-Some-clause-refused
returns-in_err-use_item-in-Some-clause-refused g c =
    let told = g.S.Shelf.told c.args.shelf.now in
    let later = g.S.Shelf.told c.loop.shelf in
    let repo = repo_view c.args.repo.now in
    let now_repo = repo_view c.loop.repo in
    let from = walk_view c.args.walk.now in
    let now = walk_view c.loop.walk in
    let after = walk_view c.step.new.self in
    let old = get key_cmp c.args.chunks.now in
    let item = item_view c.in-Some.item in
    let leads = subst (λ o. IfSome o (λ i. IfSome later (λ t. LeadsOn (told_files t) now_repo.log now_repo.keys now (item_view i ∷ []) after)))
    c.in-Some.is c.in_ok-item.ensures.item in
    gives_err c.from_residual-in_err-use_item-in-Some.result _ _ c.from_residual-in_err-use_item-in-Some.ensures.1 (λ y is of_files.
    subst (λ (f : RepoFault). IfSome told (λ t. StreamEnds (told_files t) repo from old f ⊎ ItemEnds (told_files t) repo from old f)) (sym is)
    (item_refused told later repo now_repo from now after old (get key_cmp c.loop.chunks) item c.in_err-use_item-in-Some.field-0.0
    c.loop.invariant.same c.loop.invariant.repo (log_fits _ _ _ c.requires.fits) c.loop.invariant.goes leads c.in_ok-item.ensures.walk_fits
    c.in_err-use_item-in-Some.ensures.refused))

pub returns-in-None-clause-items : goal.returns-in-None-clause-items
returns-in-None-clause-items g c =
    items_checked (g.S.Shelf.told c.args.shelf.now) (g.S.Shelf.told c.loop.shelf) (repo_view c.args.repo.now) (repo_view c.loop.repo)
    (walk_view c.args.walk.now) (walk_view c.loop.walk) (get key_cmp c.args.chunks.now) (get key_cmp c.loop.chunks) c.loop.invariant.same
    c.loop.invariant.repo c.loop.invariant.goes (c.in_ok-item.ensures.none (ap Ok c.in-None.is))
