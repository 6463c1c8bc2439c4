use Rattle.std.proofs.Common.{◌∷◌, [], IfSome, refl, sym, ◌∙◌, subst}
use Rattle.std.specs.Str.{bytes_eq}
use Rattle.ferry_disk.specs.Device.{told_files}
use Rattle.ferry_item.specs.Item.{item_view}
use Rattle.ferry_repo.specs.Opening.{repo_view}
use Rattle.ferry_repo.specs.Walk.{LeadsOn, walk_view}
use Rattle.ferry_view.specs.Lines.{path_of}
use Rattle.ferry_view.proofs.FileLemmas.{chunks_some, chunks_none}
use Rattle.ferry_view.proofs.SoFarLemmas.{seeks_begin, seeks_next, seeks_found}
use Rattle.ferry_view.proofs.extraction.find_file.Goals as goal

pub loop-init : goal.loop-init
loop-init g c = record {
  seeks = seeks_begin (g.S.Shelf.told c.args.shelf.now) (repo_view c.args.repo.now) (walk_view c.args.walk.now) c.args.path.now c.requires.walk_fits;
  fits = c.requires.fits;
  repo = refl;
  same = refl;
  faults = refl;
}

pub returns-in-Some-file_in-clause-found : goal.returns-in-Some-file_in-clause-found
returns-in-Some-file_in-clause-found g c =
    let told = g.S.Shelf.told c.args.shelf.now in
    let later = g.S.Shelf.told c.loop.shelf in
    let repo = repo_view c.args.repo.now in
    let now_repo = repo_view c.loop.repo in
    let from = walk_view c.args.walk.now in
    let now = walk_view c.loop.walk in
    let after = walk_view c.step.new.self in
    let leads = subst (λ o. IfSome o (λ i. IfSome later (λ t. LeadsOn (told_files t) now_repo.log now_repo.keys now (item_view i ∷ []) after)))
    c.in-Some.is c.in_ok-item.ensures.item in
    let item = item_view c.in-Some.item in
    let chunks = c.in-Some-file_in.chunks in
    let both = chunks_some (bytes_eq (path_of item) c.args.path.now) item.chunks chunks (sym c.in-Some-file_in.is ∙ c.file_in.ensures.chunks) in
    seeks_found told later repo now_repo from now after c.args.path.now item chunks c.loop.invariant.same c.loop.invariant.repo
    c.loop.invariant.seeks both.0 both.1 leads c.in_ok-item.ensures.walk_fits

pub loop-preserved : goal.loop-preserved
loop-preserved g c =
    let told = g.S.Shelf.told c.args.shelf.now in
    let later = g.S.Shelf.told c.loop.shelf in
    let repo = repo_view c.args.repo.now in
    let now_repo = repo_view c.loop.repo in
    let from = walk_view c.args.walk.now in
    let now = walk_view c.loop.walk in
    let after = walk_view c.step.new.self in
    let leads = subst (λ o. IfSome o (λ i. IfSome later (λ t. LeadsOn (told_files t) now_repo.log now_repo.keys now (item_view i ∷ []) after)))
    c.in-Some.is c.in_ok-item.ensures.item in
    let item = item_view c.in-Some.item in
    let other = chunks_none (bytes_eq (path_of item) c.args.path.now) item.chunks (sym c.in-None-file_in.is ∙ c.file_in.ensures.chunks) in
    record {
      seeks = seeks_next told later repo now_repo from now after c.args.path.now item c.loop.invariant.same c.loop.invariant.repo
          c.loop.invariant.seeks other leads c.in_ok-item.ensures.walk_fits;
      fits = c.in_ok-item.ensures.fits;
      repo = c.in_ok-item.ensures.kept ∙ c.loop.invariant.repo;
      same = c.in_ok-item.ensures.same ∙ c.loop.invariant.same;
      faults = c.in_ok-item.ensures.cause ∙ c.loop.invariant.faults;
    }
