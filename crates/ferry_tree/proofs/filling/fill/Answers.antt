use Rattle.std.proofs.Common.{◌<◌, [], ◌∷◌, length, IfSome, option_map, sym, ◌∙◌, ap, subst, arith}
use Rattle.std.proofs.lemmas.Option.{IfSome_then}
use Rattle.ferry_disk.specs.Device.{heard, told_files}
use Rattle.ferry_repo.specs.Opening.{repo_view, cached_in, FitsRepo}
use Rattle.ferry_repo.proofs.FaultLemmas.{gives_err}
use Rattle.ferry_tree.specs.Filling.{FillsPart, RefusesFilling, WritesPart}
use Rattle.ferry_tree.specs.Growth.{filled}
use Rattle.ferry_tree.specs.declared.fault.RestoreFault.{RestoreFault}
use Rattle.ferry_tree.proofs.FillingLemmas.{fills_next, fills_current, fills_stopped, fills_cut, fills_refused}
use Rattle.ferry_tree.proofs.MemoryLemmas.{always_err}
use Rattle.ferry_tree.proofs.filling.fill.Goals as goal
use Rattle.ferry_tree.proofs.filling.fill.Goals.{in-Some+in_ok-put_content-in-Some, in-None+in_ok-content-in-None+in_ok-put_content-in-None}

pub returns-in_err-read_ahead-clause-err : goal.returns-in_err-read_ahead-clause-err
returns-in_err-read_ahead-clause-err g c =
    let told = g.S.Shelf.told c.args.shelf.now in
    let repo = repo_view c.args.repo.now in
    let before = g.T.Tree.told c.args.tree.now in
    let now = g.T.Tree.told c.loop-place.tree in
    always_err c.from_residual.result (FillsPart told repo c.args.chunks.now c.args.takes before now)
    (fills_stopped told repo c.args.chunks.now c.loop-place.place c.args.takes before now c.loop-place.invariant.fills)

pub put_content-requires : goal.put_content-requires
put_content-requires g c = record {
  current = fills_current (g.S.Shelf.told c.args.shelf.now) (repo_view c.args.repo.now) c.args.chunks.now c.loop-place.place c.args.takes
      (g.T.Tree.told c.args.tree.now) (g.T.Tree.told c.loop-place.tree) c.loop-place.invariant.fills c.requires.current;
}

pub put_content-requires-in-None : goal.put_content-requires-in-None
put_content-requires-in-None g c = record {
  current = fills_current (g.S.Shelf.told c.args.shelf.now) (repo_view c.args.repo.now) c.args.chunks.now c.loop-place.place c.args.takes
      (g.T.Tree.told c.args.tree.now) (g.T.Tree.told c.loop-place.tree) c.loop-place.invariant.fills c.requires.current;
}

pub returns-in_err-put_content-in-Some-clause-err : goal.returns-in_err-put_content-in-Some-clause-err
returns-in_err-put_content-in-Some-clause-err g c =
    let told = g.S.Shelf.told c.args.shelf.now in
    let later = g.S.Shelf.told c.read_ahead.new.shelf in
    let repo = repo_view c.args.repo.now in
    let chunks = c.args.chunks.now in
    let before = g.T.Tree.told c.args.tree.now in
    let now = g.T.Tree.told c.loop-place.tree in
    let after = g.T.Tree.told c.put_content.new.tree in
    let lt : c.loop-place.place < length chunks = omega arith in
    always_err c.from_residual-in_err-put_content-in-Some.result (FillsPart told repo chunks c.args.takes before after)
    (fills_cut told later repo (repo_view c.read_ahead.new.repo) chunks c.loop-place.place _ c.args.takes before now after c.in-Some.content.now
    (c.in_ok-read_ahead.ensures.same ∙ c.loop-place.invariant.same) (c.in_ok-read_ahead.ensures.kept ∙ c.loop-place.invariant.repo) lt
    c.loop-place.invariant.fills (IfSome_then later c.in_ok-read_ahead.ensures.fits (λ t fits. c.in-Some.ensures.content (told_files t) fits))
    c.in_err-put_content-in-Some.ensures.err)

pub returns-in_err-content-in-None-clause-err : goal.returns-in_err-content-in-None-clause-err
returns-in_err-content-in-None-clause-err g c =
    let told = g.S.Shelf.told c.args.shelf.now in
    let repo = repo_view c.args.repo.now in
    let before = g.T.Tree.told c.args.tree.now in
    let now = g.T.Tree.told c.loop-place.tree in
    always_err c.from_residual-in_err-content-in-None.result (FillsPart told repo c.args.chunks.now c.args.takes before now)
    (fills_stopped told repo c.args.chunks.now c.loop-place.place c.args.takes before now c.loop-place.invariant.fills)

pub returns-in_err-content-in-None-clause-refused : goal.returns-in_err-content-in-None-clause-refused
returns-in_err-content-in-None-clause-refused g c =
    let told = g.S.Shelf.told c.args.shelf.now in
    let repo = repo_view c.args.repo.now in
    let chunks = c.args.chunks.now in
    let lt : c.loop-place.place < length chunks = omega arith in
    gives_err c.from_residual-in_err-content-in-None.result _ _ c.from_residual-in_err-content-in-None.ensures.1 (λ y is.
    subst (λ (f : RestoreFault). IfSome told (λ t. RefusesFilling (told_files t) repo chunks f)) (sym is)
    (fills_refused told (g.S.Shelf.told c.read_ahead.new.shelf) repo (repo_view c.read_ahead.new.repo) chunks c.loop-place.place _ c.args.takes
    (g.T.Tree.told c.args.tree.now) (g.T.Tree.told c.loop-place.tree) c.in_err-content-in-None.field-0.0
    (c.in_ok-read_ahead.ensures.same ∙ c.loop-place.invariant.same) (c.in_ok-read_ahead.ensures.kept ∙ c.loop-place.invariant.repo) lt
    c.loop-place.invariant.fills c.in_err-content-in-None.ensures.refused))

pub returns-in_err-put_content-in-None-clause-err : goal.returns-in_err-put_content-in-None-clause-err
returns-in_err-put_content-in-None-clause-err g c =
    let told = g.S.Shelf.told c.args.shelf.now in
    let later = g.S.Shelf.told c.read_ahead.new.shelf in
    let repo = repo_view c.args.repo.now in
    let chunks = c.args.chunks.now in
    let before = g.T.Tree.told c.args.tree.now in
    let now = g.T.Tree.told c.loop-place.tree in
    let after = g.T.Tree.told c.put_content-in-None.new.tree in
    let content = c.in_ok-content-in-None.content.items in
    let lt : c.loop-place.place < length chunks = omega arith in
    always_err c.from_residual-in_err-put_content-in-None.result (FillsPart told repo chunks c.args.takes before after)
    (fills_cut told later repo (repo_view c.read_ahead.new.repo) chunks c.loop-place.place _ c.args.takes before now after content
    (c.in_ok-read_ahead.ensures.same ∙ c.loop-place.invariant.same) (c.in_ok-read_ahead.ensures.kept ∙ c.loop-place.invariant.repo) lt
    c.loop-place.invariant.fills c.in_ok-content-in-None.ensures.content
    (subst (λ s. WritesPart c.args.takes s now after) c.deref.ensures.value c.in_err-put_content-in-None.ensures.err))

pub loop-place-preserved : goal.loop-place-preserved
loop-place-preserved g c =
    let told = g.S.Shelf.told c.args.shelf.now in
    let later = g.S.Shelf.told c.read_ahead.new.shelf in
    let repo = repo_view c.args.repo.now in
    let ahead = repo_view c.read_ahead.new.repo in
    let chunks = c.args.chunks.now in
    let before = g.T.Tree.told c.args.tree.now in
    let now = g.T.Tree.told c.loop-place.tree in
    let lt : c.loop-place.place < length chunks = omega arith in
    let same = c.in_ok-read_ahead.ensures.same ∙ c.loop-place.invariant.same in
    let kept = c.in_ok-read_ahead.ensures.kept ∙ c.loop-place.invariant.repo in
    elim c.match-kept_of.branch [
      | in-Some+in_ok-put_content-in-Some w ↦ record {
        fills = fills_next told later repo ahead chunks c.loop-place.place _ c.args.takes before now (g.T.Tree.told c.match-kept_of.tree)
            w.in-Some.content.now same kept lt c.loop-place.invariant.fills
            (IfSome_then later c.in_ok-read_ahead.ensures.fits (λ t fits. w.in-Some.ensures.content (told_files t) fits))
            (ap g.T.Tree.told w.tree-is ∙ w.in_ok-put_content-in-Some.ensures.ok);
        fits = subst (λ s. IfSome (g.S.Shelf.told s) (λ t. FitsRepo (told_files t) (repo_view c.match-kept_of.repo) (cached_in c.match-kept_of.repo)))
            (sym w.shelf-is)
            (subst (λ r. IfSome later (λ t. FitsRepo (told_files t) (repo_view r) (cached_in r))) (sym w.repo-is) c.in_ok-read_ahead.ensures.fits);
        repo = ap repo_view w.repo-is ∙ kept;
        same = ap (λ s. heard (g.S.Shelf.told s)) w.shelf-is ∙ same;
        faults = ap g.S.Shelf.faults w.shelf-is ∙ (c.in_ok-read_ahead.ensures.cause ∙ c.loop-place.invariant.faults);
        lost = ap g.T.Tree.faults w.tree-is ∙ (w.in_ok-put_content-in-Some.ensures.cause ∙ c.loop-place.invariant.lost);
      }
      | in-None+in_ok-content-in-None+in_ok-put_content-in-None w ↦ record {
        fills = fills_next told later repo ahead chunks c.loop-place.place _ c.args.takes before now (g.T.Tree.told c.match-kept_of.tree)
            w.in_ok-content-in-None.content.items same kept lt c.loop-place.invariant.fills w.in_ok-content-in-None.ensures.content
            (ap g.T.Tree.told w.tree-is
            ∙ (w.in_ok-put_content-in-None.ensures.ok
            ∙ ap (λ s. option_map (λ t. filled c.args.takes (s ∷ []) t) now) w.deref.ensures.value));
        fits = subst (λ s. IfSome (g.S.Shelf.told s) (λ t. FitsRepo (told_files t) (repo_view c.match-kept_of.repo) (cached_in c.match-kept_of.repo)))
            (sym w.shelf-is)
            (subst (λ r. IfSome (g.S.Shelf.told w.content.new.shelf) (λ t. FitsRepo (told_files t) (repo_view r) (cached_in r))) (sym w.repo-is)
            w.in_ok-content-in-None.ensures.fits);
        repo = ap repo_view w.repo-is ∙ (w.in_ok-content-in-None.ensures.kept ∙ kept);
        same = ap (λ s. heard (g.S.Shelf.told s)) w.shelf-is ∙ (w.in_ok-content-in-None.ensures.same ∙ same);
        faults = ap g.S.Shelf.faults w.shelf-is
            ∙ (w.in_ok-content-in-None.ensures.cause ∙ (c.in_ok-read_ahead.ensures.cause ∙ c.loop-place.invariant.faults));
        lost = ap g.T.Tree.faults w.tree-is ∙ (w.in_ok-put_content-in-None.ensures.cause ∙ c.loop-place.invariant.lost);
      }
    ]
