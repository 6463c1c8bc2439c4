use Rattle.std.proofs.Common.{◌<◌, ◌++◌, ℕ, List, Some, IfSome, length, refl, sym, ◌∙◌, subst, arith}
use Rattle.ferry_disk.specs.Device.{told_files}
use Rattle.ferry_repo.specs.Opening.{repo_view}
use Rattle.ferry_repo.proofs.FaultLemmas.{gives_err}
use Rattle.ferry_compare.specs.Steps.{RefusesItem, Passes, cursor_view}
use Rattle.ferry_compare.specs.declared.fault.CompareFault.{CompareFault}
use Rattle.ferry_compare.proofs.ContentLemmas.{along_none, along_next, along_end, reads_refused}
use Rattle.ferry_compare.proofs.StepLemmas.{if_ok}
use Rattle.ferry_compare.proofs.contents.same_chunks.Goals as goal

pub loop-place-init : goal.loop-place-init
loop-place-init g c =
    let front = c.new-cursor.ensures.front in
    record {
      along = along_none (g.S.Shelf.told c.args.shelf.now) (repo_view c.args.source.now) (g.T.Shelf.told c.args.other.now) (repo_view c.args.target.now)
          c.args.others.now (cursor_view c.new-cursor.result) front;
      within = record { next = omega (arith, front.0); at = omega (arith, front.2) };
      fits = c.requires.source_fits;
      other_fits = c.requires.target_fits;
      repo = refl;
      other_repo = refl;
      alike = refl;
      other_alike = refl;
      faults = refl;
      other_faults = refl;
    }

pub returns-in_err-content-clause-refused : goal.returns-in_err-content-clause-refused
returns-in_err-content-clause-refused g c =
    let told = g.S.Shelf.told c.args.shelf.now in
    let repo = repo_view c.args.source.now in
    let chunks = c.args.chunks.now in
    let lt : c.loop-place.place < length chunks = omega arith in
    gives_err c.from_residual.result _ _ c.from_residual.ensures.1 (λ y is. subst (λ (f : CompareFault). RefusesItem told repo (Some chunks) f) (sym is)
    (reads_refused told (g.S.Shelf.told c.loop-place.shelf) repo (repo_view c.loop-place.source) chunks c.loop-place.place _ c.loop-place.invariant.alike
    c.loop-place.invariant.repo lt c.loop-place.invariant.along.contents c.in_err-content.field-0.0 c.loop-place.invariant.along.come
    c.in_err-content.ensures.refused))

pub loop-place-preserved : goal.loop-place-preserved
loop-place-preserved g c =
    let last = g.T.Shelf.told c.loop-place.other in
    let renewed = repo_view c.loop-place.target in
    let chunks = c.args.chunks.now in
    let others = c.args.others.now in
    let cursor = cursor_view c.loop-place.cursor in
    let moved = cursor_view c.passes.new.cursor in
    let lt : c.loop-place.place < length chunks = omega arith in
    let passes = subst
    (λ (s : List ℕ). (done : List ℕ) → IfSome last (λ t. Passes c.loop-place.same (told_files t) renewed others cursor done)
    → IfSome last (λ t. Passes c.in_ok-same.same (told_files t) renewed others moved (done ++ s))) c.deref.ensures.value c.in_ok-same.ensures.passes in
    record {
      along = along_next (g.S.Shelf.told c.args.shelf.now) (g.S.Shelf.told c.loop-place.shelf) (repo_view c.args.source.now)
          (repo_view c.loop-place.source) (g.T.Shelf.told c.args.other.now) last (repo_view c.args.target.now) renewed chunks others c.loop-place.place _
          cursor moved c.in_ok-content.content.items c.loop-place.same c.in_ok-same.same c.loop-place.invariant.alike c.loop-place.invariant.repo
          c.loop-place.invariant.other_alike c.loop-place.invariant.other_repo lt c.loop-place.invariant.along c.in_ok-content.ensures.content passes;
      within = c.in_ok-same.ensures.within;
      fits = c.in_ok-content.ensures.fits;
      other_fits = c.in_ok-same.ensures.fits;
      repo = c.in_ok-content.ensures.kept ∙ c.loop-place.invariant.repo;
      other_repo = c.in_ok-same.ensures.kept ∙ c.loop-place.invariant.other_repo;
      alike = c.in_ok-content.ensures.same ∙ c.loop-place.invariant.alike;
      other_alike = c.in_ok-same.ensures.same ∙ c.loop-place.invariant.other_alike;
      faults = c.in_ok-content.ensures.cause ∙ c.loop-place.invariant.faults;
      other_faults = c.in_ok-same.ensures.cause ∙ c.loop-place.invariant.other_faults;
    }

pub returns-clause-compares : goal.returns-clause-compares
returns-clause-compares g c =
    if_ok c.ends.result _ _ (λ ended e.
    along_end (g.S.Shelf.told c.args.shelf.now) (repo_view c.args.source.now) (g.T.Shelf.told c.args.other.now) (g.T.Shelf.told c.loop-place.other)
    (repo_view c.args.target.now) (repo_view c.loop-place.target) c.args.chunks.now c.args.others.now c.loop-place.place
    (cursor_view c.loop-place.cursor) c.loop-place.same ended c.loop-place.invariant.other_alike c.loop-place.invariant.other_repo (omega arith)
    c.loop-place.invariant.along e) c.ends.ensures.ends
