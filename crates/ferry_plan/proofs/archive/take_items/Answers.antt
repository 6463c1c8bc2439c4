use Rattle.std.proofs.Common.{◌++◌, ◌∷◌, [], ℕ, Ok, IfSome, refl, sym, ◌∙◌, ap, subst}
use Rattle.ferry_compare.proofs.StepLemmas.{at_first, at_last}
use Rattle.ferry_disk.specs.Device.{told_files}
use Rattle.ferry_item.specs.Item.{item_view}
use Rattle.ferry_item.specs.Writing.{IsPackable}
use Rattle.ferry_plan.proofs.StepLemmas.{goes_all, goes_begun, goes_next, item_stops, stream_stops}
use Rattle.ferry_plan.proofs.TallyLemmas.{tallies_none, tallies_then}
use Rattle.ferry_plan.proofs.archive.take_items.Goals as goal
use Rattle.ferry_plan.specs.Steps.{RefusesBy, StopsLong, StopsStream, TakesItem}
use Rattle.ferry_repo.proofs.FaultLemmas.{gives_err}
use Rattle.ferry_repo.specs.Opening.{repo_view}
use Rattle.ferry_repo.specs.Walk.{FitsWalk, LeadsOn, walk_view}

pub loop-init : goal.loop-init
loop-init g c =
    let target = repo_view c.args.target.now in
    let tally = c.args.tally.now in
    record {
      ready = c.requires.ready;
      block = refl;
      source_fits = c.requires.source_fits;
      walk_fits = c.requires.walk_fits;
      repo = refl;
      alike = refl;
      faults = refl;
      taken = (
        [],
        (
          tallies_none target.keys target.log tally,
          goes_begun (g.S.Shelf.told c.args.shelf.now) (repo_view c.args.source.now) target.keys tally.block (walk_view c.args.walk.now)
              tally.stream.cutter.piece,
        ),
      );
    }

pub step-requires-clause-walk_fits : goal.step-requires-clause-walk_fits
step-requires-clause-walk_fits g c =
    let invariant = c.loop.invariant in
    at_last (g.S.Shelf.told c.args.shelf.now) (g.S.Shelf.told c.loop.shelf) (repo_view c.args.source.now) (repo_view c.loop.source)
    (λ r f. FitsWalk f r.log r.keys (walk_view c.loop.walk)) invariant.alike invariant.repo invariant.walk_fits

pub take_item-requires-clause-packable : goal.take_item-requires-clause-packable
take_item-requires-clause-packable g c =
    subst (λ o. IfSome o (λ i. IsPackable (item_view i))) c.in-Some.is c.in_ok-item.ensures.packable

pub loop-preserved : goal.loop-preserved
loop-preserved g c =
    let invariant = c.loop.invariant in
    let so = invariant.taken in
    let next = c.in_ok-take_item-in-Some.ensures.taken in
    let told = g.S.Shelf.told c.args.shelf.now in
    let later = g.S.Shelf.told c.loop.shelf in
    let last = g.S.Shelf.told c.step.new.shelf in
    let source = repo_view c.args.source.now in
    let middle = repo_view c.loop.source in
    let after = repo_view c.step.new.repo in
    let target = repo_view c.args.target.now in
    let tally = c.args.tally.now in
    let now = walk_view c.loop.walk in
    let walk = walk_view c.step.new.self in
    let item = item_view c.in-Some.item in
    let leads = subst (λ o. IfSome o (λ i. IfSome later (λ t. LeadsOn (told_files t) middle.log middle.keys now (item_view i ∷ []) walk)))
    c.in-Some.is c.in_ok-item.ensures.item in
    let stepped = c.in_ok-item.ensures in
    let took = c.in_ok-take_item-in-Some.ensures in
    record {
      ready = took.ready;
      block = took.block ∙ invariant.block;
      source_fits = took.source_fits;
      walk_fits = at_first told later source middle (λ r f. FitsWalk f r.log r.keys walk) invariant.alike invariant.repo stepped.walk_fits;
      repo = took.kept ∙ (stepped.kept ∙ invariant.repo);
      alike = took.same ∙ (stepped.same ∙ invariant.alike);
      faults = took.cause ∙ (stepped.cause ∙ invariant.faults);
      taken = (
        so.0 ++ next.0,
        (
          tallies_then target.keys target.log tally c.loop.tally c.take_item.new.tally so.0 next.0 so.1.0 next.1.0,
          goes_next told later last source middle after target.keys tally.block (walk_view c.args.walk.now) now walk item tally.stream.cutter.piece
              c.loop.tally.stream.cutter.piece c.take_item.new.tally.stream.cutter.piece so.0 next.0 invariant.alike (stepped.same ∙ invariant.alike)
              invariant.repo (stepped.kept ∙ invariant.repo) so.1.1 leads
              (subst (λ (block : ℕ). IfSome last (λ t. TakesItem (told_files t) after target.keys block item c.loop.tally.stream.cutter.piece next.0
              c.take_item.new.tally.stream.cutter.piece)) invariant.block next.1.1),
        ),
      );
    }

pub returns-in-None-clause-taken : goal.returns-in-None-clause-taken
returns-in-None-clause-taken g c =
    let invariant = c.loop.invariant in
    let so = invariant.taken in
    let tally = c.args.tally.now in (
      so.0,
      (
        so.1.0,
        goes_all (g.S.Shelf.told c.args.shelf.now) (g.S.Shelf.told c.loop.shelf) (repo_view c.args.source.now) (repo_view c.loop.source)
            (repo_view c.args.target.now).keys tally.block (walk_view c.args.walk.now) (walk_view c.loop.walk) tally.stream.cutter.piece
            c.loop.tally.stream.cutter.piece so.0 invariant.alike invariant.repo so.1.1 (c.in_ok-item.ensures.none (ap Ok c.in-None.is)),
      ),
    )

pub returns-in_err-item-clause-refused : goal.returns-in_err-item-clause-refused
returns-in_err-item-clause-refused g c =
    let invariant = c.loop.invariant in
    let so = invariant.taken in
    let told = g.S.Shelf.told c.args.shelf.now in
    let source = repo_view c.args.source.now in
    let tally = c.args.tally.now in
    let from = walk_view c.args.walk.now in
    gives_err c.from_residual.result _ _ c.from_residual.ensures.1
    (λ fault is. subst (RefusesBy told (λ there f. StopsStream there source tally.block from f) (λ there. StopsLong there source tally.block from)) (sym is)
    (stream_stops told (g.S.Shelf.told c.loop.shelf) source (repo_view c.loop.source) (repo_view c.args.target.now).keys tally.block from
    (walk_view c.loop.walk) tally.stream.cutter.piece c.loop.tally.stream.cutter.piece so.0 c.in_err-item.field-0.0 invariant.alike invariant.repo so.1.1
    c.in_err-item.ensures.refused))

pub returns-in_err-take_item-in-Some-clause-refused : goal.returns-in_err-take_item-in-Some-clause-refused
returns-in_err-take_item-in-Some-clause-refused g c =
    let invariant = c.loop.invariant in
    let so = invariant.taken in
    let told = g.S.Shelf.told c.args.shelf.now in
    let later = g.S.Shelf.told c.loop.shelf in
    let source = repo_view c.args.source.now in
    let middle = repo_view c.loop.source in
    let tally = c.args.tally.now in
    let from = walk_view c.args.walk.now in
    let now = walk_view c.loop.walk in
    let walk = walk_view c.step.new.self in
    let leads = subst (λ o. IfSome o (λ i. IfSome later (λ t. LeadsOn (told_files t) middle.log middle.keys now (item_view i ∷ []) walk)))
    c.in-Some.is c.in_ok-item.ensures.item in
    gives_err c.from_residual-in_err-take_item-in-Some.result _ _ c.from_residual-in_err-take_item-in-Some.ensures.1
    (λ fault is. subst (RefusesBy told (λ there f. StopsStream there source tally.block from f) (λ there. StopsLong there source tally.block from)) (sym is)
    (item_stops told later (g.S.Shelf.told c.step.new.shelf) source middle (repo_view c.step.new.repo) (repo_view c.args.target.now).keys tally.block
    c.loop.tally.block from now walk (item_view c.in-Some.item) tally.stream.cutter.piece c.loop.tally.stream.cutter.piece so.0
    c.in_err-take_item-in-Some.field-0.0 invariant.alike (c.in_ok-item.ensures.same ∙ invariant.alike) invariant.repo
    (c.in_ok-item.ensures.kept ∙ invariant.repo) invariant.block so.1.1 leads c.in_err-take_item-in-Some.ensures.refused))
