use Rattle.std.proofs.Common.{◌≡◌, ◌<◌, ◌++◌, [], ℕ, List, None, IsSome, length, get_or, refl, sym, ◌∙◌, subst, arith}
use Rattle.std.proofs.lemmas.Option.{slice_get_read}
use Rattle.ferry_plan.proofs.NamesLemmas.{all_planned, name_stops, next_planned, none_planned}
use Rattle.ferry_plan.proofs.TallyLemmas.{tallies_none, tallies_then}
use Rattle.ferry_plan.proofs.planning.plan_names.Goals as goal
use Rattle.ferry_plan.specs.Plan.{RefusesBehind}
use Rattle.ferry_plan.specs.Tally.{TalliesOn}
use Rattle.ferry_repo.proofs.FaultLemmas.{gives_err}
use Rattle.ferry_repo.specs.Archives.{archive_named}
use Rattle.ferry_repo.specs.Opening.{RepoState, repo_view}

pub loop-place-init : goal.loop-place-init
loop-place-init g c =
    let target = repo_view c.args.target.now in
    record {
      ready = c.requires.ready;
      begun = c.requires.begun;
      block = refl;
      source_fits = c.requires.source_fits;
      target_fits = c.requires.target_fits;
      source_is = refl;
      target_is = refl;
      source_alike = refl;
      target_alike = refl;
      source_faults = refl;
      target_faults = refl;
      matched = c.requires.matched;
      planned = (
        [],
        (
          tallies_none target.keys target.log c.args.tally.now,
          none_planned (g.S.Shelf.told c.args.shelf.now) (repo_view c.args.source.now) c.args.tally.now.block (g.T.Shelf.told c.args.other.now) target,
        ),
      );
      unread = λ lacks. refl;
    }

pub plan_name-requires-clause-named : goal.plan_name-requires-clause-named
plan_name-requires-clause-named g c =
    let names = c.args.names.now in
    let place = c.loop-place.place in
    let at = c.index-names-place in
    let name = c.as_slice-name.result.now in
    let lt : place < length names = omega arith in
    let is : name ≡ get_or names place name = subst (λ (n : List ℕ). n ≡ get_or names place n) (sym c.as_slice-name.ensures) at.is in
    subst (λ (r : RepoState). IsSome (archive_named name r.manifest.archives)) (sym c.loop-place.invariant.source_is)
    (c.requires.named name (place, slice_get_read names (length names) place name refl lt is))

pub loop-place-preserved : goal.loop-place-preserved
loop-place-preserved g c =
    let invariant = c.loop-place.invariant in
    let so = invariant.planned in
    let next = c.in_ok-plan_name.ensures.planned in
    let planned = c.in_ok-plan_name.ensures in
    let target = repo_view c.args.target.now in
    let tally = c.args.tally.now in
    let names = c.args.names.now in
    let place = c.loop-place.place in
    let at = c.index-names-place in
    let name = c.as_slice-name.result.now in
    let lt : place < length names = omega arith in
    let is : name ≡ get_or names place name = subst (λ (n : List ℕ). n ≡ get_or names place n) (sym c.as_slice-name.ensures) at.is in
    record {
      ready = planned.ready;
      begun = planned.begun;
      block = planned.block ∙ invariant.block;
      source_fits = planned.source_fits;
      target_fits = planned.target_fits;
      source_is = planned.kept ∙ invariant.source_is;
      target_is = planned.target_kept ∙ invariant.target_is;
      source_alike = planned.same ∙ invariant.source_alike;
      target_alike = planned.target_same ∙ invariant.target_alike;
      source_faults = planned.cause ∙ invariant.source_faults;
      target_faults = planned.target_cause ∙ invariant.target_faults;
      matched = planned.matched;
      planned = (
        so.0 ++ next.0,
        (
          tallies_then target.keys target.log tally c.loop-place.tally c.plan_name.new.tally so.0 next.0 so.1.0
              (subst (λ (r : RepoState). TalliesOn r.keys r.log c.loop-place.tally next.0 c.plan_name.new.tally) invariant.target_is next.1.0),
          next_planned (g.S.Shelf.told c.args.shelf.now) (g.S.Shelf.told c.loop-place.shelf) (repo_view c.args.source.now) (repo_view c.loop-place.source)
              tally.block c.loop-place.tally.block (g.T.Shelf.told c.args.other.now) (g.T.Shelf.told c.loop-place.other) target
              (repo_view c.loop-place.target) names place name so.0 next.0 invariant.source_alike invariant.source_is invariant.target_alike
              invariant.target_is invariant.block lt is so.1.1 next.1.1,
        ),
      );
      unread = λ lacks.
          planned.unread (subst (λ (r : RepoState). archive_named name r.manifest.archives ≡ None) (sym invariant.target_is)
          (lacks name (place, slice_get_read names (length names) place name refl lt is)))
          ∙ invariant.unread lacks;
    }

pub returns-clause-planned : goal.returns-clause-planned
returns-clause-planned g c =
    let so = c.loop-place.invariant.planned in (
      so.0,
      (
        so.1.0,
        all_planned (g.S.Shelf.told c.args.shelf.now) (repo_view c.args.source.now) c.args.tally.now.block (g.T.Shelf.told c.args.other.now)
            (repo_view c.args.target.now) c.args.names.now c.loop-place.place so.0 c.loop-place-test.false so.1.1,
      ),
    )

pub returns-in_err-plan_name-clause-refused : goal.returns-in_err-plan_name-clause-refused
returns-in_err-plan_name-clause-refused g c =
    let invariant = c.loop-place.invariant in
    let so = invariant.planned in
    let told = g.S.Shelf.told c.args.shelf.now in
    let other = g.T.Shelf.told c.args.other.now in
    let source = repo_view c.args.source.now in
    let target = repo_view c.args.target.now in
    let block = c.args.tally.now.block in
    let names = c.args.names.now in
    let place = c.loop-place.place in
    let at = c.index-names-place in
    let name = c.as_slice-name.result.now in
    let lt : place < length names = omega arith in
    let is : name ≡ get_or names place name = subst (λ (n : List ℕ). n ≡ get_or names place n) (sym c.as_slice-name.ensures) at.is in
    gives_err c.from_residual.result _ _ c.from_residual.ensures.1
    (λ f same. subst (RefusesBehind told source block other target names) (sym same)
    (name_stops told (g.S.Shelf.told c.loop-place.shelf) source (repo_view c.loop-place.source) block c.loop-place.tally.block other
    (g.T.Shelf.told c.loop-place.other) target (repo_view c.loop-place.target) names place name so.0 c.in_err-plan_name.field-0.0 invariant.source_alike
    invariant.source_is invariant.target_alike invariant.target_is invariant.block lt is c.requires.named so.1.1 c.in_err-plan_name.ensures.refused))
