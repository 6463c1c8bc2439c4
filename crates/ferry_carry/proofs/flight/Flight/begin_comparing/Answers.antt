use Rattle.std.proofs.Common.{◌≡◌, [], ◌∙◌, Result, ap, sym, subst, rules}
use Rattle.ferry_carry.proofs.FlightLemmas.{fits_read, works_read, works_unread}
use Rattle.ferry_piece.proofs.WorkLemmas.{err_is}
use Rattle.ferry_carry.proofs.flight.Flight.begin_comparing.Goals as goal
use Rattle.ferry_piece.specs.Adding.{AddsOn}
use Rattle.ferry_piece.specs.Fault.{compare_fault}
use Rattle.ferry_piece.specs.declared.fault.CarryFault.{CarryFault}
use Rattle.ferry_compare.proofs.MatchedLemmas.{resumed}
use Rattle.ferry_compare.proofs.StepLemmas.{matched_later}
use Rattle.ferry_compare.specs.Compare.{ComparisonState, FitsTold, comparison_view, seen}
use Rattle.ferry_compare.specs.Matched.{AreMatched}
use Rattle.ferry_compare.specs.declared.comparison.Comparison.{Comparison}
use Rattle.ferry_repo.specs.Opening.{repo_view}
use Rattle.ferry_store.specs.declared.store.Store.{Store}

pub returns-in_err-comparison-clause-works : goal.returns-in_err-comparison-clause-works
returns-in_err-comparison-clause-works g c most =
    let a = g.D.Shelf.told c.args.depot.now in
    let b = g.D.Shelf.told c.begin.new.other in
    let n = g.D.Shelf.faults c.args.depot.now in
    let m = g.D.Shelf.faults c.begin.new.other in
    let store = c.args.store.now in
    let now : Store = record store { repo = c.begin.new.target } in
    let fault = c.in_err-comparison.field-0.0 in
    err_is c.from_residual.result (compare_fault fault)
    (λ (r : Result Comparison CarryFault). AddsOn most store [] now a b n m r) c.from_residual.ensures.1
    (works_unread {U = Comparison} Comparison most store c.begin.new.target a b n m fault (c.begin.ensures.target_kept ∙ ap repo_view c.repo.ensures.repo)
    c.in_err-comparison.ensures.target_same c.in_err-comparison.ensures.target_cause c.in_err-comparison.ensures.refused_target
    c.begin.ensures.target_fits)

pub returns-clause-works : goal.returns-clause-works
returns-clause-works g c most =
    let comparison = c.in_ok-comparison.comparison in
    works_read {T = Comparison} {U = Comparison} most c.args.store.now c.begin.new.target (g.D.Shelf.told c.args.depot.now) (g.D.Shelf.told c.begin.new.other)
    (g.D.Shelf.faults c.args.depot.now) (g.D.Shelf.faults c.begin.new.other) comparison c.resume.new.self
    (c.begin.ensures.target_kept ∙ ap repo_view c.repo.ensures.repo)
    c.in_ok-comparison.ensures.target_same c.in_ok-comparison.ensures.target_cause c.begin.ensures.target_fits

pub returns-clause-both : goal.returns-clause-both
returns-clause-both g c = record {
  source = search rules;
  target =
      record {
        read = search rules;
        fits =
            fits_read {T = Comparison} c.args.store.now c.begin.new.target (g.D.Shelf.told c.args.depot.now) (g.D.Shelf.told c.begin.new.other) c.begin.result
            (c.begin.ensures.target_kept ∙ ap repo_view c.repo.ensures.repo) c.begin.ensures.target_same c.begin.ensures.target_fits c.requires.both.target;
        stops = search rules;
      };
}

pub returns-in_err-comparison-clause-both : goal.returns-in_err-comparison-clause-both
returns-in_err-comparison-clause-both g c = record {
  source = search rules;
  target =
      record {
        read = search rules;
        fits =
            fits_read {T = Comparison} c.args.store.now c.begin.new.target (g.D.Shelf.told c.args.depot.now) (g.D.Shelf.told c.begin.new.other) c.begin.result
            (c.begin.ensures.target_kept ∙ ap repo_view c.repo.ensures.repo) c.begin.ensures.target_same c.begin.ensures.target_fits c.requires.both.target;
        stops = search rules;
      };
}

pub returns-clause-comparison : goal.returns-clause-comparison
returns-clause-comparison g c =
    let told = g.S.Shelf.told c.args.shelf.now in
    let later = g.S.Shelf.told c.begin.new.shelf in
    let source = repo_view c.args.source.now in
    let after = repo_view c.begin.new.source in
    let a = g.D.Shelf.told c.args.depot.now in
    let b = g.D.Shelf.told c.begin.new.other in
    let target = repo_view c.args.store.now.repo in
    let renewed = repo_view c.begin.new.target in
    let begun = c.in_ok-comparison.ensures in
    let matched = c.replace.result in
    let taken : matched ≡ c.args.self.now.matches = search rules in
    let was = c.in_ok-comparison.comparison in
    let is : comparison_view c.resume.new.self ≡ record (comparison_view was) { matched = matched } = c.resume.ensures.resumed in
    record {
      comparison = subst (FitsTold later after b renewed (seen b renewed)) (sym is)
          (resumed later after b renewed (seen b renewed) (comparison_view was) matched begun.fits
          (matched_later told later source after a b target renewed begun.same begun.kept begun.target_same
          (begun.target_kept ∙ ap repo_view c.repo.ensures.repo) matched
          (subst (AreMatched told source a target) (sym taken) c.requires.matched)));
      same_name = ap (λ (s : ComparisonState). s.name) is ∙ (begun.name ∙ c.as_slice-name.ensures);
    }
