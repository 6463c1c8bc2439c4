use Rattle.std.proofs.Common.{◌≡◌, [], ◌∙◌, Ok, Result, ap, subst, sym, rules}
use Rattle.ferry_carry.proofs.FlightLemmas.{fits_read, same_read, works_read, works_unread}
use Rattle.ferry_piece.proofs.WorkLemmas.{err_is}
use Rattle.ferry_carry.proofs.flight.compare_item.Goals as goal
use Rattle.ferry_piece.specs.Adding.{AddsOn}
use Rattle.ferry_piece.specs.Fault.{compare_fault}
use Rattle.ferry_piece.specs.declared.fault.CarryFault.{CarryFault}
use Rattle.ferry_compare.specs.Compare.{AreEqual, comparison_view, Differ, FitsTold, met_behind, seen}
use Rattle.ferry_compare.specs.declared.comparison.Compared.{Compared}
use Rattle.ferry_compare.specs.declared.comparison.Compared.TheVariants.{Equal, Differs, More}
use Rattle.ferry_repo.specs.Opening.{RepoState, repo_view}
use Rattle.ferry_store.specs.declared.store.Store.{Store}
use Rattle.ferry_carry.proofs.CauseLemmas.{differs_there}

pub returns-in_err-compared-clause-works : goal.returns-in_err-compared-clause-works
returns-in_err-compared-clause-works g c most =
    let a = g.D.Shelf.told c.args.depot.now in
    let b = g.D.Shelf.told c.step.new.other in
    let n = g.D.Shelf.faults c.args.depot.now in
    let m = g.D.Shelf.faults c.step.new.other in
    let store = c.args.store.now in
    let now : Store = record store { repo = c.step.new.target } in
    let fault = c.in_err-compared.field-0.0 in
    err_is c.from_residual.result (compare_fault fault)
    (λ (r : Result Compared CarryFault). AddsOn most store [] now a b n m r) c.from_residual.ensures.1
    (works_unread {U = Compared} Compared most store c.step.new.target a b n m fault (c.step.ensures.target_kept ∙ ap repo_view c.repo.ensures.repo)
    c.in_err-compared.ensures.target_same c.in_err-compared.ensures.target_cause c.in_err-compared.ensures.refused_target c.step.ensures.target_fits)

pub returns-clause-works : goal.returns-clause-works
returns-clause-works g c most =
    let compared = c.in_ok-compared.compared in
    works_read {T = Compared} {U = Compared} most c.args.store.now c.step.new.target (g.D.Shelf.told c.args.depot.now) (g.D.Shelf.told c.step.new.other)
    (g.D.Shelf.faults c.args.depot.now) (g.D.Shelf.faults c.step.new.other) compared compared (c.step.ensures.target_kept ∙ ap repo_view c.repo.ensures.repo)
    c.in_ok-compared.ensures.target_same c.in_ok-compared.ensures.target_cause c.step.ensures.target_fits

pub step-requires-clause-fits : goal.step-requires-clause-fits
step-requires-clause-fits g c =
    let met = c.requires.comparison.0 in (
      met,
      subst (λ (r : RepoState). FitsTold (g.S.Shelf.told c.args.shelf.now) (repo_view c.args.source.now) (g.D.Shelf.told c.args.depot.now) r met
          (comparison_view c.args.comparison.now)) (sym (ap repo_view c.repo.ensures.repo)) c.requires.comparison.1,
    )

pub returns-clause-found : goal.returns-clause-found
returns-clause-found g c = λ met fits.
    let told = g.S.Shelf.told c.args.shelf.now in
    let source = repo_view c.args.source.now in
    let a = g.D.Shelf.told c.args.depot.now in
    let b = g.D.Shelf.told c.step.new.other in
    let was = repo_view c.args.store.now.repo in
    let now = repo_view c.step.new.target in
    let state = comparison_view c.args.comparison.now in
    let compared = c.in_ok-compared.compared in
    let repo : repo_view c.repo.result.now ≡ was = ap repo_view c.repo.ensures.repo in
    let kept = c.step.ensures.target_kept ∙ repo in
    let alike = c.in_ok-compared.ensures.target_same in
    record {
      equal = λ e block most time.
          let is : compared ≡ Equal = cc in
          same_read {T = Compared} told a b source block most time was now state.name compared kept alike
          (subst (λ (r : RepoState). AreEqual told source a r state.name) repo (c.in_ok-compared.ensures.equal (ap Ok is)));
      differs = λ e block most time.
          let is : compared ≡ Differs = cc in
          differs_there {T = Compared} told a b source block most time was now met state.other state.name compared kept alike
          (subst (λ (r : RepoState). Differ told source (met_behind state.other met (seen a r)).told (met_behind state.other met (seen a r)).repo state.name)
          repo (c.in_ok-compared.ensures.differs met (subst (λ (r : RepoState). FitsTold told source a r met state) (sym repo) fits) (ap Ok is)));
    }

pub returns-clause-comparison : goal.returns-clause-comparison
returns-clause-comparison g c = λ met fits e.
    let told = g.S.Shelf.told c.args.shelf.now in
    let source = repo_view c.args.source.now in
    let a = g.D.Shelf.told c.args.depot.now in
    let state = comparison_view c.args.comparison.now in
    let compared = c.in_ok-compared.compared in
    let is : compared ≡ More = cc in
    let repo : repo_view c.repo.result.now ≡ repo_view c.args.store.now.repo = ap repo_view c.repo.ensures.repo in
    c.in_ok-compared.ensures.fits met (subst (λ (r : RepoState). FitsTold told source a r met state) (sym repo) fits) (ap Ok is)

pub returns-clause-both : goal.returns-clause-both
returns-clause-both g c = record {
  source = search rules;
  target =
      record {
        read = search rules;
        fits =
            fits_read {T = Compared} c.args.store.now c.step.new.target (g.D.Shelf.told c.args.depot.now) (g.D.Shelf.told c.step.new.other) c.step.result
            (c.step.ensures.target_kept ∙ ap repo_view c.repo.ensures.repo) c.step.ensures.target_same c.step.ensures.target_fits c.requires.both.target;
        stops = search rules;
      };
}

pub returns-in_err-compared-clause-both : goal.returns-in_err-compared-clause-both
returns-in_err-compared-clause-both g c = record {
  source = search rules;
  target =
      record {
        read = search rules;
        fits =
            fits_read {T = Compared} c.args.store.now c.step.new.target (g.D.Shelf.told c.args.depot.now) (g.D.Shelf.told c.step.new.other) c.step.result
            (c.step.ensures.target_kept ∙ ap repo_view c.repo.ensures.repo) c.step.ensures.target_same c.step.ensures.target_fits c.requires.both.target;
        stops = search rules;
      };
}
