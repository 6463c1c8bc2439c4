use Rattle.std.proofs.Common.{rules, ◌≡◌, ◌∙◌, sym, ap, subst, Ok}
use Rattle.ferry_compare.proofs.MatchedLemmas.{resumed}
use Rattle.ferry_compare.proofs.StepLemmas.{matched_later}
use Rattle.ferry_compare.specs.Compare.{ComparisonState, FitsTold, comparison_view, seen}
use Rattle.ferry_compare.specs.Matched.{AreMatched}
use Rattle.ferry_plan.proofs.PresentLemmas.{compare_told, differ_first, equal_first, equal_told, source_first, taken_told}
use Rattle.ferry_plan.proofs.present.compare_archive.Goals as goal
use Rattle.ferry_plan.specs.Plan.{RefusesName}
use Rattle.ferry_repo.proofs.FaultLemmas.{gives_err}
use Rattle.ferry_repo.specs.Opening.{repo_view}

pub returns-in_err-comparison-clause-refused : goal.returns-in_err-comparison-clause-refused
returns-in_err-comparison-clause-refused g c =
    let told = g.S.Shelf.told c.args.shelf.now in
    let other = g.T.Shelf.told c.args.other.now in
    let source = repo_view c.args.source.now in
    let target = repo_view c.args.target.now in
    let name = c.args.name.now in
    gives_err c.from_residual.result _ _ c.from_residual.ensures.1
    (λ fault is block. subst (RefusesName told source block other target name) (sym is)
    (compare_told told source block other target name c.in_err-comparison.field-0.0 c.requires.target_named c.in_err-comparison.ensures.refused_source
    c.in_err-comparison.ensures.refused_target))

pub returns-in_err-equal-clause-refused : goal.returns-in_err-equal-clause-refused
returns-in_err-equal-clause-refused g c =
    let told = g.S.Shelf.told c.args.shelf.now in
    let other = g.T.Shelf.told c.args.other.now in
    let source = repo_view c.args.source.now in
    let target = repo_view c.args.target.now in
    let name = c.args.name.now in
    let begun = c.in_ok-comparison.ensures in
    let named : (comparison_view c.resume.new.self).name ≡ name = ap (λ (s : ComparisonState). s.name) c.resume.ensures.resumed ∙ begun.name in
    gives_err c.from_residual-in_err-equal.result _ _ c.from_residual-in_err-equal.ensures.1
    (λ fault is block. subst (RefusesName told source block other target name) (sym is)
    (compare_told told source block other target name c.in_err-equal.field-0.0 c.requires.target_named
    (source_first told (g.S.Shelf.told c.begin.new.shelf) source (repo_view c.begin.new.source) name (comparison_view c.resume.new.self).name
    c.in_err-equal.field-0.0 begun.same begun.kept named c.in_err-equal.ensures.refused_source) c.in_err-equal.ensures.refused_target))

pub returns-then-equal-clause-equal : goal.returns-then-equal-clause-equal
returns-then-equal-clause-equal g c =
    let told = g.S.Shelf.told c.args.shelf.now in
    let other = g.T.Shelf.told c.args.other.now in
    let source = repo_view c.args.source.now in
    let target = repo_view c.args.target.now in
    let name = c.args.name.now in
    let begun = c.in_ok-comparison.ensures in
    let named : (comparison_view c.resume.new.self).name ≡ name = ap (λ (s : ComparisonState). s.name) c.resume.ensures.resumed ∙ begun.name in
    equal_told told source other target name
    (equal_first told (g.S.Shelf.told c.begin.new.shelf) source (repo_view c.begin.new.source) other (g.T.Shelf.told c.begin.new.other) target
    (repo_view c.begin.new.target) name (comparison_view c.resume.new.self).name begun.same begun.kept begun.target_same begun.target_kept
    named (c.in_ok-equal.ensures.equal (ap Ok c.if-equal.true)))

pub returns-clause-refused : goal.returns-clause-refused
returns-clause-refused g c block =
    let told = g.S.Shelf.told c.args.shelf.now in
    let other = g.T.Shelf.told c.args.other.now in
    let source = repo_view c.args.source.now in
    let target = repo_view c.args.target.now in
    let name = c.args.name.now in
    let begun = c.in_ok-comparison.ensures in
    let named : (comparison_view c.resume.new.self).name ≡ name = ap (λ (s : ComparisonState). s.name) c.resume.ensures.resumed ∙ begun.name in
    taken_told told source block other target name c.taken.result c.requires.target_named
    (differ_first told (g.S.Shelf.told c.begin.new.shelf) source (repo_view c.begin.new.source) other (g.T.Shelf.told c.begin.new.other) target
    (repo_view c.begin.new.target) name (comparison_view c.resume.new.self).name begun.same begun.kept begun.target_same begun.target_kept
    named (c.in_ok-equal.ensures.differs (ap Ok c.if-equal.false))) c.taken.ensures.taken

pub is_equal-requires-clause-fits : goal.is_equal-requires-clause-fits
is_equal-requires-clause-fits g c =
    let told = g.S.Shelf.told c.args.shelf.now in
    let later = g.S.Shelf.told c.begin.new.shelf in
    let source = repo_view c.args.source.now in
    let after = repo_view c.begin.new.source in
    let other = g.T.Shelf.told c.args.other.now in
    let last = g.T.Shelf.told c.begin.new.other in
    let target = repo_view c.args.target.now in
    let renewed = repo_view c.begin.new.target in
    let begun = c.in_ok-comparison.ensures in
    let matched = c.replace.result in
    let taken : matched ≡ c.args.matches.now = search rules in
    subst (FitsTold later after last renewed (seen last renewed)) (sym c.resume.ensures.resumed)
    (resumed later after last renewed (seen last renewed) (comparison_view c.in_ok-comparison.comparison) matched begun.fits
    (matched_later told later source after other last target renewed begun.same begun.kept begun.target_same begun.target_kept matched
    (subst (AreMatched told source other target) (sym taken) c.requires.matched)))
