use Rattle.std.proofs.Common.{List, ℕ, [], option_map, sym, subst}
use Rattle.ferry_repo.specs.Opening.{repo_view}
use Rattle.ferry_repo.specs.Walk.{WalkState, walk_view}
use Rattle.ferry_compare.specs.Compare.{FitsTold, seen}
use Rattle.ferry_compare.specs.Matched.{Matched}
use Rattle.ferry_compare.specs.Steps.{side_view}
use Rattle.ferry_compare.proofs.BeginLemmas.{begins_both}
use Rattle.ferry_compare.proofs.comparison.Comparison.begin.Goals as goal

pub returns-in-Ok-clause-fits : goal.returns-in-Ok-clause-fits
returns-in-Ok-clause-fits g c =
    let later = g.S.Shelf.told c.open_side.new.shelf in
    let after = repo_view c.open_side.new.repo in
    let last = g.T.Shelf.told c.open_target.new.other in
    let renewed = repo_view c.open_target.new.target in
    let side = side_view c.in_ok-first.first in
    let walk = option_map walk_view c.keep_side-beside.result in
    let kept = walk_view c.walk_of.result in
    let matched = c.new.result in
    subst (λ (n : List ℕ). FitsTold later after last renewed (seen last renewed) (record { name = n; walk = kept; other = walk; matched = matched }))
    (sym c.in_ok-owned.ensures.items)
    (subst (λ (m : Matched). FitsTold later after last renewed (seen last renewed) (record { name = c.args.name.now; walk = kept; other = walk; matched = m }))
    (sym c.new.ensures.none)
    (subst (λ (w : WalkState). FitsTold later after last renewed (seen last renewed) (record { name = c.args.name.now; walk = w; other = walk; matched = [] }))
    (sym c.walk_of.ensures.walk)
    (begins_both (g.S.Shelf.told c.args.shelf.now) later (repo_view c.args.source.now) after (g.T.Shelf.told c.args.other.now) last
    (repo_view c.args.target.now) renewed c.args.name.now side (option_map side_view c.in-Ok.second) walk c.requires.named
    c.in_ok-first.ensures.same c.in_ok-first.ensures.kept c.in-Ok.ensures.same c.in-Ok.ensures.kept c.in_ok-first.ensures.opens
    c.in-Ok.ensures.opens c.keep_side-beside.ensures.walk)))
