use Rattle.std.proofs.Common.{Some, Ok, ap, sym, ◌∙◌}
use Rattle.ferry_repo.specs.Opening.{repo_view}
use Rattle.ferry_repo.specs.Walk.{walk_view}
use Rattle.ferry_compare.proofs.FaultLemmas.{refused_files}
use Rattle.ferry_compare.proofs.StepLemmas.{finds_none, finds_found}
use Rattle.ferry_compare.proofs.items.next_item.Goals as goal

pub returns-in-Ok-clause-finds : goal.returns-in-Ok-clause-finds
returns-in-Ok-clause-finds g c =
    finds_found (g.T.Shelf.told c.args.other.now) (repo_view c.args.target.now) (walk_view c.args.walk.now) (walk_view c.step_ahead.new.walk) c.in-Ok.found
    c.requires.walk_fits c.in-Ok.ensures.item (λ e. c.in-Ok.ensures.none (ap (λ x. Ok x) e)) c.in-Ok.ensures.walk_fits c.in-Ok.ensures.archive

pub returns-in-None-clause-finds : goal.returns-in-None-clause-finds
returns-in-None-clause-finds g c =
    finds_none (g.T.Shelf.told c.args.other.now) (repo_view c.args.target.now) (walk_view c.args.walk.now) (walk_view c.step_ahead.new.walk)
    (Some c.in-Err.fault) c.requires.walk_fits
    (c.in-Err.ensures.refused (refused_files c.in-Err.fault (sym c.of_target.ensures.fault ∙ c.in-None.is)))
