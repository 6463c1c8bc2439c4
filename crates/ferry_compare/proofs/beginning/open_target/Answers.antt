use Rattle.std.proofs.Common.{sym, ◌∙◌}
use Rattle.ferry_disk.proofs.DeviceLemmas.{told_then}
use Rattle.ferry_repo.specs.Opening.{repo_view}
use Rattle.ferry_repo.specs.Whole.{WholeArchive}
use Rattle.ferry_compare.specs.Compare.{Says}
use Rattle.ferry_compare.specs.Steps.{RefusesSide}
use Rattle.ferry_compare.proofs.BeginLemmas.{side_refused}
use Rattle.ferry_compare.proofs.FaultLemmas.{refused_files}
use Rattle.ferry_compare.proofs.beginning.open_target.Goals as goal

pub returns-in-None-clause-opens : goal.returns-in-None-clause-opens
returns-in-None-clause-opens g c =
    let repo = repo_view c.args.target.now in
    let name = c.args.name.now in
    let fault = c.in-Err.fault in
    told_then (g.T.Shelf.told c.args.other.now) (λ f. RefusesSide f repo name fault) (λ f. (whole : WholeArchive) → Says f repo name whole → ⊥)
    (λ f r. side_refused f repo name fault (refused_files fault (sym c.of_target.ensures.fault ∙ c.in-None.is)) r) c.in-Err.ensures.refused
