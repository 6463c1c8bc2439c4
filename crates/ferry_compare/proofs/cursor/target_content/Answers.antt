use Rattle.std.proofs.Common.{sym, ◌∙◌}
use Rattle.ferry_repo.specs.Opening.{repo_view}
use Rattle.ferry_compare.proofs.ContentLemmas.{gives_none}
use Rattle.ferry_compare.proofs.FaultLemmas.{refused_files}
use Rattle.ferry_compare.proofs.cursor.target_content.Goals as goal

pub returns-in-None-clause-none : goal.returns-in-None-clause-none
returns-in-None-clause-none g c = λ e.
    gives_none (g.T.Shelf.told c.args.other.now) (repo_view c.args.target.now) c.args.chunk.now c.in-Err.fault
    (refused_files c.in-Err.fault (sym c.of_target.ensures.fault ∙ c.in-None.is)) c.in-Err.ensures.refused
