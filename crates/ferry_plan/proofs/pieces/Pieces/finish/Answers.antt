use Rattle.std.proofs.Common.{refl}
use Rattle.ferry_plan.proofs.TallyLemmas.{takes_by}
use Rattle.ferry_plan.proofs.pieces.Pieces.finish.Goals as goal
use Rattle.ferry_repo.specs.Opening.{repo_view}

pub returns-clause-taken : goal.returns-clause-taken
returns-clause-taken c kind =
    let target = repo_view c.args.target.now in
    let now = c.add_last.new.self in
    let last = c.in_ok-add_last.ensures.taken kind in (
      last.0,
      (
        takes_by kind target.keys target.log c.args.known.now c.add_last.new.known c.args.self.now c.args.self.now now
            (record now { chunks = c.replace.new.dest }) last.0 refl refl refl refl last.1.0,
        last.1.1,
      ),
    )
