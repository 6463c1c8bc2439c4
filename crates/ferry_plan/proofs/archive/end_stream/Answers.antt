use Rattle.std.proofs.Common.{ℕ, ◌∙◌, ap}
use Rattle.ferry_piece.specs.Puts.{Stream}
use Rattle.ferry_plan.proofs.TallyLemmas.{stream_tallied}
use Rattle.ferry_plan.proofs.archive.end_stream.Goals as goal
use Rattle.ferry_rechunk.specs.Cut.{cut}
use Rattle.ferry_repo.specs.Opening.{repo_view}

pub returns-clause-taken : goal.returns-clause-taken
returns-clause-taken c =
    let target = repo_view c.args.target.now in
    let tally = c.args.tally.now in
    let last = c.in_ok-finish.ensures.taken Stream in (
      last.0,
      (
        stream_tallied target.keys target.log tally c.finish.new.known c.finish.new.self last.0 last.1.0,
        (last.1.1 ∙ ap (λ (block : ℕ). cut block tally.stream.cutter.piece) c.requires.ready.stream_block_is, last.1.0.of),
      ),
    )
