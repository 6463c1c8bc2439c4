use Rattle.std.proofs.Common.{◌∷◌, [], ◌++◌, ℕ, List, length, refl, sym, ap, subst}
use Rattle.ferry_piece.specs.Puts.{addition}
use Rattle.ferry_plan.specs.Tally.{Knows}
use Rattle.ferry_plan.proofs.pieces.Pieces.add.Goals as goal
use Rattle.ferry_repo.specs.Opening.{repo_view}

pub returns-clause-taken : goal.returns-clause-taken
returns-clause-taken c kind =
    let piece = c.args.self.now.cutter.piece in
    let target = repo_view c.args.target.now in
    let new = c.in_ok-noted.noted.new in
    let one = addition kind piece new in (
      one ∷ [],
      (
        record {
          of = (refl, tt);
          knows = λ added k.
              subst (λ (content : List ℕ). Knows target.keys target.log c.note.new.known (added ++ addition kind content new ∷ [])) c.in-Some.ensures.piece
              (c.in_ok-noted.ensures.knows kind added k);
          counts = λ added counts. c.in_ok-push.ensures.counted kind piece added (ap length (sym c.in-Some.ensures.piece)) counts;
        },
        refl,
      ),
    )
