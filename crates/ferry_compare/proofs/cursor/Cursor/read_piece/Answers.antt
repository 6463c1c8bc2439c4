use Rattle.std.proofs.Common.{[], Ok, ap}
use Rattle.ferry_repo.specs.Opening.{repo_view}
use Rattle.ferry_compare.specs.Steps.{cursor_view}
use Rattle.ferry_compare.proofs.PassLemmas.{found_passes, refused_strays}
use Rattle.ferry_compare.proofs.cursor.Cursor.read_piece.Goals as goal

pub returns-in-Some-clause-passes : goal.returns-in-Some-clause-passes
returns-in-Some-clause-passes g c =
    found_passes (g.T.Shelf.told c.args.other.now) (repo_view c.args.target.now) c.args.others.now (cursor_view c.args.self.now) _
    c.in_ok-piece.field-0 c.in-Some.piece c.in-Some.is c.requires.passed c.requires.more c.in_ok-piece.ensures.content

pub returns-in-None-clause-strays : goal.returns-in-None-clause-strays
returns-in-None-clause-strays g c = λ e.
    refused_strays (g.T.Shelf.told c.args.other.now) (repo_view c.args.target.now) c.args.others.now (cursor_view c.args.self.now)
    (cursor_view c.args.self.now) _ [] c.requires.more (c.in_ok-piece.ensures.none (ap (λ x. Ok x) c.in-None.is))
