use Rattle.std.proofs.Common.{◌≡◌, [], None, drop, arith}
use Rattle.std.proofs.lemmas.List.{drop_all}
use Rattle.ferry_repo.specs.Opening.{repo_view}
use Rattle.ferry_compare.specs.Steps.{cursor_view}
use Rattle.ferry_compare.proofs.PassLemmas.{piece_strays, end_strays, more_strays}
use Rattle.ferry_compare.proofs.cursor.Cursor.go_on.Goals as goal

pub returns-then-self-len-clause-strays : goal.returns-then-self-len-clause-strays
returns-then-self-len-clause-strays g c = λ e.
    let cursor = cursor_view c.args.self.now in
    let none : c.match_piece.result ≡ None = cc in
    piece_strays (g.T.Shelf.told c.args.other.now) (repo_view c.args.target.now) c.args.others.now cursor cursor c.args.bytes.now
    (c.match_piece.ensures.differ none)

pub returns-then-self-others-clause-strays : goal.returns-then-self-others-clause-strays
returns-then-self-others-clause-strays g c = λ e.
    let cursor = cursor_view c.args.self.now in
    let left : drop cursor.at cursor.piece ≡ [] = drop_all cursor.at cursor.piece (omega (arith, c.if-self-len.false, c.len.ensures)) in
    end_strays (g.T.Shelf.told c.args.other.now) (repo_view c.args.target.now) c.args.others.now cursor cursor c.args.bytes.now left
    c.if-self-others.true c.requires.some

pub returns-clause-strays : goal.returns-clause-strays
returns-clause-strays g c = λ e.
    let cursor = cursor_view c.args.self.now in
    more_strays (g.T.Shelf.told c.args.other.now) (repo_view c.args.target.now) c.args.others.now cursor cursor c.args.bytes.now
    (c.read_piece.ensures.strays e)
