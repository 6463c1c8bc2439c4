use Rattle.std.proofs.Common.{◌<◌, length, drop, ◌∙◌, arith}
use Rattle.std.proofs.lemmas.List.{length-drop}
use Rattle.ferry_repo.specs.Opening.{repo_view}
use Rattle.ferry_compare.specs.Steps.{cursor_view}
use Rattle.ferry_compare.proofs.PassLemmas.{ends_next, goes_past_piece, goes_past_chunk}
use Rattle.ferry_compare.proofs.cursor.Cursor.ends.Goals as goal

pub returns-then-self-len-clause-ends : goal.returns-then-self-len-clause-ends
returns-then-self-len-clause-ends g c =
    let cursor = cursor_view c.args.self.now in
    let some : 0 < length (drop cursor.at cursor.piece) =
    omega (arith, length-drop cursor.at cursor.piece, c.if-self-len.true, c.len.ensures) in
    goes_past_piece (g.T.Shelf.told c.args.other.now) (repo_view c.args.target.now) c.args.others.now cursor some

pub returns-then-not-branch-clause-ends : goal.returns-then-not-branch-clause-ends
returns-then-not-branch-clause-ends g c =
    let lt : c.loop-place.place < length c.args.others.now = omega arith in
    goes_past_chunk (g.T.Shelf.told c.args.other.now) (repo_view c.args.target.now) c.args.others.now (g.T.Shelf.told c.loop-place.other)
    (repo_view c.loop-place.target) (cursor_view c.args.self.now) c.loop-place.place _ c.in_ok-is_empty.field-0 c.loop-place.invariant.same
    c.loop-place.invariant.repo lt c.if-not-branch.true c.in_ok-is_empty.ensures.empty c.loop-place.invariant.passes

pub loop-place-preserved : goal.loop-place-preserved
loop-place-preserved g c =
    let lt : c.loop-place.place < length c.args.others.now = omega arith in
    record {
      passes = ends_next (g.T.Shelf.told c.args.other.now) (repo_view c.args.target.now) c.args.others.now (g.T.Shelf.told c.loop-place.other)
          (repo_view c.loop-place.target) (cursor_view c.args.self.now) c.loop-place.place _ c.in_ok-is_empty.field-0 c.loop-place.invariant.same
          c.loop-place.invariant.repo lt c.if-not-branch.false c.in_ok-is_empty.ensures.empty c.loop-place.invariant.passes;
      fits = c.in_ok-is_empty.ensures.fits;
      repo = c.in_ok-is_empty.ensures.kept ∙ c.loop-place.invariant.repo;
      same = c.in_ok-is_empty.ensures.same ∙ c.loop-place.invariant.same;
      faults = c.in_ok-is_empty.ensures.cause ∙ c.loop-place.invariant.faults;
    }
