use Rattle.std.proofs.Common.{◌≡◌, ◌++◌, ℕ, List, [], ◌∷◌, OnOk, refl, sym, subst}
use Rattle.ferry_piece.proofs.PieceLemmas.{counts_none, cut_none, none_more, none_there}
use Rattle.ferry_piece.proofs.WorkLemmas.{gathered_none}
use Rattle.ferry_piece.proofs.piece.PieceWriter.add_last.Goals as goal
use Rattle.ferry_piece.specs.Gather.{chunks_of}
use Rattle.ferry_piece.specs.Puts.{addition}
use Rattle.ferry_rechunk.proofs.CutLemmas.{cut_short}
use Rattle.ferry_rechunk.specs.Cut.{cut}
use Rattle.ferry_repo.specs.Opening.{repo_view}

pub returns-then-is_none-clause-works : goal.returns-then-is_none-clause-works
returns-then-is_none-clause-works g c kind piece_is =
    let most = c.args.self.now.checkpoint in
    let store = c.args.store.now in
    let a = g.D.Shelf.told c.args.depot.now in
    let n = g.D.Shelf.faults c.args.depot.now in
    let cutter = c.args.self.now.cutter in
    let none : cut cutter.block cutter.piece ≡ [] =
    cut_none cutter.block cutter.piece c.requires.least
    (λ some. none_there c.last.result c.if-is_none.ensures (c.last.ensures.last.1 some)) in (
      [],
      (
        gathered_none {T = Unit {0}} most store a n tt,
        ((sym none, tt), counts_none kind c.args.self.now),
      ),
    )

pub returns-then-is_none-clause-chunks : goal.returns-then-is_none-clause-chunks
returns-then-is_none-clause-chunks g c =
    let cutter = c.args.self.now.cutter in
    let none : cut cutter.block cutter.piece ≡ [] =
    cut_none cutter.block cutter.piece c.requires.least
    (λ some. none_there c.last.result c.if-is_none.ensures (c.last.ensures.last.1 some)) in
    none_more (repo_view c.args.store.now.repo).keys c.args.self.now.chunks.items (cut cutter.block cutter.piece) none

pub returns-clause-works : goal.returns-clause-works
returns-clause-works g c kind piece_is =
    let cutter = c.args.self.now.cutter in
    let put = c.add.ensures.works in
    let next = put.1 kind piece_is in (
      addition kind cutter.piece put.0 ∷ [],
      (
        next.0,
        (
          (sym (cut_short cutter.block cutter.piece (c.last.ensures.last.0 c.if-is_none.ensures) c.requires.within), (refl, tt)),
          next.1,
        ),
      ),
    )

pub returns-clause-chunks : goal.returns-clause-chunks
returns-clause-chunks g c =
    let cutter = c.args.self.now.cutter in
    let keys = (repo_view c.args.store.now.repo).keys in
    subst (λ (contents : List (List ℕ)). OnOk c.add.result (c.add.new.self.chunks.items ≡ c.args.self.now.chunks.items ++ chunks_of keys contents))
    (sym (cut_short cutter.block cutter.piece (c.last.ensures.last.0 c.if-is_none.ensures) c.requires.within)) c.add.ensures.chunks
