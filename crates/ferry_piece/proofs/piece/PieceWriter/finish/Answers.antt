use Rattle.std.proofs.Common.{Global, Vec, Result, OnOk, refl}
use Rattle.ferry_piece.proofs.PieceLemmas.{counts_by}
use Rattle.ferry_piece.proofs.WorkLemmas.{err_is, gathered_as, gathered_err}
use Rattle.ferry_piece.proofs.piece.PieceWriter.finish.Goals as goal
use Rattle.ferry_piece.specs.Adding.{AddsOn}
use Rattle.ferry_piece.specs.Piece.{CountsOn}
use Rattle.ferry_piece.specs.Puts.{ArePieces}
use Rattle.ferry_piece.specs.declared.fault.CarryFault.{CarryFault}
use Rattle.ferry_item.specs.declared.item.ChunkRef.{ChunkRef}
use Rattle.ferry_rechunk.specs.Cut.{cut}

pub returns-in_err-add_last-clause-works : goal.returns-in_err-add_last-clause-works
returns-in_err-add_last-clause-works g c kind piece =
    let added = c.in_err-add_last.ensures.works kind piece in
    let more = added.0 in
    let writer = c.args.self.now in
    let most = writer.checkpoint in
    let store = c.args.store.now in
    let now = c.add_last.new.store in
    let a = g.D.Shelf.told c.args.depot.now in
    let b = g.D.Shelf.told c.add_last.new.depot in
    let n = g.D.Shelf.faults c.args.depot.now in
    let m = g.D.Shelf.faults c.add_last.new.depot in
    let fault = c.in_err-add_last.field-0.0 in (
      more,
      err_is c.from_residual.result fault
          (λ (r : Result (Vec ChunkRef Global) CarryFault). AddsOn most store more now a b n m r
          × (ArePieces kind (cut writer.cutter.block writer.cutter.piece) more × OnOk r (CountsOn kind writer more c.add_last.new.self)))
          c.from_residual.ensures.1 (
            gathered_err {T = Unit {0}} {U = Vec ChunkRef Global} most store now more a b n m fault added.1.0,
            (added.1.1.0, tt),
          ),
    )

pub returns-clause-works : goal.returns-clause-works
returns-clause-works g c kind piece =
    let added = c.in_ok-add_last.ensures.works kind piece in
    let more = added.0 in
    let writer = c.args.self.now in
    let writer_now = c.add_last.new.self in (
      more,
      (
        gathered_as {T = Unit {0}} {U = Vec ChunkRef Global} writer.checkpoint c.args.store.now c.add_last.new.store more
            (g.D.Shelf.told c.args.depot.now) (g.D.Shelf.told c.add_last.new.depot) (g.D.Shelf.faults c.args.depot.now)
            (g.D.Shelf.faults c.add_last.new.depot) tt c.replace.result added.1.0,
        (
          added.1.1.0,
          counts_by kind writer writer writer_now (record writer_now { chunks = c.replace.new.dest }) more refl refl refl refl added.1.1.1,
        ),
      ),
    )
