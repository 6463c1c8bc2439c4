use Rattle.std.proofs.Common.{ℕ, List, [], ◌∷◌, true, Result, Ok, Err, OnOk, length, refl, sym, ap, subst}
use Rattle.ferry_piece.proofs.FewLemmas.{memory_unused}
use Rattle.ferry_piece.proofs.PieceLemmas.{counts_by}
use Rattle.ferry_piece.proofs.WorkLemmas.{err_is, gathered_as, gathered_err, gathered_fault}
use Rattle.ferry_piece.proofs.piece.PieceWriter.add.Goals as goal
use Rattle.ferry_piece.specs.Adding.{AddsOn}
use Rattle.ferry_piece.specs.Piece.{CountsOn}
use Rattle.ferry_piece.specs.Puts.{addition}
use Rattle.ferry_piece.specs.declared.fault.CarryFault.{CarryFault}
use Rattle.ferry_piece.specs.declared.fault.CarryFault.TheVariants.{Memory}
use Rattle.ferry_store.specs.declared.content.Added.{Added}

pub returns-in_err-added-clause-works : goal.returns-in_err-added-clause-works
returns-in_err-added-clause-works g c =
    let most = c.args.self.now.checkpoint in
    let store = c.args.store.now in
    let now = c.add_foreseen.new.store in
    let a = g.D.Shelf.told c.args.depot.now in
    let b = g.D.Shelf.told c.add_foreseen.new.depot in
    let n = g.D.Shelf.faults c.args.depot.now in
    let m = g.D.Shelf.faults c.add_foreseen.new.depot in
    let fault = c.in_err-added.field-0.0 in
    let writer = c.args.self.now in (
      true,
      λ kind piece_is.
          let one = addition kind writer.cutter.piece true in
          err_is c.from_residual.result fault
          (λ (r : Result (Unit {0}) CarryFault). AddsOn most store (one ∷ []) now a b n m r
          × OnOk r (CountsOn kind writer (one ∷ []) writer)) c.from_residual.ensures.1 (
            gathered_err {T = Added} {U = Unit {0}} most store now (one ∷ []) a b n m fault
                (subst (λ (piece : List ℕ). AddsOn {T = Added} most store (addition kind piece true ∷ []) now a b n m (Err fault))
                c.in-Some.ensures.piece
                (c.in_err-added.ensures.works kind true piece_is refl)),
            tt,
          ),
    )

pub returns-in_err-note-clause-works : goal.returns-in_err-note-clause-works
returns-in_err-note-clause-works g c =
    let most = c.args.self.now.checkpoint in
    let store = c.args.store.now in
    let now = c.add_foreseen.new.store in
    let a = g.D.Shelf.told c.args.depot.now in
    let b = g.D.Shelf.told c.add_foreseen.new.depot in
    let n = g.D.Shelf.faults c.args.depot.now in
    let m = g.D.Shelf.faults c.add_foreseen.new.depot in
    let writer = c.args.self.now in
    let put = c.in_ok-added.added.new in (
      put,
      λ kind piece_is.
          let one = addition kind writer.cutter.piece put in
          err_is c.from_residual-in_err-note.result Memory
          (λ (r : Result (Unit {0}) CarryFault). AddsOn most store (one ∷ []) now a b n m r
          × OnOk r (CountsOn kind writer (one ∷ []) c.note.new.self)) c.from_residual-in_err-note.ensures.1 (
            gathered_fault {T = Added} {U = Unit {0}} most store now (one ∷ []) a b n m c.in_ok-added.added Memory refl tt memory_unused
                (subst (λ (piece : List ℕ). AddsOn {T = Added} most store (addition kind piece put ∷ []) now a b n m (Ok c.in_ok-added.added))
                c.in-Some.ensures.piece
                (c.in_ok-added.ensures.works kind put piece_is refl)),
            tt,
          ),
    )

pub returns-clause-works : goal.returns-clause-works
returns-clause-works g c =
    let most = c.args.self.now.checkpoint in
    let store = c.args.store.now in
    let now = c.add_foreseen.new.store in
    let a = g.D.Shelf.told c.args.depot.now in
    let b = g.D.Shelf.told c.add_foreseen.new.depot in
    let n = g.D.Shelf.faults c.args.depot.now in
    let m = g.D.Shelf.faults c.add_foreseen.new.depot in
    let writer = c.args.self.now in
    let put = c.in_ok-added.added.new in (
      put,
      λ kind piece_is.
          let one = addition kind writer.cutter.piece put in (
            gathered_as {T = Added} {U = Unit {0}} most store now (one ∷ []) a b n m c.in_ok-added.added tt
                (subst (λ (piece : List ℕ). AddsOn {T = Added} most store (addition kind piece put ∷ []) now a b n m (Ok c.in_ok-added.added))
                c.in-Some.ensures.piece
                (c.in_ok-added.ensures.works kind put piece_is refl)),
            counts_by kind writer writer c.note.new.self (record c.note.new.self { cutter = c.clear.new.self }) (one ∷ []) refl refl refl refl
                (c.in_ok-note.ensures.counted kind writer.cutter.piece (ap length (sym c.in-Some.ensures.piece))),
          ),
    )
